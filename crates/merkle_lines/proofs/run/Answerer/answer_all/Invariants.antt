use Rattle.std.proofs.Common.{◌≡◌, ℕ, List, [], length, Option, None}
use Rattle.std.specs.Io.KnownBytes.{Appends, Consumes}
use Rattle.merkle_lines.specs.HoldsState.{HoldsState}
use Rattle.merkle_lines.specs.Transcript.{SessionState, ContinuesTo}
use Rattle.merkle_lines.proofs.run.Answerer.answer_all.Given as goal

abbrev pub invariant-loop : goal.invariant-loop
invariant-loop g l =
    (length l.buffer ≡ 4096) × (input output : List ℕ) × (v : Option SessionState) × HoldsState l.self.session v × Consumes (g.R.Read.remaining l.fn.reader) (g.R.Read.remaining l.reader) input
    × Appends (g.W.Write.contents l.fn.writer) (g.W.Write.contents l.writer) output × ContinuesTo None [] input output v l.self.line.items
