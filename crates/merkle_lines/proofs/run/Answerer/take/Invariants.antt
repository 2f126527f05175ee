use Rattle.std.proofs.Common.{◌≡◌, ◌++◌, ℕ, List, Option, length}
use Rattle.std.specs.Io.KnownBytes.{Appends}
use Rattle.merkle_lines.specs.HoldsState.{HoldsState}
use Rattle.merkle_lines.specs.Transcript.{SessionState, ContinuesTo}
use Rattle.merkle_lines.proofs.run.Answerer.take.Given as goal

abbrev pub invariant-loop-rest : goal.invariant-loop-rest
invariant-loop-rest g l =
    (told : Option SessionState) → HoldsState l.fn.self.session told → (v : Option SessionState) × (output : List ℕ)
    × HoldsState l.self.session v × Appends (g.W.Write.contents l.fn.writer) (g.W.Write.contents l.writer) output
    × (first : List ℕ) × (first ++ l.rest ≡ l.fn.bytes) × ContinuesTo told l.fn.self.line.items first output v l.self.line.items

abbrev pub decreases-loop-rest : goal.decreases-loop-rest
decreases-loop-rest g l = length l.rest
