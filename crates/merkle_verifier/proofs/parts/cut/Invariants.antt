use Rattle.std.proofs.Common.{◌≡◌, ◌≤◌, length, drop}
use Rattle.merkle_root_theory.specs.Walk.{bytes_of}
use Rattle.merkle_verifier.proofs.Cuts.{CutSoFar}
use Rattle.merkle_verifier.proofs.parts.cut.Given as goal

abbrev pub invariant-loop-size : goal.invariant-loop-size
invariant-loop-size l =
    (l.lengths ≡ l.fn.lengths) × (l.size-index ≤ length l.fn.lengths) × (l.size-index-end ≡ length l.fn.lengths)
    × CutSoFar l.fn.lengths l.fn.bytes (drop l.size-index l.fn.lengths) l.rest (bytes_of l.parts.items)
