-- The leaves from the boundary on are held.
use Rattle.std.proofs.Common.{ℕ, List, arith, ap, ◌∙◌}
use Rattle.std.specs.Prelude.{nat_lt, ◌&&◌}
use Rattle.std.specs.FinMap.{get}
use Rattle.std.proofs.Math.Bool.{and-true}
use Rattle.std.proofs.lemmas.Bool.{lt-ltb}
use Rattle.merkle_base.specs.Forest.{size}
use Rattle.merkle_base.proofs.Nodes.{size_le, size_lt}
use Rattle.merkle_batch.specs.HeldLeaves.{AreLeavesHeld}
use Rattle.merkle_batch_theory.specs.Held.{Held}
use Rattle.merkle_batch_theory.specs.MemValid.{IsMemValid}
use Rattle.merkle_batch_theory.proofs.Kept.{kept_from}

pub kept_leaves : {D : Type 0} (rule : List ℕ → List ℕ) (max_leaves boundary leaves : ℕ) (held : Held D)
    → IsMemValid rule max_leaves boundary leaves held → AreLeavesHeld rule max_leaves (get held.stored) boundary leaves
kept_leaves rule max_leaves boundary leaves held valid = record {
  bounded = valid.counted.bounded;
  ordered = valid.within;
  held = λ i above below.
      let p = size rule i in
      valid.holds p
      ∙ ap (λ k. nat_lt p held.size && k) (kept_from rule boundary p (size_le rule boundary i above))
      ∙ and-true (nat_lt p held.size)
      ∙ lt-ltb p held.size (omega (arith, size_lt rule i leaves below, valid.counted.sized));
}
