-- Which nodes are lost to a commit.
use Rattle.std.proofs.Common.{ℕ, List, length, Option, ap, sym, subst, ◌∙◌}
use Rattle.merkle_base.specs.Hashing.{Hashing}
use Rattle.merkle_base.specs.Tree.{Tree, position}
use Rattle.merkle_batch_theory.specs.Contents.{is_kept}
use Rattle.merkle_batch_theory.specs.Missing.{IsMissing}
use Rattle.merkle_batch_theory.specs.Needed.{IsNeeded}
use Rattle.merkle_batch_theory.specs.Unmerkleized.{UnmerkleizedModel}
use Rattle.merkle_batch_theory.specs.MemModel.{MemModel, contents}
use Rattle.merkle_hasher.specs.LeafDigests.{leaf_digests}
use Rattle.merkle_hasher.proofs.LeafDigests.{length-leaf_digests}
use Rattle.merkle_lines.specs.Answers.{IsLost}
use Rattle.merkle_lines.specs.StructureState.{StructureState, at_updated, changes}
use Rattle.merkle_lines.specs.Held.{IsStructureHeld, Makes}
use Rattle.merkle_lines.proofs.Making.{lost_missing, missing_lost}

module _ {D : Type 0} (h : Hashing D) (rule : List ℕ → List ℕ) (max_leaves : ℕ) (s : MemModel D) (p : Option (UnmerkleizedModel D)) (xs : List D) (es : List (ℕ × D)) (g : StructureState)
    (held : IsStructureHeld h rule max_leaves s p xs es g)
    (b : UnmerkleizedModel D) (m : Makes h rule (leaf_digests h rule 0 g.committed) b (changes g)) where
  abbrev list : List D
  list = leaf_digests h rule 0 g.committed

  pub held_lost : (t : Tree) → IsMissing rule b (contents s) t → IsLost rule g t
  held_lost t missing =
      let lost = missing_lost h rule list b (changes g) m s held.agrees t missing in (
        subst (λ n. IsNeeded rule (at_updated rule (changes g).updated) n (length (changes g).elements) t) (length-leaf_digests h rule 0 g.committed) lost.0,
        ap (λ k. is_kept rule k (position t)) (sym held.boundary) ∙ lost.1,
      )

  pub lost_held : ((t : Tree) → ¬ (IsMissing rule b (contents s) t)) → (t : Tree) → ¬ (IsLost rule g t)
  lost_held none t lost =
      none t (lost_missing h rule list b (changes g) m s held.agrees t
      (subst (λ n. IsNeeded rule (at_updated rule (changes g).updated) n (length (changes g).elements) t) (sym (length-leaf_digests h rule 0 g.committed)) lost.0)
      (ap (λ k. is_kept rule k (position t)) held.boundary ∙ lost.1))
