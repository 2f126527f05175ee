-- What a search through the parents tells of a structure that holds what is kept.
use Rattle.std.proofs.Common.{◌≡◌, ℕ, List, length, Option, Some, None, sym, ◌∙◌}
use Rattle.std.specs.Option.{IfNone, IfSome}
use Rattle.merkle_base.specs.Forest.{size}
use Rattle.merkle_base.specs.Hashing.{Hashing, EqDecides}
use Rattle.merkle_batch_theory.specs.Contents.{Contents, HoldsKept}
use Rattle.merkle_restore_theory.specs.Damage.{IsFirstDamaged, IsWhole, merged_from}
use Rattle.merkle_restore.specs.HeldParents.{first_wrong, parents_from}
use Rattle.merkle_restore.proofs.DamageSearch.{first_of_some, whole_of_none}
use Rattle.merkle_restore.proofs.MergedCounts.{all_merged}

module _ {D : Type 0} (h : Hashing D) (laws : EqDecides h) (rule : List ℕ → List ℕ) (c : Contents D) (n : ℕ) (sized : size rule n ≡ c.size) where
  pub first_when : (found : Option ℕ) → found ≡ first_wrong h c.node (parents_from rule n c.node (size rule c.boundary)) → IfSome found (λ p. HoldsKept rule c → IsFirstDamaged h rule n c.node p)
  first_when None e = tt
  first_when (Some p) e = λ held. first_of_some h laws rule c n held sized p (sym e)

  pub whole_when : (found : Option ℕ) → found ≡ first_wrong h c.node (parents_from rule n c.node (size rule c.boundary)) → IfNone found (HoldsKept rule c → IsWhole h rule n c.node)
  whole_when None e = λ held. whole_of_none h laws rule c n held sized (sym e)
  whole_when (Some p) e = tt

pub counted_when : {D : Type 0} (rule : List ℕ → List ℕ) (c : Contents D) (n count counted : ℕ) → size rule n ≡ c.size → counted ≡ count
    → (found : Option ℕ) → IfNone found (count ≡ length (parents_from rule n c.node (size rule c.boundary)))
    → IfNone found (HoldsKept rule c → counted ≡ merged_from rule c.boundary n)
counted_when rule c n count counted sized same None e = λ held. same ∙ e ∙ all_merged rule c n held sized
counted_when rule c n count counted sized same (Some p) e = tt

pub if_none : {A : Type 0} (o : Option A) (P : Type 0) → P → IfNone o P
if_none None P x = x
if_none (Some a) P x = tt
