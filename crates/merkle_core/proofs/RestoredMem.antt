-- What follows for a structure that components make, and for one whose nodes and root were looked at.
use Rattle.std.proofs.Common.{◌≡◌, Bool, true, false, refl, ℕ, ◌+◌, ◌<◌, ◌≤◌, List, length, Result, Ok, Err, inl, inr, sym, ap, ◌∙◌, subst}
use Rattle.std.specs.FinMap.{get}
use Rattle.std.specs.Prelude.{not}
use Rattle.std.proofs.lemmas.Bool.{cases_lt}
use Rattle.merkle_base.proofs.Nodes.{size_inj}
use Rattle.merkle_base.specs.Forest.{size}
use Rattle.merkle_base.specs.Hashing.{Hashing}
use Rattle.merkle_base.specs.Places.{peaks_of}
use Rattle.merkle_base.specs.Root.{peaks_root}
use Rattle.merkle_base.specs.Scheme.{Scheme, scheme_of}
use Rattle.merkle_base.specs.declared.family.Bagging.{Bagging}
use Rattle.merkle_batch_theory.specs.Components.{made_of}
use Rattle.merkle_batch_theory.specs.Contents.{held_peaks}
use Rattle.merkle_batch_theory.specs.MemModel.{MemModel, contents}
use Rattle.merkle_restore_theory.specs.Damage.{IsWhole}
use Rattle.merkle_core.specs.Restored.{HasRootAndIsWhole, held_root}
use Rattle.merkle_core.specs.declared.restore.RestoreError.{RestoreError}
use Rattle.merkle_core.specs.declared.restore.RestoreError.TheVariants.{DamagedNode}

-- a result is not both a value and an error
pub ok_is_no_error : {A E : Type 0} (a : A) (e : E) → ◌≡◌ {A = Result A E} (Ok a) (Err e) → ⊥
ok_is_no_error a e x = cc

-- one error of results of one type is one of results of another
pub same_error : {T U E : Type 0} (a b : E) → ◌≡◌ {A = Result T E} (Err a) (Err b) → ◌≡◌ {A = Result U E} (Err a) (Err b)
same_error a b x = let e : a ≡ b = cc in ap Err e

-- two values of one result are one
pub ok_once : {A E : Type 0} (a b : A) → ◌≡◌ {A = Result A E} (Ok a) (Ok b) → a ≡ b
ok_once a b x = cc

-- the same position is named
pub one_node : {F : Type 0} (p q : ℕ) → p ≡ q → ◌≡◌ {A = Result Unit (RestoreError F)} (Err (DamagedNode p)) (Err (DamagedNode q))
one_node p q e = ap (λ n. Err (DamagedNode n)) e

-- what is not false
pub not_false : (b : Bool) → not b ≡ false → b ≡ true
not_false true e = refl
not_false false e = cc

-- where a value is given, there is not what would refuse it
pub enough : {A E : Type 0} (answer : Result A E) (a : A) (e : E) (k count : ℕ) → answer ≡ Ok a → (count < k → answer ≡ Err e) → k ≤ count
enough answer a e k count given refused =
    elim (cases_lt count k) [ inl many ↦ absurd (ok_is_no_error a e (sym given ∙ refused many)) | inr few ↦ few ]

-- components make the structure of one number of leaves
pub made_once : {D : Type 0} (rule : List ℕ → List ℕ) (b n : ℕ) (pins nodes : List D) (m : MemModel D) → m ≡ made_of rule b m.leaves pins nodes
    → size rule m.leaves ≡ m.size → size rule n ≡ size rule b + length nodes → m ≡ made_of rule b n pins nodes
made_once rule b n pins nodes m is sized counts =
    is ∙ ap (λ k. made_of rule b k pins nodes) (size_inj rule m.leaves n (sized ∙ ap (λ (s : MemModel _). s.size) is ∙ sym counts))

-- the scheme of a hasher and a family
module _ {D : Type 0} (s : Scheme D) (h : Hashing D) (bagging : Bagging) (rule : List ℕ → List ℕ) (max_leaves domain : ℕ)
    (is : s ≡ scheme_of h bagging rule max_leaves domain) (m : MemModel D) (k : ℕ) where
  -- the root by the digests at the peaks
  pub by_peaks : peaks_root s m.leaves k k (held_peaks rule m.leaves (contents m)) ≡ held_root s m k
  by_peaks = ap (λ (z : Scheme D). peaks_root s m.leaves k k (held_peaks z.rule m.leaves (contents m))) (sym is)

  pub has_root : (root : D) → k ≤ length (peaks_of rule m.leaves) → IsWhole h rule m.leaves (get m.stored) → held_root s m k ≡ root → HasRootAndIsWhole s k root m
  has_root root low whole same = record {
    enough = subst (λ (z : Scheme D). k ≤ length (peaks_of z.rule m.leaves)) (sym is) low;
    whole = subst (λ (z : Scheme D). IsWhole z.hashing z.rule m.leaves (get m.stored)) (sym is) whole;
    root_is = same;
  }

  pub low_of : (root : D) → HasRootAndIsWhole s k root m → k ≤ length (peaks_of rule m.leaves)
  low_of root w = subst (λ (z : Scheme D). k ≤ length (peaks_of z.rule m.leaves)) is w.enough

  pub whole_of : (root : D) → HasRootAndIsWhole s k root m → IsWhole h rule m.leaves (get m.stored)
  whole_of root w = subst (λ (z : Scheme D). IsWhole z.hashing z.rule m.leaves (get m.stored)) is w.whole
