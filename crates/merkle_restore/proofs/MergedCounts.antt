-- How many parents are held with their children.
use Rattle.std.proofs.Common.{◌≡◌, ℕ, zero, suc, ◌+◌, ◌-◌, ◌≤◌, List, [], ◌∷◌, ◌++◌, length, drop, length-append, true, Option, Some, None, slice_get, arith}
use Rattle.std.proofs.Common.{refl, sym, ap, ◌∙◌, subst, inl, inr, flat_map}
use Rattle.std.specs.Prelude.{is_some}
use Rattle.std.specs.List.{AllByRecursion}
use Rattle.std.proofs.Math.ListN.{drop_of_length-le}
use Rattle.std.proofs.lemmas.Bool.{cases_lt}
use Rattle.std.proofs.lemmas.List.{drop-append-le}
use Rattle.merkle_base.specs.Tree.{Tree, leaf, join, position}
use Rattle.merkle_base.specs.Forest.{forest, size, IsJoin}
use Rattle.merkle_base.proofs.Nodes.{forest_step, size_le}
use Rattle.merkle_batch_theory.specs.Contents.{Contents, HoldsKept}
use Rattle.merkle_batch_theory.proofs.ListFacts.{get_drop}
use Rattle.merkle_restore_theory.specs.Damage.{HoldsChildren, merged_from}
use Rattle.merkle_restore_theory.proofs.HeldBelow.{children_there}
use Rattle.merkle_restore.specs.HeldParents.{with_both, parent_of, parents_from}

-- how many of some trees are merged nodes
abbrev joins : List Tree → ℕ
joins [] = 0
joins (leaf p k ∷ ts) = joins ts
joins (join p l r ∷ ts) = suc (joins ts)

joins_append : (ts us : List Tree) → joins (ts ++ us) ≡ joins ts + joins us
joins_append [] us = omega arith
joins_append (leaf p k ∷ ts) us = joins_append ts us
joins_append (join p l r ∷ ts) us = omega (arith, joins_append ts us)

joins_all : (ts : List Tree) → AllByRecursion IsJoin ts → joins ts ≡ length ts
joins_all [] a = refl
joins_all (leaf p k ∷ ts) a = absurd a.0
joins_all (join p l r ∷ ts) a = omega (arith, joins_all ts a.1)

-- ---- merged nodes after some leaves
joins_after : (rule : List ℕ → List ℕ) (b k : ℕ) → joins (drop (size rule b) (forest rule (k + b)).nodes) + k + size rule b ≡ size rule (k + b)
joins_after rule b zero =
    let e : 0 + b ≡ b = omega arith in
    let none : joins (drop (size rule b) (forest rule (0 + b)).nodes) ≡ 0 = ap (λ m. joins (drop (size rule b) (forest rule m).nodes)) e
    ∙ ap joins (drop_of_length-le (forest rule b).nodes (omega arith)) in
    omega (arith, none, ap (size rule) e)
joins_after rule b (suc k) =
    let e : suc k + b ≡ suc (k + b) = omega arith in
    let s = forest_step rule (k + b) in
    let new = leaf (size rule (k + b)) (k + b) ∷ s.0 in
    let parts : drop (size rule b) (forest rule (suc k + b)).nodes ≡ drop (size rule b) (forest rule (k + b)).nodes ++ new =
    ap (λ m. drop (size rule b) (forest rule m).nodes) e ∙ ap (drop (size rule b)) s.1 ∙ drop-append-le (size rule b) (forest rule (k + b)).nodes new (size_le rule b (k + b) (omega arith)) in
    omega (
      arith,
      ap joins parts,
      joins_append (drop (size rule b) (forest rule (k + b)).nodes) new,
      joins_all s.0 s.2,
      joins_after rule b k,
      ap (size rule) e,
      ap length s.1,
      length-append (forest rule (k + b)).nodes new,
    )

joins_from : (rule : List ℕ → List ℕ) (b n : ℕ) → joins (drop (size rule b) (forest rule n).nodes) ≡ merged_from rule b n
joins_from rule b n = elim (cases_lt n b) [
  | inl less ↦ (let none : joins (drop (size rule b) (forest rule n).nodes) ≡ 0 = ap joins (drop_of_length-le (forest rule n).nodes (size_le rule n b (omega (arith, less)))) in
      omega (arith, none, size_le rule n b (omega (arith, less)), less))
  | inr more ↦ (let e : n - b + b ≡ n = omega (arith, more) in
      let w : joins (drop (size rule b) (forest rule n).nodes) + (n - b) + size rule b ≡ size rule n =
      subst (λ m. joins (drop (size rule b) (forest rule m).nodes) + (n - b) + size rule b ≡ size rule m) e (joins_after rule b (n - b)) in
      omega (arith, w))
]

-- ---- parents
one_at_most : {D : Type 0} (p : ℕ) (o u : Option D) → length (with_both p o u) ≤ 1
one_at_most p (Some a) (Some b) = omega arith
one_at_most p (Some a) None = omega arith
one_at_most p None u = omega arith

one_held : {D : Type 0} (p : ℕ) (o u : Option D) → is_some o ≡ true → is_some u ≡ true → length (with_both p o u) ≡ 1
one_held p (Some a) (Some b) d e = refl
one_held p (Some a) None d e = absurd (cc)
one_held p None u d e = absurd (cc)

module _ {D : Type 0} (node : ℕ → Option D) where
  few_parents : (ts : List Tree) → length (flat_map (parent_of node) ts) ≤ joins ts
  few_parents [] = omega arith
  few_parents (leaf p k ∷ ts) = few_parents ts
  few_parents (join p l r ∷ ts) =
      omega (arith, few_parents ts, one_at_most p (node (position l)) (node (position r)), length-append (with_both p (node (position l)) (node (position r))) (flat_map (parent_of node) ts))

  all_parents : (ts : List Tree) → ((i : ℕ) (t : Tree) → slice_get ts i ≡ Some t → HoldsChildren node t) → length (flat_map (parent_of node) ts) ≡ joins ts
  all_parents [] f = refl
  all_parents (leaf p k ∷ ts) f = all_parents ts (λ i t e. f (suc i) t e)
  all_parents (join p l r ∷ ts) f =
      let w = f 0 (join p l r) refl in
      omega (
        arith,
        all_parents ts (λ i t e. f (suc i) t e),
        one_held p (node (position l)) (node (position r)) w.0 w.1,
        length-append (with_both p (node (position l)) (node (position r))) (flat_map (parent_of node) ts),
      )

pub at_most_merged : {D : Type 0} (rule : List ℕ → List ℕ) (b n : ℕ) (node : ℕ → Option D) → length (parents_from rule n node (size rule b)) ≤ merged_from rule b n
at_most_merged rule b n node = omega (arith, few_parents node (drop (size rule b) (forest rule n).nodes), joins_from rule b n)

-- with the children held of all nodes that are kept, they are the merged nodes
pub all_merged : {D : Type 0} (rule : List ℕ → List ℕ) (c : Contents D) (n : ℕ) → HoldsKept rule c → size rule n ≡ c.size
    → length (parents_from rule n c.node (size rule c.boundary)) ≡ merged_from rule c.boundary n
all_merged rule c n held sized = elim (cases_lt n c.boundary) [
  | inl less ↦ (let none : length (parents_from rule n c.node (size rule c.boundary)) ≡ 0 =
      ap (λ ts. length (flat_map (parent_of c.node) ts)) (drop_of_length-le (forest rule n).nodes (size_le rule n c.boundary (omega (arith, less)))) in
      omega (arith, none, size_le rule n c.boundary (omega (arith, less)), less))
  | inr more ↦ all_parents c.node (drop (size rule c.boundary) (forest rule n).nodes) (λ i t e.
      children_there rule c n held sized more (size rule c.boundary + i) t (sym (get_drop (size rule c.boundary) i (forest rule n).nodes) ∙ e) (omega arith)) ∙ joins_from rule c.boundary n
]
