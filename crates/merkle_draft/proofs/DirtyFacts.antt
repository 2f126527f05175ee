-- The positions of a tree's leaves that get new digests, in order.
use Rattle.std.proofs.Common.{◌≡◌, ℕ, suc, ◌+◌, ◌<◌, ◌≤◌, List, [], ◌∷◌, ◌++◌, length, take, drop, Option, true, false, cond, arith, refl, sym, ap, inl, inr, ◌∙◌, subst}
use Rattle.std.specs.Prelude.{is_some, ◌||◌}
use Rattle.std.specs.List.{AllByRecursion, flat_map}
use Rattle.std.proofs.Math.Seq.{take-append_seam, drop-append_seam}
use Rattle.std.proofs.lemmas.Bool.{or_parts, cases_Bool}
use Rattle.merkle_base.specs.Tree.{Tree, leaf, join, first_leaf, width, IsBuilt}
use Rattle.merkle_base.specs.Forest.{forest, size}
use Rattle.merkle_base.proofs.Births.{leaf_at}
use Rattle.merkle_base.proofs.Nodes.{size_le, size_step, all_append}
use Rattle.merkle_base.proofs.PeakLists.{Spans}
use Rattle.merkle_batch_theory.specs.History.{is_dirty}
use Rattle.merkle_draft.specs.DirtyLeaves.{dirty_leaves, are_before}
use Rattle.merkle_draft.proofs.CountBefore.{before_none, before_here}
use Rattle.merkle_base.proofs.Lists.{all_imply}

pub both_empty : {X : Type 0} (xs ys : List X) → xs ++ ys ≡ [] → (xs ≡ []) × (ys ≡ [])
both_empty [] ys e = (refl, e)
both_empty (x ∷ xs) ys e = absurd (cc)

module _ {D : Type 0} (m : ℕ → Option D) where
  pub leaf_dirty : (p n : ℕ) → is_some (m p) ≡ true → dirty_leaves m (leaf p n) ≡ p ∷ []
  leaf_dirty p n e = ap (λ b. cond b (p ∷ []) []) e

  pub leaf_untouched : (p n : ℕ) → is_some (m p) ≡ false → dirty_leaves m (leaf p n) ≡ []
  leaf_untouched p n e = ap (λ b. cond b (p ∷ []) []) e

  -- ---- a tree has none exactly where it isn't dirty
  pub none_dirty : (t : Tree) → is_dirty m t ≡ false → dirty_leaves m t ≡ []
  none_dirty (leaf p n) e = leaf_untouched p n e
  none_dirty (join p l r) e = (let k = or_parts (is_dirty m l) (is_dirty m r) e in
      ap (λ z. z ++ dirty_leaves m r) (none_dirty l k.0) ∙ none_dirty r k.1)

  pub not_dirty : (t : Tree) → dirty_leaves m t ≡ [] → is_dirty m t ≡ false
  not_dirty (leaf p n) e = elim (cases_Bool (is_some (m p))) [
    | inl some ↦ absurd (let k : p ∷ [] ≡ [] = sym (leaf_dirty p n some) ∙ e in cc)
    | inr none ↦ none
  ]
  not_dirty (join p l r) e = (let k = both_empty (dirty_leaves m l) (dirty_leaves m r) e in
      ap (λ b. b || is_dirty m r) (not_dirty l k.0) ∙ not_dirty r k.1)

-- ---- their positions
-- from that of leaf a on, before that of leaf b
abbrev pub Between : (List ℕ → List ℕ) → ℕ → ℕ → ℕ → Type 0
Between rule a b u = (size rule a ≤ u) × (u < size rule b)

pub all_before : (xs ys : List ℕ) (e : ℕ) → AllByRecursion (λ u. u < e) xs → AllByRecursion (λ u. e ≤ u) ys → are_before (xs ++ ys) e ≡ length xs
all_before [] [] e h k = refl
all_before [] (y ∷ ys) e h k = before_none y ys e k.0
all_before (x ∷ xs) ys e h k = before_here x (xs ++ ys) e h.0 ∙ ap suc (all_before xs ys e h.1 k)

module _ {D : Type 0} (rule : List ℕ → List ℕ) (n : ℕ) (m : ℕ → Option D) where
  wider : (a b c d : ℕ) → c ≤ a → b ≤ d → (u : ℕ) → Between rule a b u → Between rule c d u
  wider a b c d l e u w = (omega (arith, w.0, size_le rule c a l), omega (arith, w.1, size_le rule b d e))

  pub dirty_between : (t : Tree) → IsBuilt (forest rule n).nodes t → AllByRecursion (Between rule (first_leaf t) (first_leaf t + width t)) (dirty_leaves m t)
  dirty_between (leaf p k) b = elim (cases_Bool (is_some (m p))) [
    | inr none ↦ subst (AllByRecursion (Between rule k (k + 1))) (sym (leaf_untouched m p k none)) tt
    | inl some ↦ (let f = leaf_at rule n p p k b in
        let z : suc k ≡ k + 1 = omega arith in
        subst (AllByRecursion (Between rule k (k + 1))) (sym (leaf_dirty m p k some)) ((omega (arith, f.0), omega (arith, f.0, size_step rule k, ap (size rule) z)), tt))
  ]
  dirty_between (join p l r) b =
      all_append (Between rule (first_leaf l) (first_leaf l + (width l + width r))) (dirty_leaves m l) (dirty_leaves m r)
      (all_imply (Between rule (first_leaf l) (first_leaf l + width l)) _
      (wider (first_leaf l) (first_leaf l + width l) (first_leaf l) (first_leaf l + (width l + width r)) (omega arith) (omega arith))
      (dirty_leaves m l) (dirty_between l b.4))
      (all_imply (Between rule (first_leaf r) (first_leaf r + width r)) _
      (wider (first_leaf r) (first_leaf r + width r) (first_leaf l) (first_leaf l + (width l + width r)) (omega (arith, b.3))
      (omega (arith, b.3))) (dirty_leaves m r) (dirty_between r b.5))

  -- those of the left child stand before the first leaf of the right one, the others don't
  pub before_right : (p : ℕ) (l r : Tree) → IsBuilt (forest rule n).nodes (join p l r) → are_before (dirty_leaves m (join p l r)) (size rule (first_leaf r)) ≡ length (dirty_leaves m l)
  before_right p l r b = all_before (dirty_leaves m l) (dirty_leaves m r) (size rule (first_leaf r))
      (all_imply (Between rule (first_leaf l) (first_leaf l + width l)) _ (λ u w. omega (arith, w.1, ap (size rule) b.3)) (dirty_leaves m l) (dirty_between l b.4))
      (all_imply (Between rule (first_leaf r) (first_leaf r + width r)) _ (λ u w. w.0) (dirty_leaves m r) (dirty_between r b.5))

  -- the changed leaves of trees that span from a location on stand from there on
  pub after_start : (o e : ℕ) (ts : List Tree) → Spans o e ts → AllByRecursion (IsBuilt (forest rule n).nodes) ts → AllByRecursion (λ u. size rule o ≤ u) (flat_map (dirty_leaves m) ts)
  after_start o e [] c b = tt
  after_start o e (t ∷ ts) c b =
      all_append (λ u. size rule o ≤ u) (dirty_leaves m t) (flat_map (dirty_leaves m) ts)
      (all_imply (Between rule (first_leaf t) (first_leaf t + width t)) (λ u. size rule o ≤ u) (λ u w. omega (arith, w.0, ap (size rule) c.0)) (dirty_leaves m t) (dirty_between t b.0))
      (all_imply (λ u. size rule (o + width t) ≤ u) (λ u. size rule o ≤ u) (λ u w. omega (arith, w, size_le rule o (o + width t) (omega arith)))
      (flat_map (dirty_leaves m) ts) (after_start (o + width t) e ts c.1 b.1))

-- ---- a list in two parts
pub split_parts : {X : Type 0} (us xs ys front back : List X) (c : ℕ) → us ≡ xs ++ ys → c ≡ length xs → front ≡ take c us → back ≡ drop c us → (front ≡ xs) × (back ≡ ys)
split_parts us xs ys front back c e k f b = (
  f ∙ ap (take c) e ∙ ap (λ (n : ℕ). take n (xs ++ ys)) k ∙ take-append_seam xs ys,
  b ∙ ap (drop c) e ∙ ap (λ (n : ℕ). drop n (xs ++ ys)) k ∙ drop-append_seam xs ys,
)
