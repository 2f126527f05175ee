-- The parents that are held with their children, from one position to the next.
use Rattle.std.proofs.Common.{◌≡◌, ℕ, zero, suc, ◌+◌, ◌<◌, ◌≤◌, List, [], ◌∷◌, ◌++◌, drop, Option, Some, None, slice_get, arith, refl, sym, ap, ◌∙◌, subst, flat_map}
use Rattle.std.proofs.Math.ListN.{drop_of_length-le}
use Rattle.merkle_base.specs.Tree.{Tree, leaf, join, position, height}
use Rattle.merkle_base.specs.Forest.{forest, size}
use Rattle.merkle_base.specs.Places.{HasInner, AreChildren}
use Rattle.merkle_base.proofs.Growth.{forest_grown}
use Rattle.merkle_base.proofs.Nodes.{leaf_here, same_position}
use Rattle.merkle_restore.specs.HeldParents.{with_both, parent_of, parents_from}

drop_there : {A : Type 0} (xs : List A) (q : ℕ) (x : A) → slice_get xs q ≡ Some x → drop q xs ≡ x ∷ drop (suc q) xs
drop_there [] q x e = absurd (cc)
drop_there (y ∷ xs) zero x e = let d : y ≡ x = cc in ap (λ z. z ∷ xs) d
drop_there (y ∷ xs) (suc q) x e = drop_there xs q x e

module _ {D : Type 0} (rule : List ℕ → List ℕ) (n : ℕ) (node : ℕ → Option D) where
  pub parents_there : (q : ℕ) (t : Tree) → slice_get (forest rule n).nodes q ≡ Some t → parents_from rule n node q ≡ parent_of node t ++ parents_from rule n node (suc q)
  parents_there q t e = ap (flat_map (parent_of node)) (drop_there (forest rule n).nodes q t e)

  pub parents_end : (q : ℕ) → size rule n ≤ q → parents_from rule n node q ≡ []
  parents_end q l = ap (flat_map (parent_of node)) (drop_of_length-le (forest rule n).nodes l)

  -- a leaf is no parent
  pub parents_leaf : (k : ℕ) → k < n → parents_from rule n node (size rule k) ≡ parents_from rule n node (suc (size rule k))
  parents_leaf k l = parents_there (size rule k) (leaf (size rule k) k) (leaf_here rule k n l)

-- what is read of the children at their positions is the parent
parent_read : {D : Type 0} (rule : List ℕ → List ℕ) (node : ℕ → Option D) (n p l r : ℕ) (t : Tree) → slice_get (forest rule n).nodes p ≡ Some t
    → 0 < height t → AreChildren rule p l r → parent_of node t ≡ with_both p (node l) (node r)
parent_read rule node n p l r (leaf q k) e tall c = absurd (omega (arith, tall))
parent_read rule node n p l r (join q a b) e tall c =
    let here : q ≡ p = (forest_grown rule n).placed p (join q a b) e in
    let w = c n a b (subst (λ x. slice_get (forest rule n).nodes p ≡ Some (join x a b)) here e) in
    ap (λ x. with_both x (node (position a)) (node (position b))) here ∙ ap (λ x. with_both p (node x) (node (position b))) (sym w.0) ∙ ap (λ x. with_both p (node l) (node x)) (sym w.1)

pub inner_parent : {D : Type 0} (rule : List ℕ → List ℕ) (max_leaves : ℕ) (node : ℕ → Option D) (n p k l r : ℕ) (t : Tree)
    → HasInner rule max_leaves p k → slice_get (forest rule n).nodes p ≡ Some t → AreChildren rule p l r
    → parent_of node t ≡ with_both p (node l) (node r)
inner_parent rule max_leaves node n p k l r t inner e c =
    let same : inner.1 ≡ t = same_position rule inner.0 n p inner.1 t inner.3 e in
    parent_read rule node n p l r t e (subst (λ u. 0 < height u) same (omega (arith, inner.4, inner.5))) c

pub with_none_left : {D : Type 0} (p : ℕ) (o u : Option D) → o ≡ None → with_both p o u ≡ []
with_none_left p None u e = refl
with_none_left p (Some a) u e = absurd (cc)

pub with_none_right : {D : Type 0} (p : ℕ) (o u : Option D) → u ≡ None → with_both p o u ≡ []
with_none_right p None None e = refl
with_none_right p (Some a) None e = refl
with_none_right p o (Some b) e = absurd (cc)

pub with_some : {D : Type 0} (p : ℕ) (o u : Option D) (a b : D) → o ≡ Some a → u ≡ Some b → with_both p o u ≡ (p, a, b) ∷ []
with_some p (Some x) (Some y) a b d e =
    let c : x ≡ a = cc in
    let f : y ≡ b = cc in
    ap (λ z. (p, z, y) ∷ []) c ∙ ap (λ z. (p, a, z) ∷ []) f
with_some p None u a b d e = absurd (cc)
with_some p (Some x) None a b d e = absurd (cc)
