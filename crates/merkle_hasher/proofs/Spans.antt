-- The spans of nodes fit 64 bits, and children stand where their parent says.
use Rattle.std.proofs.Common.{◌≡◌, ℕ, ◌+◌, ◌-◌, ◌*◌, ◌%◌, ◌^◌, ◌<◌, ◌≤◌, List, Some, slice_get, arith, ap, sym, ◌∙◌, subst}
use Rattle.std.proofs.lemmas.Nat.{one_shl}
use Rattle.merkle_base.specs.Tree.{Tree, join, position, height, first_leaf, width}
use Rattle.merkle_base.specs.Forest.{forest}
use Rattle.merkle_base.specs.Heights.{IsLawful}
use Rattle.merkle_base.proofs.Growth.{built_at, forest_grown}
use Rattle.merkle_base.proofs.Nodes.{node_built}
use Rattle.merkle_base.proofs.Balance.{node_balanced, balanced_count}
use Rattle.merkle_base.proofs.Limits.{lawful_height}
use Rattle.merkle_base.proofs.Lookup.{height_bound, size_large}
use Rattle.merkle_hasher.specs.Subtrees.{IsNodeOf}
use Rattle.merkle_base.specs.Places.{AreChildren}

module _ (rule : List ℕ → List ℕ) (m k : ℕ) (law : IsLawful rule m k) where
  pub is_small : (p h s : ℕ) (t : Tree) → IsNodeOf rule m p h s t → h < 63
  is_small p h s t w = omega (arith, lawful_height rule m k law m p t (omega arith) w.at, w.height_is)

  pub count_is : (p h s : ℕ) (t : Tree) → IsNodeOf rule m p h s t → width t ≡ 2 ^ h
  count_is p h s t w = balanced_count t (node_balanced rule m law.equal m p t (omega arith) w.at) ∙ ap (λ x. 2 ^ x) w.height_is

  pub ends_low : (p h s : ℕ) (t : Tree) → IsNodeOf rule m p h s t → s + 2 ^ h ≤ m
  ends_low p h s t w = omega (arith, height_bound rule m law.equal p t w.at, w.first_is, ap (λ (x : ℕ). 2 ^ x) w.height_is)

  pub max_small : m < 2 ^ 63
  max_small = omega (arith, size_large rule m, law.size_at_limit, law.limit_fits)

  -- the end of its leaves, as code computes it
  pub end_fits : (p h s : ℕ) (t : Tree) → IsNodeOf rule m p h s t → s + 1 * 2 ^ h % 2 ^ 64 < 2 ^ 64
  end_fits p h s t w = omega (arith, one_shl h 64 (omega (arith, is_small p h s t w)), ends_low p h s t w, max_small)

  pub end_is : (p h s : ℕ) (t : Tree) → IsNodeOf rule m p h s t → s + 1 * 2 ^ h % 2 ^ 64 ≡ first_leaf t + width t
  end_is p h s t w = omega (arith, one_shl h 64 (omega (arith, is_small p h s t w)), count_is p h s t w, w.first_is)

  pub left_stands : (p h s q : ℕ) (a b : Tree) → IsNodeOf rule m p h s (join q a b) → IsNodeOf rule m (position a) (h - 1) s a
  left_stands p h s q a b w = let u = node_built rule m p (join q a b) w.at in
      record { at = built_at (forest rule m).nodes a u.4; height_is = omega (arith, w.height_is); first_is = w.first_is }

  pub right_stands : (p h s q : ℕ) (a b : Tree) → IsNodeOf rule m p h s (join q a b) → IsNodeOf rule m (position b) (h - 1) (s + 1 * 2 ^ (h - 1) % 2 ^ 64) b
  right_stands p h s q a b w =
      let u = node_built rule m p (join q a b) w.at in
      let v = node_balanced rule m law.equal m p (join q a b) (omega arith) w.at in
      let l = left_stands p h s q a b w in
      record {
        at = built_at (forest rule m).nodes b u.5;
        height_is = omega (arith, w.height_is, v.0);
        first_is = sym u.3 ∙ sym (end_is (position a) (h - 1) s a l);
      }

  pub children_stand : (p h s q l r : ℕ) (a b : Tree) → IsNodeOf rule m p h s (join q a b) → AreChildren rule p l r → IsNodeOf rule m l (h - 1) s a
      × IsNodeOf rule m r (h - 1) (s + 1 * 2 ^ (h - 1) % 2 ^ 64) b
  children_stand p h s q l r a b w c =
      let e : q ≡ p = (forest_grown rule m).placed p (join q a b) w.at in
      let at : slice_get (forest rule m).nodes p ≡ Some (join p a b) = subst (λ (x : ℕ). slice_get (forest rule m).nodes p ≡ Some (join x a b)) e w.at in
      let d = c m a b at in (
        subst (λ (x : ℕ). IsNodeOf rule m x (h - 1) s a) (sym d.0) (left_stands p h s q a b w),
        subst (λ (x : ℕ). IsNodeOf rule m x (h - 1) (s + 1 * 2 ^ (h - 1) % 2 ^ 64) b) (sym d.1) (right_stands p h s q a b w),
      )

  pub heights_same : (p h s q : ℕ) (a b : Tree) → IsNodeOf rule m p h s (join q a b) → height b ≡ height a
  heights_same p h s q a b w = sym (node_balanced rule m law.equal m p (join q a b) (omega arith) w.at).0
