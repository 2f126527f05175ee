-- Both families tell a node's position and birth by formulas of its first leaf and height.
use Rattle.std.proofs.Common.{◌≡◌, ℕ, zero, suc, ◌+◌, ◌-◌, ◌*◌, ◌^◌, ◌<◌, Some, slice_get, arith, ap, subst, pow_pos, pow-suc}
use Rattle.merkle_base.specs.Tree.{Tree, height, first_leaf, width}
use Rattle.merkle_base.specs.Forest.{forest, size}
use Rattle.merkle_base.specs.Grafting.{AreCoordinates, IsBirthSize}
use Rattle.merkle_base.proofs.Nodes.{size_inj}
use Rattle.merkle_base.proofs.Balance.{balanced_count, node_balanced}
use Rattle.merkle_forest_theory.specs.Mmr.{mmr_merges, mmr_position, mmr_birth_leaf_count}
use Rattle.merkle_forest_theory.specs.Mmb.{mmb_merges, birth_leaf, mmb_position, mmb_birth_leaf_count}
use Rattle.merkle_forest_theory.proofs.MountainRange.{mmr_equal, mmr_born}
use Rattle.merkle_forest_theory.proofs.MountainBelt.{mmb_placed, size_root}
use Rattle.merkle_forest_theory.proofs.Existence.{mmr_exists, mmb_exists}

range_born : (n p : ℕ) (t : Tree) → slice_get (forest mmr_merges n).nodes p ≡ Some t → IsBirthSize mmr_merges p (mmr_birth_leaf_count (first_leaf t) (height t))
range_born n p t e =
    let k = mmr_born n p t e in
    let w : first_leaf t + width t ≡ first_leaf t + 2 ^ height t = ap (λ (x : ℕ). first_leaf t + x) (balanced_count t (node_balanced mmr_merges n (mmr_equal n) n p t (omega arith) e)) in
    (subst (λ (x : ℕ). p < size mmr_merges x) w k.present, λ m l. k.absent m (omega (arith, w, l)))

range_once : (s r h : ℕ) → mmr_position s h ≡ mmr_position r h → s ≡ r
range_once s r h e = size_inj mmr_merges s r (omega (arith, e, pow_pos h, pow-suc 2 h, ap (λ (x : ℕ). 2 ^ x) (let z : h + 1 ≡ suc h = omega arith in z)))

pub mmr_coordinates : AreCoordinates mmr_merges (2 ^ 62) mmr_position mmr_birth_leaf_count
mmr_coordinates = record {
  place = λ n p t l e. omega (arith, (mmr_born n p t e).position, ap (λ (x : ℕ). 2 ^ x) (let z : height t + 1 ≡ suc (height t) = omega arith in z));
  aligned = λ n p t l e. (mmr_born n p t e).aligned;
  born = λ n p t l e. range_born n p t e;
  exists = λ n s a h l e b. mmr_exists n s a h e b;
  born_before_end = λ s h. omega (arith, pow-suc 2 h, pow_pos h);
  injective = range_once;
}

belt_born : (n p : ℕ) (t : Tree) → slice_get (forest mmb_merges n).nodes p ≡ Some t → IsBirthSize mmb_merges p (mmb_birth_leaf_count (first_leaf t) (height t))
belt_born n p t e =
    let k = mmb_placed n p t e in
    let z : suc (birth_leaf (first_leaf t) (height t)) ≡ mmb_birth_leaf_count (first_leaf t) (height t) = omega arith in
    (subst (λ (x : ℕ). p < size mmb_merges x) z k.present, λ m l. omega (arith, size_root (first_leaf t) (height t) m (omega (arith, l)), k.position))

belt_once : (s r h : ℕ) → mmb_position s h ≡ mmb_position r h → s ≡ r
belt_once s r zero e = size_inj mmb_merges s r e
belt_once s r (suc h) e = omega (arith, pow_pos h, size_inj mmb_merges (s + 3 * 2 ^ h - 2) (r + 3 * 2 ^ h - 2) (omega (arith, e)))

belt_soon : (s h : ℕ) → mmb_birth_leaf_count s h < s + 2 ^ suc h
belt_soon s zero = omega arith
belt_soon s (suc h) = omega (arith, pow-suc 2 h, pow-suc 2 (suc h), pow_pos h)

pub mmb_coordinates : AreCoordinates mmb_merges (2 ^ 62 + 30) mmb_position mmb_birth_leaf_count
mmb_coordinates = record {
  place = λ n p t l e. (mmb_placed n p t e).position;
  aligned = λ n p t l e. (mmb_placed n p t e).aligned;
  born = λ n p t l e. belt_born n p t e;
  exists = λ n s a h l e b. mmb_exists n s a h e (omega (arith, b));
  born_before_end = belt_soon;
  injective = belt_once;
}
