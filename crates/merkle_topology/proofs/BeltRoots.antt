-- Roots of the Mountain Belt by first leaf and height, and what stands over a stretch of leaves, in 64 bits.
use Rattle.std.proofs.Common.{◌≡◌, ◌≢◌, ℕ, zero, suc, ◌+◌, ◌-◌, ◌*◌, ◌%◌, ◌^◌, ◌<◌, ◌≤◌, Bool, true, cond, [], ◌∷◌, arith, refl, sym, inl, inr, pow-suc}
use Rattle.std.proofs.lemmas.Bool.Decides.{leb_tells}
use Rattle.std.proofs.lemmas.Nat.{one_shl}
use Rattle.merkle_base.specs.Forest.{size}
use Rattle.merkle_base.specs.Grafting.{stretch_nodes}
use Rattle.merkle_base.proofs.Limits.{log_below}
use Rattle.merkle_base.proofs.Nodes.{size_le, size_lt}
use Rattle.merkle_forest_theory.specs.Mmb.{mmb_merges, birth_leaf, mmb_position, mmb_birth_leaf_count}
use Rattle.merkle_forest_theory.proofs.BeltLawful.{mmb_lawful}
use Rattle.merkle_forest_theory.proofs.Coordinates.{mmb_coordinates}
use Rattle.merkle_topology.proofs.LeafCounts.{size_only, leaves_within}

-- the birth leaf of a root that stands within the limit is within the limit
pub birth_within : (s h : ℕ) → mmb_position s h ≤ 9223372036854775806 → birth_leaf s h ≤ 4611686018427387934
birth_within s zero l = leaves_within mmb_merges 4611686018427387934 s (omega (arith, l, mmb_lawful.size_at_limit))
birth_within s (suc h) l = leaves_within mmb_merges 4611686018427387934 (s + 3 * 2 ^ h - 2) (omega (arith, l, mmb_lawful.size_at_limit))

-- a root whose birth leaf is there stands within the limit
pub root_within : (s h : ℕ) → birth_leaf s h < 4611686018427387934 → mmb_position s h ≤ 9223372036854775806
root_within s zero l = omega (arith, size_le mmb_merges s 4611686018427387934 (omega (arith, l)), mmb_lawful.size_at_limit)
root_within s (suc h) l = omega (arith, size_lt mmb_merges (s + 3 * 2 ^ h - 2) 4611686018427387934 l, mmb_lawful.size_at_limit)

-- a search for the last leaf count of no more nodes finds the birth leaf
pub birth_found_leaf : (s h p n : ℕ) → h ≡ 0 → mmb_position s h ≡ p → size mmb_merges n ≤ p → p < size mmb_merges (n + 1) → n ≡ birth_leaf s h
birth_found_leaf s zero p n z e a b = sym (size_only mmb_merges n s p a b e)
birth_found_leaf s (suc h) p n z e a b = absurd (omega (arith, z))

pub birth_found : (s h p n : ℕ) → h ≢ 0 → mmb_position s h ≡ p → size mmb_merges n ≤ p - 1 → p - 1 < size mmb_merges (n + 1) → n ≡ birth_leaf s h
birth_found s zero p n some e a b = absurd (some refl)
birth_found s (suc h) p n some e a b = sym (size_only mmb_merges n (s + 3 * 2 ^ h - 2) (p - 1) a b (omega (arith, e)))

-- ---- a stretch of leaves
pub stretch_birth : (n s h : ℕ) → n ≤ 4611686018427387934 → s + 2 ^ h ≤ n → birth_leaf s h < 9223372036854775808
stretch_birth n s zero l w = omega (arith, l, w)
stretch_birth n s (suc h) l w = omega (arith, l, w, pow-suc 2 h)

-- What holds of a stretch whose own node has not come.
pub record IsHalved (n s h : ℕ) : Type 0 where
  pub positive : 1 ≤ h
  pub low : h - 1 < 62
  pub birth : birth_leaf s (h - 1) < n
  pub within : s + 2 ^ (h - 1) + 2 ^ (h - 1) ≤ n
  pub first : stretch_nodes mmb_position mmb_birth_leaf_count n s h ≡ (mmb_position s (h - 1), h - 1) ∷ stretch_nodes mmb_position mmb_birth_leaf_count n (s + 2 ^ (h - 1)) (h - 1)

pub stretch_halved : (n s h : ℕ) → n ≤ 4611686018427387934 → s + 2 ^ h ≤ n → n ≤ birth_leaf s h → IsHalved n s h
stretch_halved n s zero l w b = absurd (omega (arith, w, b))
stretch_halved n s (suc k) l w b =
    let z : suc k - 1 ≡ k = omega arith in
    let two : 2 ^ suc k ≡ 2 ^ k * 2 = pow-suc 2 k in
    let low : suc k < 63 = log_below (suc k) 63 n (omega (arith, w)) (omega (arith, l)) in
    record {
      positive = omega arith;
      low = omega (arith, low);
      birth = rw z (omega (arith, mmb_coordinates.born_before_end s k, w));
      within = rw z (omega (arith, two, w));
      first = rw z (halves n s k b);
    }
  where
    halves : (n s k : ℕ) → n ≤ birth_leaf s (suc k)
        → stretch_nodes mmb_position mmb_birth_leaf_count n s (suc k) ≡ (mmb_position s k, k) ∷ stretch_nodes mmb_position mmb_birth_leaf_count n (s + 2 ^ k) k
    halves n s k b = elim (leb_tells (mmb_birth_leaf_count s (suc k)) n) [
      | inl w ↦ absurd (omega (arith, b, w.1))
      | inr w ↦ rw w.0 refl
    ]

-- what is left after its first item, in 64 bits
pub stretch_first : (left : Bool) (n s h : ℕ) → left ≡ true → IsHalved n s h →
    cond left (stretch_nodes mmb_position mmb_birth_leaf_count n s h) []
    ≡ (mmb_position s (h - 1), h - 1) ∷ cond left (stretch_nodes mmb_position mmb_birth_leaf_count n (s + 1 * 2 ^ (h - 1) % 18446744073709551616) (h - 1)) []
stretch_first left n s h e k = rw (e, one_shl (h - 1) 64 (omega (arith, k.low))) k.first
