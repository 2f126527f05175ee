-- Roots of the Mountain Range, in 64 bits.
use Rattle.std.proofs.Common.{◌≡◌, ℕ, suc, ◌+◌, ◌*◌, ◌%◌, ◌^◌, ◌≤◌, arith, refl, ap, pow-suc, pow_pos, pow_mono}
use Rattle.merkle_base.proofs.Chunks.{root_below}
use Rattle.merkle_base.proofs.Nodes.{size_le}
use Rattle.merkle_forest_theory.specs.Mmr.{mmr_merges, mmr_position, mmr_birth_leaf_count}
use Rattle.merkle_forest_theory.proofs.Coordinates.{mmr_coordinates}
use Rattle.merkle_forest_theory.proofs.MountainRange.{mmr_equal}
use Rattle.merkle_forest_theory.proofs.RangeLawful.{mmr_lawful}

-- the nodes of a tree of height h, and one more
pub doubled_shl : (h : ℕ) → h ≤ 62 → 2 * 2 ^ h % 18446744073709551616 ≡ 2 ^ (h + 1)
doubled_shl h l =
    let m : 2 ^ h ≤ 2 ^ 62 = pow_mono {i = h} {j = 62} l in
    let e : h + 1 ≡ suc h = omega arith in
    ap (λ (x : ℕ). x) (omega (arith, pow-suc 2 h, ap (λ (x : ℕ). 2 ^ x) e))

pub doubled_pos : (h : ℕ) → 2 ≤ 2 ^ (h + 1)
doubled_pos h =
    let e : h + 1 ≡ suc h = omega arith in
    omega (arith, pow-suc 2 h, pow_pos h, ap (λ (x : ℕ). 2 ^ x) e)

-- a chunk's own node stands within the limit
pub chunk_root : (n i h : ℕ) → n ≤ 4611686018427387904 → (i + 1) * 2 ^ h ≤ n → mmr_position (i * 2 ^ h) h ≤ 9223372036854775807
chunk_root n i h l w =
    omega (
      arith,
      root_below mmr_merges 4611686018427387904 (mmr_equal 4611686018427387904) mmr_position mmr_birth_leaf_count mmr_coordinates n
          (i * 2 ^ h) i h l refl (omega (arith, w)),
      size_le mmr_merges n 4611686018427387904 l,
      mmr_lawful.size_at_limit,
    )
