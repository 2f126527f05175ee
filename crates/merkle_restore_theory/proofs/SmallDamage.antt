-- Small cases, computed.
use Rattle.std.proofs.Common.{◌≡◌, ℕ, zero, suc, ◌<◌, [], ◌∷◌, Some, slice_get, arith, refl}
use Rattle.merkle_base.specs.Tree.{leaf, join}
use Rattle.merkle_base.specs.Forest.{forest}
use Rattle.merkle_forest_theory.specs.Mmr.{mmr_merges}
use Rattle.merkle_batch_theory.specs.Rows.{xor, two}
use Rattle.merkle_batch_theory.proofs.AppliedRows.{own_row}
use Rattle.merkle_restore_theory.specs.Damage.{IsDamaged, IsFirstDamaged, IsWhole}
use Rattle.merkle_restore_theory.specs.DamageRows.{twice_damaged}
use Rattle.merkle_restore_theory.proofs.WholeStructures.{agrees_is_whole}

pub whole_row : IsWhole xor mmr_merges 2 two.node
whole_row = agrees_is_whole xor mmr_merges two (1 ∷ 3 ∷ []) own_row

pub damaged_row : IsDamaged xor mmr_merges 2 (slice_get (1 ∷ 3 ∷ 5 ∷ [])) 2
unfolding forest
damaged_row = (leaf 0 0, leaf 1 1, 5, 1, 3, refl, refl, refl, refl, λ e. absurd (let z : 5 ≡ 0 = e in cc))

no_leaf_damaged : (q : ℕ) → q < 2 → IsDamaged xor mmr_merges 2 (slice_get (1 ∷ 3 ∷ 5 ∷ [])) q → ⊥
unfolding forest
no_leaf_damaged zero l w = absurd (let z : Some (leaf 0 0) ≡ Some (join 0 w.0 w.1) = w.5 in cc)
no_leaf_damaged (suc zero) l w = absurd (let z : Some (leaf 1 1) ≡ Some (join 1 w.0 w.1) = w.5 in cc)
no_leaf_damaged (suc (suc q)) l w = absurd (omega (arith, l))

pub first_row : IsFirstDamaged xor mmr_merges 2 (slice_get (1 ∷ 3 ∷ 5 ∷ [])) 2
first_row = (damaged_row, no_leaf_damaged)

pub second_row : IsDamaged xor mmr_merges 4 twice_damaged 5
unfolding forest
second_row = (leaf 3 2, leaf 4 3, 4, 0, 0, refl, refl, refl, refl, λ e. absurd (let z : 4 ≡ 5 = e in cc))

pub not_first_row : IsFirstDamaged xor mmr_merges 4 twice_damaged 5 → ⊥
unfolding forest
not_first_row w = w.1 2 (omega arith) (leaf 0 0, leaf 1 1, 5, 1, 3, refl, refl, refl, refl, λ e. absurd (let z : 5 ≡ 0 = e in cc))
