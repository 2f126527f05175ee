use Rattle.std.proofs.Common.{◌≡◌, ◌+◌, ◌*◌, ◌^◌, ℕ, [], ◌∷◌, map, refl, arith, ap, sym, ◌∙◌}
use Rattle.merkle_base.specs.Places.{placed}
use Rattle.merkle_base.specs.Grafting.{nodes_inside}
use Rattle.merkle_base.proofs.Nodes.{size_inj}
use Rattle.merkle_base.proofs.Chunks.{nodes_inside_born}
use Rattle.merkle_forest_theory.specs.Mmr.{mmr_merges, mmr_position, mmr_birth_leaf_count}
use Rattle.merkle_forest_theory.proofs.Coordinates.{mmr_coordinates}
use Rattle.merkle_forest_theory.proofs.MountainRange.{mmr_equal}
use Rattle.merkle_topology.proofs.ChunkNumbers.{chunk_within}
use Rattle.merkle_topology.proofs.RangeRoots.{chunk_root}
use Rattle.merkle_topology.proofs.mmr.FamilyGraftable.chunk_peaks.Goals as goal

pub overflow_shl-first : goal.overflow_shl-first
overflow_shl-first c = let k = c.requires in omega (arith, (chunk_within k.0 c.args.chunk_idx c.args.grafting_height (omega (arith, k.1)) k.3).low)

pub root_position-root-requires-clause-low : goal.root_position-root-requires-clause-low
root_position-root-requires-clause-low c = let k = c.requires in omega (arith, (chunk_within k.0 c.args.chunk_idx c.args.grafting_height (omega (arith, k.1)) k.3).low)

pub root_position-root-requires-clause-within : goal.root_position-root-requires-clause-within
root_position-root-requires-clause-within c =
    let k = c.requires in
    let w = chunk_within k.0 c.args.chunk_idx c.args.grafting_height (omega (arith, k.1)) k.3 in
    rw (w.first) (chunk_root k.0 c.args.chunk_idx c.args.grafting_height k.1 k.3)

pub returns : goal.returns
returns c = λ n l e.
    let i = c.args.chunk_idx in
    let h = c.args.grafting_height in
    let k = c.requires in
    let same : n ≡ k.0 = size_inj mmr_merges n k.0 (e ∙ sym k.2) in
    let end : i * 2 ^ h + 2 ^ h ≡ (i + 1) * 2 ^ h = omega arith in
    let root : mmr_position (i * 2 ^ h) h ≡ c.new.result =
    ap (λ (s : ℕ). mmr_position s h) (sym (chunk_within k.0 i h (omega (arith, k.1)) k.3).first) ∙ sym (c.new.ensures ∙ c.root_position-root.ensures) in
    sym (ap (λ (b : ℕ). map placed (nodes_inside mmr_merges n (i * 2 ^ h) b)) (sym end)
    ∙ nodes_inside_born mmr_merges 4611686018427387904 (mmr_equal 4611686018427387904) mmr_position mmr_birth_leaf_count mmr_coordinates n (i * 2 ^ h) i h l refl (omega (arith, end, same, k.3))
    ∙ ap (λ (p : ℕ). (p, h) ∷ []) root)
