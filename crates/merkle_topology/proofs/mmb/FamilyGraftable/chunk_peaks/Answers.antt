use Rattle.std.proofs.Common.{◌≡◌, ◌+◌, ◌*◌, ◌^◌, ℕ, map, refl, arith, ap, sym, ◌∙◌}
use Rattle.merkle_base.specs.Places.{placed}
use Rattle.merkle_base.specs.Grafting.{nodes_inside, stretch_nodes}
use Rattle.merkle_base.proofs.Nodes.{size_inj, size_le}
use Rattle.merkle_base.proofs.Chunks.{nodes_inside_stretch}
use Rattle.merkle_forest_theory.specs.Mmb.{mmb_merges, mmb_position, mmb_birth_leaf_count}
use Rattle.merkle_forest_theory.proofs.Coordinates.{mmb_coordinates}
use Rattle.merkle_forest_theory.proofs.MountainBelt.{mmb_equal}
use Rattle.merkle_forest_theory.proofs.BeltLawful.{mmb_lawful}
use Rattle.merkle_topology.proofs.LeafCounts.{size_only}
use Rattle.merkle_topology.proofs.ChunkNumbers.{chunk_within}
use Rattle.merkle_topology.proofs.mmb.FamilyGraftable.chunk_peaks.Goals as goal

pub leaf_count_within-requires : goal.leaf_count_within-requires
leaf_count_within-requires c = let k = c.requires in omega (arith, c.as_u64.ensures, size_le mmb_merges k.0 4611686018427387934 k.1, k.2, mmb_lawful.size_at_limit)

pub overflow_shl-result : goal.overflow_shl-result
overflow_shl-result c = let k = c.requires in omega (arith, (chunk_within k.0 c.args.chunk_idx c.args.grafting_height (omega (arith, k.1)) k.3).low)

pub invariant_of-result : goal.invariant_of-result
invariant_of-result c =
    let k = c.requires in
    let w = chunk_within k.0 c.args.chunk_idx c.args.grafting_height (omega (arith, k.1)) k.3 in
    let f = c.leaf_count_within.ensures in
    let found = size_only mmb_merges c.leaf_count_within.result k.0 c.as_u64.result f.within f.greatest (k.2 ∙ sym c.as_u64.ensures) in
    (f.limit, (rw (w.first) (omega (arith, w.end, found)), tt))

pub returns : goal.returns
returns c = λ n l e.
    let i = c.args.chunk_idx in
    let h = c.args.grafting_height in
    let k = c.requires in
    let w = chunk_within k.0 i h (omega (arith, k.1)) k.3 in
    let f = c.leaf_count_within.ensures in
    let found = size_only mmb_merges c.leaf_count_within.result n c.as_u64.result f.within f.greatest (e ∙ sym c.as_u64.ensures) in
    let same : n ≡ k.0 = size_inj mmb_merges n k.0 (e ∙ sym k.2) in
    let end : i * 2 ^ h + 2 ^ h ≡ (i + 1) * 2 ^ h = omega arith in
    ap (λ (s : ℕ). stretch_nodes mmb_position mmb_birth_leaf_count c.leaf_count_within.result s h) w.first
    ∙ ap (λ (m : ℕ). stretch_nodes mmb_position mmb_birth_leaf_count m (i * 2 ^ h) h) (sym found)
    ∙ sym (nodes_inside_stretch mmb_merges 4611686018427387934 (mmb_equal 4611686018427387934) mmb_position mmb_birth_leaf_count mmb_coordinates n (i * 2 ^ h) i h l refl (omega (arith, w.end, same)))
    ∙ ap (λ (b : ℕ). map placed (nodes_inside mmb_merges n (i * 2 ^ h) b)) end
