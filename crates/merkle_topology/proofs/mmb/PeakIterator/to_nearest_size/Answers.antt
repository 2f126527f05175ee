use Rattle.std.proofs.Common.{ℕ, sym, ◌∙◌, subst, arith}
use Rattle.merkle_base.specs.Places.{IsNearestSize}
use Rattle.merkle_forest_theory.specs.Mmb.{mmb_merges}
use Rattle.merkle_topology.proofs.LeafCounts.{size_nearest}
use Rattle.merkle_topology.proofs.mmb.PeakIterator.to_nearest_size.Goals as goal

pub returns : goal.returns
returns c =
    let k = c.leaf_count_within.ensures in
    subst (λ (x : ℕ). IsNearestSize mmb_merges 4611686018427387934 c.args.nodes x) (sym (c.new.ensures ∙ c.node_count.ensures))
    (size_nearest mmb_merges 4611686018427387934 c.leaf_count_within.result c.args.nodes k.limit (omega (arith, k.within, c.as_u64.ensures)) (omega (arith, k.greatest, c.as_u64.ensures)))
