use Rattle.std.proofs.Common.{◌-◌, arith, ap, sym, ◌∙◌}
use Rattle.merkle_forest_theory.specs.Mmr.{mmr_merges, mmr_position}
use Rattle.merkle_topology.proofs.LeafCounts.{size_only}
use Rattle.merkle_topology.proofs.RangeRoots.{doubled_pos}
use Rattle.merkle_topology.proofs.mmr.first_below.Goals as goal

pub returns-clause-root : goal.returns-clause-root
returns-clause-root c =
    let k = c.requires.is_root in
    let f = c.leaf_count_within.ensures in
    let same = size_only mmr_merges c.leaf_count_within.result k.0 (c.args.position - c.nodes_below.result) f.within f.greatest
    (omega (arith, k.1, c.nodes_below.ensures, doubled_pos c.args.height)) in
    ap (λ s. mmr_position s c.args.height) (sym same) ∙ k.1
