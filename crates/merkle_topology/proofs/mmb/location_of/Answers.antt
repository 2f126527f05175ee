use Rattle.std.proofs.Common.{ap, sym, ◌∙◌}
use Rattle.merkle_base.specs.Forest.{size}
use Rattle.merkle_forest_theory.specs.Mmb.{mmb_merges}
use Rattle.merkle_topology.proofs.LeafCounts.{size_only}
use Rattle.merkle_topology.proofs.mmb.location_of.Goals as goal

pub returns-else-node_count-as_u64-clause-none : goal.returns-else-node_count-as_u64-clause-none
returns-else-node_count-as_u64-clause-none c = λ n e.
    let same = size_only mmb_merges c.args.leaves n c.args.position c.requires.within c.requires.greatest e in
    c.if-node_count-as_u64.false (c.node_count.ensures ∙ ap (size mmb_merges) (sym same) ∙ e ∙ sym c.as_u64.ensures)
