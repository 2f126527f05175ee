use Rattle.std.proofs.Common.{◌+◌, arith, ap, sym, ◌∙◌, subst}
use Rattle.merkle_base.specs.Places.{IsHeightAt}
use Rattle.merkle_forest_theory.specs.Mmb.{mmb_merges}
use Rattle.merkle_topology.proofs.BeltNodes.{mmb_leaf_height, mmb_parent_height}
use Rattle.merkle_topology.proofs.mmb.FamilyFamily.pos_to_height.Goals as goal

pub returns-then-node_count-nodes : goal.returns-then-node_count-nodes
returns-then-node_count-nodes c =
    mmb_leaf_height c.leaf_count_within-birth.result c.args.position (sym c.node_count.ensures ∙ c.if-node_count-nodes.true ∙ c.as_u64-nodes.ensures)
    (omega (arith, c.leaf_count_within-birth.ensures.greatest, c.as_u64-nodes.ensures))

pub returns-else-node_count-nodes : goal.returns-else-node_count-nodes
returns-else-node_count-nodes c =
    let k = c.leaf_count_within-birth.ensures in
    let e = ap (λ n. n + 1) (sym c.trailing_ones.ensures) in
    subst (IsHeightAt mmb_merges c.args.position) e
    (mmb_parent_height c.leaf_count_within-birth.result c.args.position k.limit (omega (arith, k.within, c.as_u64-nodes.ensures))
    (λ q. c.if-node_count-nodes.false (c.node_count.ensures ∙ q ∙ sym c.as_u64-nodes.ensures)) (omega (arith, k.greatest, c.as_u64-nodes.ensures)))
