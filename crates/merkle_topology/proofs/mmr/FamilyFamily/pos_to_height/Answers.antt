use Rattle.std.proofs.Common.{arith, ◌+◌, ◌-◌, ◌<◌, ◌≤◌, ◌≡◌, ℕ, subst}
use Rattle.merkle_base.specs.Forest.{size}
use Rattle.merkle_base.specs.Places.{IsHeightAt}
use Rattle.merkle_forest_theory.specs.Mmr.{mmr_merges}
use Rattle.merkle_topology.proofs.LeafCounts.{mmr_height}
use Rattle.merkle_topology.proofs.mmr.FamilyFamily.pos_to_height.Goals as goal

here : (p nodes n count : ℕ) → nodes ≡ p → p < 9223372036854775807 → n ≤ 4611686018427387904 → size mmr_merges n ≤ nodes → nodes < size mmr_merges (n + 1) → count ≡ size mmr_merges n →
    (nodes - count < 63) × IsHeightAt mmr_merges p (nodes - count)
here p nodes n count e small l a b d =
    let h = mmr_height n p small l (omega arith) (omega arith) in
    let same : p - size mmr_merges n ≡ nodes - count = omega arith in
    (omega (arith, h.0), subst (IsHeightAt mmr_merges p) same h.1)

pub overflow_cast-result : goal.overflow_cast-result
overflow_cast-result c =
    let k = c.leaf_count_within.ensures in
    omega (arith, (here c.args.position c.as_u64-nodes.result c.leaf_count_within.result c.node_count.result c.as_u64-nodes.ensures c.requires k.limit k.within k.greatest c.node_count.ensures).0)

pub returns : goal.returns
returns c =
    let k = c.leaf_count_within.ensures in
    (here c.args.position c.as_u64-nodes.result c.leaf_count_within.result c.node_count.result c.as_u64-nodes.ensures c.requires k.limit k.within k.greatest c.node_count.ensures).1
