use Rattle.std.proofs.Common.{◌≡◌, ◌+◌, ◌-◌, ◌*◌, ◌/◌, ◌^◌, ◌<◌, ◌≤◌, ℕ, suc, arith, pow-suc, sym, subst}
use Rattle.merkle_base.specs.Forest.{size}
use Rattle.merkle_forest_theory.specs.Mmb.{mmb_merges}
use Rattle.merkle_topology.proofs.BeltCounts.{size_of_log, size_past_log, size_past_limit}
use Rattle.merkle_topology.proofs.mmb.search.Goals as goal

within : (nodes peaks log : ℕ) → peaks ≡ log → 2 ^ log ≤ nodes + 2 → size mmb_merges ((nodes + peaks - 1) / 2) ≤ nodes
within nodes peaks log e low = subst (λ (n : ℕ). size mmb_merges ((nodes + n - 1) / 2) ≤ nodes) (sym e) (size_of_log nodes log low)

pub returns-then-low-ge-MAX_LEAVES-clause-within : goal.returns-then-low-ge-MAX_LEAVES-clause-within
returns-then-low-ge-MAX_LEAVES-clause-within c = within c.args.nodes c.from.result c.ilog2.result c.from.ensures c.ilog2.ensures.power_le

pub returns-then-low-ge-MAX_LEAVES-clause-greatest : goal.returns-then-low-ge-MAX_LEAVES-clause-greatest
returns-then-low-ge-MAX_LEAVES-clause-greatest c = size_past_limit c.args.nodes ((c.args.nodes + c.from.result - 1) / 2) c.requires (omega (arith, c.if-low-ge-MAX_LEAVES.true))

pub returns-then-node_count-nodes-clause-greatest : goal.returns-then-node_count-nodes-clause-greatest
returns-then-node_count-nodes-clause-greatest c =
    let double : 2 ^ suc c.ilog2.result ≡ 2 ^ c.ilog2.result * 2 = pow-suc 2 c.ilog2.result in
    subst (λ (n : ℕ). c.args.nodes < size mmb_merges ((c.args.nodes + n - 1) / 2 + 1 + 1)) (sym c.from.ensures)
    (size_past_log c.args.nodes c.ilog2.result (omega (arith, double, c.ilog2.ensures.next_power_gt)))

pub returns-else-node_count-nodes-clause-within : goal.returns-else-node_count-nodes-clause-within
returns-else-node_count-nodes-clause-within c = within c.args.nodes c.from.result c.ilog2.result c.from.ensures c.ilog2.ensures.power_le
