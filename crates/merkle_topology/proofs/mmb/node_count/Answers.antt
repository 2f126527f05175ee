use Rattle.std.proofs.Common.{◌≡◌, ◌*◌, ◌^◌, suc, arith, pow-suc}
use Rattle.merkle_forest_theory.proofs.BeltLawful.{mmb_size}
use Rattle.merkle_topology.proofs.Perfect.{pow_large}
use Rattle.merkle_topology.proofs.mmb.node_count.Goals as goal

pub overflow_sub-result : goal.overflow_sub-result
overflow_sub-result c = omega (arith, c.from.ensures, pow_large c.ilog2.result, c.ilog2.ensures.power_le)

pub returns : goal.returns
returns c =
    let e : 2 ^ suc c.ilog2.result ≡ 2 ^ c.ilog2.result * 2 = pow-suc 2 c.ilog2.result in
    omega (arith, c.from.ensures, mmb_size c.args.leaves c.ilog2.result c.ilog2.ensures.power_le (omega (arith, e, c.ilog2.ensures.next_power_gt)))
