use Rattle.std.proofs.Common.{arith}
use Rattle.merkle_topology.proofs.BeltNodes.{root_low}
use Rattle.merkle_topology.proofs.mmb.first_below.Goals as goal

pub overflow_shl-result : goal.overflow_shl-result
overflow_shl-result c =
    let k = c.requires.is_root in
    let e = c.birth_leaf_of-birth.ensures.birth k.0 k.1 in
    omega (arith, root_low k.0 c.args.height c.if-height-eq0.false (omega (arith, e, c.birth_leaf_of-birth.ensures.limit)))
