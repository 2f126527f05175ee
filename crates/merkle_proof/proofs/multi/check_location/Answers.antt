use Rattle.std.proofs.Common.{rules, arith, ◌<◌}
use Rattle.merkle_base.proofs.Limits.{lawful_leaves}
use Rattle.merkle_proof.proofs.multi.check_location.Goals as goal

pub add-requires : goal.add-requires
add-requires g c =
    let valid : c.args.location < g.F.Family.MAX_LEAVES = search rules in
    omega (arith, valid, lawful_leaves _ _ _ g.met.F.Family.lawful)
