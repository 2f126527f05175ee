use Rattle.std.proofs.Common.{rules, ◌≤◌, length}
use Rattle.merkle_proof.proofs.MultiRefusals.{loop_ends}
use Rattle.merkle_proof.proofs.multi.check_later_locations.Goals as goal

pub returns-clause-ok : goal.returns-clause-ok
returns-clause-ok g c =
    let end : length c.args.others.now ≤ c.loop-location.location-index = search rules in
    loop_ends g.row.F.Denot g.F.Family.MAX_LEAVES c.args.leaves c.args.first c.args.others.now c.loop-location.location-index c.loop-location.before c.loop-location.invariant end
