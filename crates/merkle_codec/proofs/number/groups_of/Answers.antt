use Rattle.std.proofs.Common.{arith}
use Rattle.std.proofs.lemmas.Grind.{common_steps}
use Rattle.merkle_codec.proofs.NumberGroups.{more_groups, last_group}
use Rattle.merkle_codec.proofs.number.groups_of.Goals as goal

pub loop-rest-preserved : goal.loop-rest-preserved
loop-rest-preserved c =
    let l = c.loop-rest in
    let step = more_groups l.len l.rest c.args.number l.groups l.invariant.few l.invariant.fits c.loop-rest-test.true l.invariant.ten l.invariant.spells in record {
      ten = grind (arith, common_steps, l.invariant.ten);
      few = step.0;
      fits = step.1;
      spells = step.2;
    }

pub returns-clause-spells : goal.returns-clause-spells
returns-clause-spells c =
    let l = c.loop-rest in
    last_group l.len l.rest c.args.number l.groups l.invariant.few c.loop-rest-test.false l.invariant.ten l.invariant.spells
