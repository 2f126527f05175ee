use Rattle.std.proofs.Common.{◌≡◌, ◌+◌, ◌≤◌, ◌∷◌, length, arith, ap, refl, ◌∙◌}
use Rattle.std.proofs.lemmas.Grind.{common_steps}
use Rattle.merkle_base.specs.Places.{peak_positions}
use Rattle.merkle_verification.proofs.PeakReads.{one_read, missing_here}
use Rattle.merkle_verification.proofs.roots.read_peaks.Goals as goal

pub loop-position-preserved : goal.loop-position-preserved
loop-position-preserved g c =
    let l = c.loop-position in
    let gone : l.position-iterator ≡ c.in-Some.position ∷ c.next.new.self = c.in-Some.ensures.steps in
    let few : l.count + length (c.in-Some.position ∷ c.next.new.self) ≤ 64 = omega (arith, l.invariant.few, ap length gone) in
    let step = one_read (g.R.Readable.node c.args.reader.now) (peak_positions g.R.Family.Family.rule c.args.leaves) l.count l.digests c.in-Some.position c.next.new.self
    c.in-Some-get_node.digest (l.invariant.left ∙ gone) (omega (arith, few, l.invariant.room)) c.in-Some-get_node.ensures l.invariant.read in record {
      goes = tt;
      ends = tt;
      room = grind (arith, common_steps, l.invariant.room);
      few = omega (arith, few);
      left = step.0;
      read = step.1;
    }

pub returns-in-None-get_node-clause-missing : goal.returns-in-None-get_node-clause-missing
returns-in-None-get_node-clause-missing g c =
    let l = c.loop-position in (
      c.in-Some.position,
      refl,
      missing_here (g.R.Readable.node c.args.reader.now) (peak_positions g.R.Family.Family.rule c.args.leaves) l.count l.digests c.in-Some.position c.next.new.self
          (l.invariant.left ∙ c.in-Some.ensures.steps) c.in-None-get_node.ensures l.invariant.read,
    )
