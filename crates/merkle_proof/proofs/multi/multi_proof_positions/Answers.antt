use Rattle.std.proofs.Common.{◌≤◌, ◌*◌, length, subst, sym}
use Rattle.merkle_claim_theory.proofs.FewPositions.{positions_few}
use Rattle.merkle_scattered.proofs.ReadOnce.{multi_ascending}
use Rattle.merkle_scattered.proofs.ScatteredPositions.{ascends_never_falls}
use Rattle.merkle_proof.proofs.multi.multi_proof_positions.Goals as goal

pub scattered_positions-requires-clause-ascend : goal.scattered_positions-requires-clause-ascend
scattered_positions-requires-clause-ascend g c = ascends_never_falls 0 c.args.locations.now c.in_default.ensures.ok.ascend

pub returns-clause-ok : goal.returns-clause-ok
returns-clause-ok g c = multi_ascending g.F.Family.rule c.args.leaves c.args.locations.now _ _ c.in_ok-positions.ensures c.ascending.ensures

pub returns-clause-at_most_122_each : goal.returns-clause-at_most_122_each
returns-clause-at_most_122_each g c = λ few.
    let within = c.in_default.ensures.ok in
    let n = c.args.leaves in
    subst (λ ps. length ps ≤ 122 * length c.args.locations.now) (sym (returns-clause-ok g c))
    (positions_few g.F.Family.rule g.F.Family.MAX_LEAVES g.F.Family.MAX_NODES g.met.F.Family.lawful n within.leaves (λ j. few n j within.leaves) c.args.locations.now within.below)
