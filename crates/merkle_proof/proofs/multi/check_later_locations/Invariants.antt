use Rattle.std.proofs.Common.{◌≡◌, drop}
use Rattle.merkle_base.specs.Cases.{first_case}
use Rattle.merkle_scattered.specs.MultiPositions.{later_refusals}
use Rattle.merkle_proof.proofs.multi.check_later_locations.Given as goal

abbrev pub invariant-loop-location : goal.invariant-loop-location
invariant-loop-location g l =
    first_case (later_refusals {F = g.row.F.Denot} g.F.Family.MAX_LEAVES l.fn.leaves l.fn.first l.others)
    ≡ first_case (later_refusals g.F.Family.MAX_LEAVES l.fn.leaves l.before (drop l.location-index l.others))
