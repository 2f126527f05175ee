use Rattle.std.proofs.Common.{subst}
use Rattle.sha2.specs.Hashers.{Holds256}
use Rattle.merkle_lanes.proofs.Parts.{joined_parts_more}
use Rattle.merkle_lanes.proofs.hash_long.Goals as goal

pub loop-part-preserved : goal.loop-part-preserved
loop-part-preserved c =
    subst (Holds256 c.update.new.self) (joined_parts_more c.args.parts.now c.loop-part.part-index _ c.loop-part-test.true) (c.update.ensures _ c.loop-part.invariant)
