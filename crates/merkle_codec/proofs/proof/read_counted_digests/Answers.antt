use Rattle.std.proofs.Common.{arith, inr}
use Rattle.merkle_codec.proofs.proof.read_counted_digests.Goals as goal

pub returns-in-Err-clause-refused : goal.returns-in-Err-clause-refused
returns-in-Err-clause-refused g c =
    let n = c.in_ok-count in
    inr (n.count, n.rest.now, omega (arith, n.ensures.within, c.ranges.max_digests.fits), n.ensures.read, (n.ensures.within, c.in-Err.ensures.refused))
