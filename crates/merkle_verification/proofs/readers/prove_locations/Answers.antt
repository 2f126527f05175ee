use Rattle.std.proofs.Common.{◌≡◌, ◌≤◌, arith, length, subst, ◌∙◌, inr}
use Rattle.merkle_base.specs.Places.{peaks_of}
use Rattle.merkle_proof.specs.RangePlans.{IsFirstMissing}
use Rattle.merkle_verification.proofs.readers.prove_locations.Goals as goal

pub returns-clause-err : goal.returns-clause-err
returns-clause-err g c = λ other.
    let w = c.in-Err-read_nodes.ensures.err other in
    let few : c.args.inactive ≤ length (peaks_of g.R.Family.Family.rule c.args.leaves) = omega (arith, c.if-inactive-peak_count.false, c.peak_count.ensures) in
    inr (c.in-Ok.ensures.within, inr (few, (w.0, w.1, subst (λ ps. IsFirstMissing (λ q o. o ≡ g.R.Readable.node c.args.reader.now q) ps w.0) (c.deref.ensures.value ∙ c.in-Ok.ensures.ok) w.2)))
