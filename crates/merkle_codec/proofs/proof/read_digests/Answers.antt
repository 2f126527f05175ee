use Rattle.std.proofs.Common.{rules, arith, ◌*◌, ◌<◌, ◌≤◌, length, subst}
use Rattle.std.proofs.Math.Nat.{le-div_iff_mul-le}
use Rattle.merkle_codec.proofs.ProofBytes.{one_refused}
use Rattle.merkle_codec.proofs.proof.read_digests.Goals as goal

pub returns-in_err-digest-clause-refused : goal.returns-in_err-digest-clause-refused
returns-in_err-digest-clause-refused g c =
    let D = g.met.D.Digest in
    let bytes = g.D.Digest.bytes in
    let l = c.loop-rest in
    let below : length l.digests.items < c.args.count = omega (arith, l.digests.ok.0, c.len.ensures, c.loop-rest-test.true) in
    let some : 0 < c.SIZE.result = omega (arith, D.nonempty, c.SIZE.ensures) in
    let there : c.args.count * c.SIZE.result ≤ length c.args.bytes.now = (le-div_iff_mul-le some).0 (omega arith) in
    let full : c.args.count * g.D.Digest.SIZE ≤ length c.args.bytes.now = subst (λ s. c.args.count * s ≤ length c.args.bytes.now) c.SIZE.ensures there in
    let refused = one_refused bytes g.D.Digest.SIZE (λ x. D.one_length (bytes x) (D.bytes_spell x)) g.D.Digest.Spells l.digests.items c.args.count
    c.args.bytes.now l.rest.now c.in_err-digest.field-0.0 below full l.invariant.read c.in_err-digest.ensures.refused in
    search (rules, refused)
