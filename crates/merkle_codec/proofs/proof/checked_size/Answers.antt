use Rattle.std.proofs.Common.{arith, ◌≡◌, ◌+◌, ◌*◌, ◌^◌, ◌<◌, ap, length, ◌∙◌, subst}
use Rattle.std.specs.Option.{SomeIff}
use Rattle.merkle_codec.specs.ProofSpelling.{proof_spelling}
use Rattle.merkle_codec.proofs.ProofBytes.{length-parts, parts_sum}
use Rattle.merkle_codec.proofs.proof.checked_size.Goals as goal

pub returns-in_err-digests : goal.returns-in_err-digests
returns-in_err-digests g c =
    let D = g.met.D.Digest in
    let bytes = g.D.Digest.bytes in
    let p = c.args.proof.now in
    let whole = length-parts bytes g.D.Digest.SIZE (λ x. D.one_length (bytes x) (D.bytes_spell x)) p.leaves p.inactive_peaks p.digests.items in
    let product : c.len.result * c.SIZE.result ≡ length p.digests.items * g.D.Digest.SIZE =
    ap (λ n. n * c.SIZE.result) (c.len.ensures ∙ p.digests.ok.0) ∙ ap (λ s. length p.digests.items * s) c.SIZE.ensures in
    rw c.from_residual.ensures (λ fits. c.in_err-digests.ensures (omega (arith, whole, product, fits)))

pub returns : goal.returns
returns g c =
    let D = g.met.D.Digest in
    let bytes = g.D.Digest.bytes in
    let p = c.args.proof.now in
    let sum = parts_sum bytes g.D.Digest.SIZE (λ x. D.one_length (bytes x) (D.bytes_spell x)) p.leaves p.inactive_peaks p.digests.items
    c.numbers_size.result c.len.result c.SIZE.result c.numbers_size.ensures.size (c.len.ensures ∙ p.digests.ok.0) c.SIZE.ensures in
    let total : c.in_ok-digests.digests + c.numbers_size.result ≡ length (proof_spelling bytes p) = omega (arith, c.in_ok-digests.ensures.1, sum) in
    subst (λ n. SomeIff c.checked_add.result (n < 2 ^ 64) n) total c.checked_add.ensures
