use Rattle.std.proofs.Common.{arith, ◌∙◌}
use Rattle.merkle_codec.proofs.ProofBytes.{parts_sum}
use Rattle.merkle_codec.proofs.proof.ProofEncodeSize.encode_size.Goals as goal

pub overflow_mul-result : goal.overflow_mul-result
overflow_mul-result g c =
    let D = g.met.D.Digest in
    let bytes = g.D.Digest.bytes in
    let p = c.args.self.now in
    let sum = parts_sum bytes g.D.Digest.SIZE (λ x. D.one_length (bytes x) (D.bytes_spell x)) p.leaves p.inactive_peaks p.digests.items
    c.numbers_size.result c.len.result c.SIZE.result c.numbers_size.ensures.size (c.len.ensures ∙ p.digests.ok.0) c.SIZE.ensures in
    omega (arith, sum, c.requires)

pub overflow_add-result : goal.overflow_add-result
overflow_add-result g c =
    let D = g.met.D.Digest in
    let bytes = g.D.Digest.bytes in
    let p = c.args.self.now in
    let sum = parts_sum bytes g.D.Digest.SIZE (λ x. D.one_length (bytes x) (D.bytes_spell x)) p.leaves p.inactive_peaks p.digests.items
    c.numbers_size.result c.len.result c.SIZE.result c.numbers_size.ensures.size (c.len.ensures ∙ p.digests.ok.0) c.SIZE.ensures in
    omega (arith, sum, c.requires)

pub returns : goal.returns
returns g c =
    let D = g.met.D.Digest in
    let bytes = g.D.Digest.bytes in
    let p = c.args.self.now in
    let sum = parts_sum bytes g.D.Digest.SIZE (λ x. D.one_length (bytes x) (D.bytes_spell x)) p.leaves p.inactive_peaks p.digests.items
    c.numbers_size.result c.len.result c.SIZE.result c.numbers_size.ensures.size (c.len.ensures ∙ p.digests.ok.0) c.SIZE.ensures in
    sum
