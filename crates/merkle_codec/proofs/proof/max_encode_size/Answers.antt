use Rattle.std.proofs.Common.{arith, ◌*◌, ap}
use Rattle.merkle_codec.proofs.ProofBytes.{most_bytes}
use Rattle.merkle_codec.proofs.proof.max_encode_size.Goals as goal

pub returns-clause-greatest : goal.returns-clause-greatest
returns-clause-greatest g c leaves inactive ds le =
    let D = g.met.D.Digest in
    let bytes = g.D.Digest.bytes in
    omega (
      arith,
      most_bytes bytes g.D.Digest.SIZE (λ x. D.one_length (bytes x) (D.bytes_spell x)) leaves inactive c.args.digests ds le,
      c.number_size.ensures.size,
      ap (λ s. c.args.digests * s) c.SIZE.ensures,
    )
