use Rattle.std.proofs.Common.{arith, ◌≡◌, ◌+◌, ◌*◌, ◌^◌, ◌<◌, ap, subst}
use Rattle.std.specs.Option.{SomeIff}
use Rattle.merkle_core.specs.ConfigBytes.{counted_length}
use Rattle.merkle_core.proofs.config_codec.checked_counted_size.Goals as goal

pub returns-in_err-bytes : goal.returns-in_err-bytes
returns-in_err-bytes g c =
    let product : c.args.count * c.SIZE.result ≡ c.args.count * g.D.Digest.SIZE = ap (λ s. c.args.count * s) c.SIZE.ensures in
    rw c.from_residual.ensures (λ fits. c.in_err-bytes.ensures (omega (arith, product, fits)))

pub returns : goal.returns
returns g c =
    let product : c.args.count * c.SIZE.result ≡ c.args.count * g.D.Digest.SIZE = ap (λ s. c.args.count * s) c.SIZE.ensures in
    let total : c.in_ok-bytes.bytes + c.number_size.result ≡ counted_length g.D.Digest.SIZE c.args.count = omega (arith, product, c.in_ok-bytes.ensures.1, c.number_size.ensures.size) in
    subst (λ n. SomeIff c.checked_add.result (n < 2 ^ 64) n) total c.checked_add.ensures
