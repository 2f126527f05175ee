use Rattle.std.proofs.Common.{◌≡◌, ◌*◌, arith, ap}
use Rattle.merkle_core.proofs.config_codec.counted_size.Goals as goal

pub overflow_mul-result : goal.overflow_mul-result
overflow_mul-result g c =
    let product : c.args.count * c.SIZE.result ≡ c.args.count * g.D.Digest.SIZE = ap (λ s. c.args.count * s) c.SIZE.ensures in
    omega (arith, product, c.requires)

pub overflow_add-result : goal.overflow_add-result
overflow_add-result g c =
    let product : c.args.count * c.SIZE.result ≡ c.args.count * g.D.Digest.SIZE = ap (λ s. c.args.count * s) c.SIZE.ensures in
    omega (arith, product, c.number_size.ensures.size, c.requires)

pub returns : goal.returns
returns g c =
    let product : c.args.count * c.SIZE.result ≡ c.args.count * g.D.Digest.SIZE = ap (λ s. c.args.count * s) c.SIZE.ensures in
    omega (arith, product, c.number_size.ensures.size)
