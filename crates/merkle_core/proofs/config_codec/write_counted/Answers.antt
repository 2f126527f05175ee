use Rattle.std.proofs.Common.{arith, ◌≡◌, ◌+◌, ◌*◌, ◌<◌, ◌≤◌, length, vec_len, vec_capacity}
use Rattle.merkle_codec.specs.NumberSpelling.{number_spelling}
use Rattle.merkle_core.specs.ConfigBytes.{counted_spelling}
use Rattle.merkle_core.proofs.ConfigSizes.{OnErr-weaker, length-counted}
use Rattle.merkle_core.proofs.config_codec.write_counted.Goals as goal

pub returns-clause-no_room : goal.returns-clause-no_room
returns-clause-no_room g c =
    let D = g.met.D.Digest in
    let bytes = g.D.Digest.bytes in
    let size = g.D.Digest.SIZE in
    let ds = c.args.digests.now in
    let out = c.write_number.new.out in
    let whole = length-counted bytes size (λ x. D.one_length (bytes x) (D.bytes_spell x)) ds in
    let first : vec_len out ≡ vec_len c.args.out.now + length (number_spelling (length ds)) = c.in_ok-write_number.ensures.len in
    let room : vec_capacity c.args.out.now ≤ vec_capacity out = c.write_number.ensures.capacity in
    OnErr-weaker (vec_capacity out < vec_len out + length ds * size) (vec_capacity c.args.out.now < vec_len c.args.out.now + length (counted_spelling bytes ds)) c.write_digests.result
    (λ few. omega (arith, whole, first, room, few)) c.write_digests.ensures.no_room
