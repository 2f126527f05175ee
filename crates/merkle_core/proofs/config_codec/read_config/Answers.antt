use Rattle.std.proofs.Common.{arith, ◌^◌, ◌<◌, ◌≤◌, length, inr}
use Rattle.merkle_base.specs.declared.error.DecodeError.TheVariants.{TooMany}
use Rattle.merkle_codec.specs.NumberLaws.{lawful_locations}
use Rattle.merkle_codec.specs.NumberSpelling.{IsRefusalFrom}
use Rattle.merkle_codec.specs.ProofSpelling.{IsDigestsRefusal}
use Rattle.merkle_core.proofs.ConfigSizes.{refused_after, refused_at}
use Rattle.merkle_core.proofs.config_codec.read_config.Goals as goal

pub returns-in-Err-clause-refused : goal.returns-in-Err-clause-refused
returns-in-Err-clause-refused g c =
    let F = g.F.Family in
    let D = g.D.Digest in
    let b = c.in_ok-boundary in
    let first : b.boundary ≤ F.MAX_LEAVES = omega (arith, b.ensures.within, c.MAX_LEAVES.ensures) in
    let fits : b.boundary < 2 ^ 64 = omega (arith, first, lawful_locations F.rule F.MAX_LEAVES F.MAX_NODES g.met.F.Family.lawful) in
    let after = IsRefusalFrom c.args.most_nodes TooMany (IsDigestsRefusal D.SIZE D.Spells) in
    inr (b.boundary, b.rest.now, fits, b.ensures.read, (first, refused_at D.bytes D.SIZE D.Spells after c.args.most_pins TooMany b.rest.now c.in-Err.error c.in-Err.ensures.refused))

pub returns-in-Err-read_counted_digests-clause-refused : goal.returns-in-Err-read_counted_digests-clause-refused
returns-in-Err-read_counted_digests-clause-refused g c =
    let F = g.F.Family in
    let D = g.D.Digest in
    let b = c.in_ok-boundary in
    let pins = c.in-Ok.pins in
    let first : b.boundary ≤ F.MAX_LEAVES = omega (arith, b.ensures.within, c.MAX_LEAVES.ensures) in
    let fits : b.boundary < 2 ^ 64 = omega (arith, first, lawful_locations F.rule F.MAX_LEAVES F.MAX_NODES g.met.F.Family.lawful) in
    let few : length pins.0.items ≤ c.args.most_pins = c.in-Ok.ensures.at_most_max_digests in
    let small : length pins.0.items < 2 ^ 64 = omega (arith, few, c.ranges.most_pins.fits) in
    let after = IsRefusalFrom c.args.most_nodes TooMany (IsDigestsRefusal D.SIZE D.Spells) in
    inr (
      b.boundary,
      b.rest.now,
      fits,
      b.ensures.read,
      (
        first,
        refused_after D.bytes D.SIZE D.Spells after c.args.most_pins TooMany b.rest.now c.in-Err-read_counted_digests.error pins.0.items
            pins.1.now few small c.in-Ok.ensures.read c.in-Err-read_counted_digests.ensures.refused,
      ),
    )
