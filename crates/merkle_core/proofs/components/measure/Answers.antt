use Rattle.std.proofs.Common.{rules, ◌≡◌, ◌+◌, ◌-◌, ◌<◌, ◌≤◌, arith}
use Rattle.merkle_batch_theory.proofs.PinFacts.{size_within}
use Rattle.merkle_core.proofs.components.measure.Goals as goal

pub overflow_sub-MAX_NODES : goal.overflow_sub-MAX_NODES
overflow_sub-MAX_NODES g c =
    let valid : c.args.boundary ≤ g.F.Family.MAX_LEAVES = search rules in
    omega (
      arith,
      c.as_u64.ensures,
      c.MAX_NODES.ensures,
      c.location_to_position-start.ensures,
      size_within g.F.Family.rule g.F.Family.MAX_LEAVES g.F.Family.MAX_NODES c.args.boundary g.met.F.Family.lawful valid,
    )

pub returns-then-count-MAX_NODES-clause-allowed : goal.returns-then-count-MAX_NODES-clause-allowed
returns-then-count-MAX_NODES-clause-allowed g c = λ valid sized.
    let more : c.MAX_NODES.result - c.as_u64.result < c.args.count = search rules in
    absurd (omega (
      arith,
      more,
      sized.2,
      c.as_u64.ensures,
      c.MAX_NODES.ensures,
      c.location_to_position-start.ensures,
      size_within g.F.Family.rule g.F.Family.MAX_LEAVES g.F.Family.MAX_NODES sized.0 g.met.F.Family.lawful sized.1,
    ))

pub position_to_location-requires : goal.position_to_location-requires
position_to_location-requires g c =
    let valid : c.args.boundary ≤ g.F.Family.MAX_LEAVES = search rules in
    let fits : c.args.count ≤ c.MAX_NODES.result - c.as_u64.result = search rules in
    let end : c.add-end.result ≡ c.location_to_position-start.result + c.args.count = search rules in
    omega (
      arith,
      fits,
      end,
      c.as_u64.ensures,
      c.MAX_NODES.ensures,
      c.location_to_position-start.ensures,
      size_within g.F.Family.rule g.F.Family.MAX_LEAVES g.F.Family.MAX_NODES c.args.boundary g.met.F.Family.lawful valid,
    )

pub returns-in-Some-clause-too_large : goal.returns-in-Some-clause-too_large
returns-in-Some-clause-too_large g c = λ valid past.
    let fits : c.args.count ≤ c.MAX_NODES.result - c.as_u64.result = search rules in
    absurd (omega (
      arith,
      past,
      fits,
      c.as_u64.ensures,
      c.MAX_NODES.ensures,
      c.location_to_position-start.ensures,
      size_within g.F.Family.rule g.F.Family.MAX_LEAVES g.F.Family.MAX_NODES c.args.boundary g.met.F.Family.lawful valid,
    ))

pub returns-in-None-clause-too_large : goal.returns-in-None-clause-too_large
returns-in-None-clause-too_large g c = λ valid past.
    let fits : c.args.count ≤ c.MAX_NODES.result - c.as_u64.result = search rules in
    absurd (omega (
      arith,
      past,
      fits,
      c.as_u64.ensures,
      c.MAX_NODES.ensures,
      c.location_to_position-start.ensures,
      size_within g.F.Family.rule g.F.Family.MAX_LEAVES g.F.Family.MAX_NODES c.args.boundary g.met.F.Family.lawful valid,
    ))

pub returns-then-not-is_valid-clause-too_large : goal.returns-then-not-is_valid-clause-too_large
returns-then-not-is_valid-clause-too_large g c = search rules depth 2

pub returns-then-not-is_valid-clause-no_size : goal.returns-then-not-is_valid-clause-no_size
returns-then-not-is_valid-clause-no_size g c = search rules depth 2

pub returns-then-not-is_valid-clause-allowed : goal.returns-then-not-is_valid-clause-allowed
returns-then-not-is_valid-clause-allowed g c = search rules depth 2
