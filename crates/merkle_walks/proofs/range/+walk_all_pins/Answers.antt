use Rattle.std.proofs.Common.{arith, ◌∙◌}
use Rattle.merkle_root_theory.specs.Expression.{value}
use Rattle.merkle_claim_theory.specs.PinnedClaim.{pin_tree}
use Rattle.merkle_walks.specs.Ranged.{pin_in}
use Rattle.merkle_walks.proofs.GivenNodes.{no_digests, more_digests}
use Rattle.merkle_walks.proofs.RangeWalks.{none_among, more_among}
use Rattle.merkle_walks.proofs.Walks.{first_peak}
use Rattle.merkle_walks.proofs.range.+walk_all_pins.Goals as goal

pub returns-in_default-clause-digests : goal.returns-in_default-clause-digests
returns-in_default-clause-digests g t c = λ ts same nodes.
    let h = g.H.Hasher.hashing c.args.hasher.now in
    no_digests (λ u. value h (pin_tree h (pin_in c.args.pins.now) u)) c.args.nodes.now ts c.args.digests.now.items c.in_default.ensures.cases same

pub returns-in_default-clause-found : goal.returns-in_default-clause-found
returns-in_default-clause-found g t c = λ ts same nodes.
    let h = g.H.Hasher.hashing c.args.hasher.now in
    none_among h (g.B.Hashes.hashed c.args.listed.now) (pin_tree h (pin_in c.args.pins.now)) c.args.nodes.now ts c.in_default.ensures.cases same

pub walk_pins-digest-requires : goal.walk_pins-digest-requires
walk_pins-digest-requires g t c =
    let n = c.requires.nodes in
    let w = first_peak g.F.Family.rule g.F.Family.MAX_LEAVES c.args.nodes.now _ _ n.0 c.in-Some.ensures.cases.0 n.1 n.2 in
    record { node = (w.0, w.3) }

pub walk_all_pins-requires : goal.walk_all_pins-requires
walk_all_pins-requires g t c κs within =
    let n = c.requires.nodes in
    let w = first_peak g.F.Family.rule g.F.Family.MAX_LEAVES c.args.nodes.now _ _ n.0 c.in-Some.ensures.cases.0 n.1 n.2 in
    (omega (arith, c.in-Some.ensures.cases.1, c.decreases), (within.0, (within.1.0, (within.1.1.0, (within.1.1.1.0, (within.1.1.1.1.0, (within.1.1.1.1.1, (w.1, w.4, w.5))))))))

pub returns-clause-digests : goal.returns-clause-digests
returns-clause-digests g t c = λ ts same nodes.
    let h = g.H.Hasher.hashing c.args.hasher.now in
    let w = first_peak g.F.Family.rule g.F.Family.MAX_LEAVES c.args.nodes.now _ _ ts c.in-Some.ensures.cases.0 same nodes in
    more_digests (λ u. value h (pin_tree h (pin_in c.args.pins.now) u)) ts w.0 w.1 w.2 c.args.digests.now.items _ _ _
    (c.walk_pins-digest.ensures.digest w.0 w.3) c.in_ok-push.ensures.items (c.in_ok-later.ensures.digests w.1 w.4 w.5)

pub returns-clause-found : goal.returns-clause-found
returns-clause-found g t c = λ ts same nodes.
    let h = g.H.Hasher.hashing c.args.hasher.now in
    let w = first_peak g.F.Family.rule g.F.Family.MAX_LEAVES c.args.nodes.now _ _ ts c.in-Some.ensures.cases.0 same nodes in
    c.first_of.ensures
    ∙ more_among h (g.B.Hashes.hashed c.args.listed.now) (pin_tree h (pin_in c.args.pins.now)) ts w.0 w.1 w.2 _ _
    (c.walk_pins-digest.ensures.found w.0 w.3) (c.in_ok-later.ensures.found w.1 w.4 w.5)
