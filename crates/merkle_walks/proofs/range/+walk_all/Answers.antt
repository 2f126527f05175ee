use Rattle.std.proofs.Common.{arith, ◌∙◌}
use Rattle.merkle_root_theory.specs.Check.{in_range}
use Rattle.merkle_root_theory.specs.Walk.{leaf_from}
use Rattle.merkle_walks.specs.Ranged.{pins_in}
use Rattle.merkle_walks.proofs.RangeWalks.{none_claimed, more_claimed, none_valued, more_valued}
use Rattle.merkle_walks.proofs.Walks.{first_peak}
use Rattle.merkle_walks.proofs.range.+walk_all.Goals as goal

pub returns-in_default-clause-digests : goal.returns-in_default-clause-digests
returns-in_default-clause-digests g t c = λ ts same nodes.
    let h = g.H.Hasher.hashing c.args.hasher.now in
    let gv = c.args.given.now in
    none_valued h (g.B.Hashes.hashed c.args.listed.now) (pins_in gv.pins) (in_range 0 gv.start) (in_range gv.start gv.end) (leaf_from h gv.start gv.leaves.now)
    c.args.nodes.now ts c.args.rest.now.now c.args.digests.now.items c.in_default.ensures.cases same

pub returns-in_default-clause-found : goal.returns-in_default-clause-found
returns-in_default-clause-found g t c = λ ts same nodes.
    let h = g.H.Hasher.hashing c.args.hasher.now in
    let gv = c.args.given.now in
    none_claimed h (g.B.Hashes.hashed c.args.listed.now) (pins_in gv.pins) (in_range 0 gv.start) (in_range gv.start gv.end) (leaf_from h gv.start gv.leaves.now)
    c.args.nodes.now ts c.args.rest.now.now c.in_default.ensures.cases same

pub walk-digest-requires-clause-node : goal.walk-digest-requires-clause-node
walk-digest-requires-clause-node g t c =
    let n = c.requires.nodes in
    let w = first_peak g.F.Family.rule g.F.Family.MAX_LEAVES c.args.nodes.now _ _ n.0 c.in-Some.ensures.cases.0 n.1 n.2 in
    (w.0, w.3)

pub walk_all-requires : goal.walk_all-requires
walk_all-requires g t c κs within =
    let n = c.requires.nodes in
    let w = first_peak g.F.Family.rule g.F.Family.MAX_LEAVES c.args.nodes.now _ _ n.0 c.in-Some.ensures.cases.0 n.1 n.2 in (
      omega (arith, c.in-Some.ensures.cases.1, c.decreases),
      (
        within.0,
        (
          within.1.0,
          (within.1.1.0, (within.1.1.1.0, (within.1.1.1.1.0, (within.1.1.1.1.1, ((w.1, w.4, w.5), c.requires.nonempty))))),
        ),
      ),
    )

pub returns-clause-digests : goal.returns-clause-digests
returns-clause-digests g t c = λ ts same nodes.
    let h = g.H.Hasher.hashing c.args.hasher.now in
    let gv = c.args.given.now in
    let w = first_peak g.F.Family.rule g.F.Family.MAX_LEAVES c.args.nodes.now _ _ ts c.in-Some.ensures.cases.0 same nodes in
    more_valued h (g.B.Hashes.hashed c.args.listed.now) (pins_in gv.pins) (in_range 0 gv.start) (in_range gv.start gv.end) (leaf_from h gv.start gv.leaves.now)
    ts w.0 w.1 w.2 c.args.rest.now.now _ c.args.digests.now.items _ _ _
    (c.walk-digest.ensures.left w.0 w.3) (c.walk-digest.ensures.digest w.0 w.3) c.in_ok-push.ensures.items (c.in_ok-later.ensures.digests w.1 w.4 w.5)

pub returns-clause-found : goal.returns-clause-found
returns-clause-found g t c = λ ts same nodes.
    let h = g.H.Hasher.hashing c.args.hasher.now in
    let gv = c.args.given.now in
    let w = first_peak g.F.Family.rule g.F.Family.MAX_LEAVES c.args.nodes.now _ _ ts c.in-Some.ensures.cases.0 same nodes in
    c.first_of.ensures
    ∙ more_claimed h (g.B.Hashes.hashed c.args.listed.now) (pins_in gv.pins) (in_range 0 gv.start) (in_range gv.start gv.end) (leaf_from h gv.start gv.leaves.now)
    ts w.0 w.1 w.2 c.args.rest.now.now _ _ _ (c.walk-digest.ensures.left w.0 w.3) (c.walk-digest.ensures.found w.0 w.3) (c.in_ok-later.ensures.found w.1 w.4 w.5)
