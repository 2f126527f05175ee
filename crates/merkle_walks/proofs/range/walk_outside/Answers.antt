use Rattle.std.proofs.Common.{ap, sym, ◌∙◌}
use Rattle.merkle_hasher.proofs.Comparisons.{ge_yes, ge_no}
use Rattle.merkle_root_theory.specs.Check.{in_range}
use Rattle.merkle_walks.specs.Ranged.{pin_in, pins_in, outside_given}
use Rattle.merkle_walks.proofs.RangeWalks.{supplied_value, supplied_none, not_before, before_value, before_found, none_before, some_before}
use Rattle.merkle_walks.proofs.range.walk_outside.Goals as goal

pub returns-then-ge-clause-digest : goal.returns-then-ge-clause-digest
returns-then-ge-clause-digest g c = λ t w.
    let h = g.H.Hasher.hashing c.args.hasher.now in
    let start = c.args.given.now.start in
    let none = none_before g.F.Family.rule g.F.Family.MAX_LEAVES _ _ _ t w start (ge_yes c.args.node.now.first_leaf start (sym c.ge.ensures ∙ c.if-ge.true)) in
    supplied_value h (g.B.Hashes.hashed c.args.listed.now) (outside_given h c.args.given.now t c.args.digest) c.args.digest
    (not_before h (in_range 0 start) t c.args.digest (pins_in c.args.given.now.pins) none)

pub returns-then-ge-clause-found : goal.returns-then-ge-clause-found
returns-then-ge-clause-found g c = λ t w.
    let h = g.H.Hasher.hashing c.args.hasher.now in
    let start = c.args.given.now.start in
    let none = none_before g.F.Family.rule g.F.Family.MAX_LEAVES _ _ _ t w start (ge_yes c.args.node.now.first_leaf start (sym c.ge.ensures ∙ c.if-ge.true)) in
    supplied_none h (g.B.Hashes.hashed c.args.listed.now) t (outside_given h c.args.given.now t c.args.digest) c.args.digest
    (not_before h (in_range 0 start) t c.args.digest (pins_in c.args.given.now.pins) none)

pub returns-clause-digest : goal.returns-clause-digest
returns-clause-digest g c = λ t w.
    let h = g.H.Hasher.hashing c.args.hasher.now in
    let start = c.args.given.now.start in
    let some = some_before g.F.Family.rule g.F.Family.MAX_LEAVES _ _ _ t w start (ge_no c.args.node.now.first_leaf start (sym c.ge.ensures ∙ c.if-ge.false)) in
    c.walk_pins.ensures.digest t w
    ∙ before_value h (in_range 0 start) t c.args.digest (pins_in c.args.given.now.pins) (pin_in c.in-Some.pins) (ap pins_in c.in-Some.is) some

pub returns-clause-found : goal.returns-clause-found
returns-clause-found g c = λ t w.
    let h = g.H.Hasher.hashing c.args.hasher.now in
    let start = c.args.given.now.start in
    let some = some_before g.F.Family.rule g.F.Family.MAX_LEAVES _ _ _ t w start (ge_no c.args.node.now.first_leaf start (sym c.ge.ensures ∙ c.if-ge.false)) in
    c.walk_pins.ensures.found t w
    ∙ before_found h (in_range 0 start) t c.args.digest (g.B.Hashes.hashed c.args.listed.now) (pins_in c.args.given.now.pins) (pin_in c.in-Some.pins) (ap pins_in c.in-Some.is) some
