use Rattle.std.proofs.Common.{◌≡◌, ◌<◌, ◌+◌, length, refl, rules, ap, arith, ◌∙◌}
use Rattle.std.proofs.lemmas.Bool.{false≢true}
use Rattle.std.proofs.lemmas.List.{nil_from_length}
use Rattle.std.proofs.lemmas.Result.{IfOk-weaker}
use Rattle.merkle_base.specs.Places.{peaks_of}
use Rattle.merkle_base.specs.Scheme.{Scheme}
use Rattle.merkle_hasher.proofs.Spans.{max_small}
use Rattle.merkle_root_theory.proofs.Reconstruction.{leads_is_accepted}
use Rattle.merkle_range.specs.Input.{digest_input_of_parts}
use Rattle.merkle_range.proofs.PinChecks.{empty_accepted, some_accepted, pins_counted, rebuilt_accepted, length-peak_positions, fitting, before_rebuilt}
use Rattle.merkle_range.proofs.pins.is_rebuilt_from_pins.Goals as goal

pub returns-then-count-eq0 : goal.returns-then-count-eq0
returns-then-count-eq0 g c = λ leaves root counted led.
    let s = g.H.Hasher.scheme c.args.hasher.now in
    let r = digest_input_of_parts c.args.parts.now c.args.start leaves in
    let pins = c.args.pinned_nodes.now in
    let none : c.args.count ≡ 0 = search rules in
    empty_accepted s r pins root (counted ∙ none) ((leads_is_accepted s r root).0 led) _
    ((λ t. let z : length pins ≡ 0 = search rules in nil_from_length _ z), (λ e. let z : length pins ≡ 0 = ap length e in search rules))

pub new-requires : goal.new-requires
new-requires g c =
    let s = g.H.Hasher.scheme c.args.hasher.now in
    let p = c.args.parts.now in
    let w = c.requires.accepted in
    let r = digest_input_of_parts p c.args.start w.0 in
    let given : 0 < c.args.count = search rules in
    let ok = some_accepted s r c.args.pinned_nodes.now w.1 (omega (arith, given, w.2)) ((leads_is_accepted s r w.1).0 w.3) in
    let fits = fitting (g.H.Hasher.hashing c.args.hasher.now) (g.H.Hasher.bagging_of c.args.hasher.now) g.F.Family.rule g.F.Family.MAX_LEAVES
    g.F.Family.DOMAIN p.leaves p.inactive c.args.start p.digests.now w.0 s (g.met.H.Hasher.scheme_is c.args.hasher.now) w.1 ok (c.args.start + length w.0) refl in
    omega (arith, fits.within, fits.leaves_fit)

pub returns-then-len-pinned_nodes : goal.returns-then-len-pinned_nodes
returns-then-len-pinned_nodes g c = λ leaves root counted led.
    let s = g.H.Hasher.scheme c.args.hasher.now in
    let r = digest_input_of_parts c.args.parts.now c.args.start leaves in
    let pins = c.args.pinned_nodes.now in
    let given : 0 < c.args.count = search rules in
    let some : 0 < length leaves = omega (arith, given, counted) in
    let rules_same = ap (λ (z : Scheme g.row.H-Digest.Denot). length (peaks_of z.rule c.args.start)) (g.met.H.Hasher.scheme_is c.args.hasher.now) in (
      (λ x. absurd (false≢true x)),
      (λ v. absurd (omega (
        arith,
        c.if-len-pinned_nodes.true,
        c.len.ensures,
        ap length c.in_ok-pins.ensures.positions,
        length-peak_positions g.F.Family.rule c.args.start,
        pins_counted s r pins root some v,
        rules_same,
      ))),
    )

pub add-requires : goal.add-requires
add-requires g c =
    let s = g.H.Hasher.scheme c.args.hasher.now in
    let p = c.args.parts.now in
    let w = c.requires.accepted in
    let r = digest_input_of_parts p c.args.start w.0 in
    let given : 0 < c.args.count = search rules in
    let ok = some_accepted s r c.args.pinned_nodes.now w.1 (omega (arith, given, w.2)) ((leads_is_accepted s r w.1).0 w.3) in
    let fits = fitting (g.H.Hasher.hashing c.args.hasher.now) (g.H.Hasher.bagging_of c.args.hasher.now) g.F.Family.rule g.F.Family.MAX_LEAVES
    g.F.Family.DOMAIN p.leaves p.inactive c.args.start p.digests.now w.0 s (g.met.H.Hasher.scheme_is c.args.hasher.now) w.1 ok (c.args.start + length w.0) refl in
    omega (arith, fits.within, fits.leaves_fit, w.2, max_small g.F.Family.rule g.F.Family.MAX_LEAVES g.F.Family.MAX_NODES g.met.F.Family.lawful)

pub is_before_rebuilt-requires : goal.is_before_rebuilt-requires
is_before_rebuilt-requires g c =
    let s = g.H.Hasher.scheme c.args.hasher.now in
    let p = c.args.parts.now in
    let w = c.requires.accepted in
    let r = digest_input_of_parts p c.args.start w.0 in
    let given : 0 < c.args.count = search rules in
    let ok = some_accepted s r c.args.pinned_nodes.now w.1 (omega (arith, given, w.2)) ((leads_is_accepted s r w.1).0 w.3) in
    let fits = fitting (g.H.Hasher.hashing c.args.hasher.now) (g.H.Hasher.bagging_of c.args.hasher.now) g.F.Family.rule g.F.Family.MAX_LEAVES
    g.F.Family.DOMAIN p.leaves p.inactive c.args.start p.digests.now w.0 s (g.met.H.Hasher.scheme_is c.args.hasher.now) w.1 ok c.add.result
    (omega (arith, c.add.ensures, w.2)) in
    record {
      nonempty = omega (arith, given, c.add.ensures);
      within = fits.within;
      within_max_leaves = fits.leaves_fit;
      inactive = fits.inactive_few;
      count = fits.counted;
    }

pub returns : goal.returns
returns g c = λ leaves root counted led.
    let s = g.H.Hasher.scheme c.args.hasher.now in
    let p = c.args.parts.now in
    let r = digest_input_of_parts p c.args.start leaves in
    let pins = c.args.pinned_nodes.now in
    let given : 0 < c.args.count = search rules in
    let ok = some_accepted s r pins root (omega (arith, given, counted)) ((leads_is_accepted s r root).0 led) in
    let same : length c.in_ok-pins.pins.positions.items ≡ length pins = omega (arith, c.len.ensures, c.if-len-pinned_nodes.false) in
    let z = before_rebuilt (g.H.Hasher.hashing c.args.hasher.now) (g.H.Hasher.bagging_of c.args.hasher.now) g.F.Family.rule g.F.Family.MAX_LEAVES
    g.F.Family.DOMAIN p.leaves p.inactive c.args.start p.digests.now leaves s (g.met.H.Hasher.scheme_is c.args.hasher.now) pins
    c.in_ok-pins.pins.digests.now c.in_ok-pins.pins.positions.items
    c.in_ok-pins.ensures.positions c.in_ok-pins.ensures.digests same c.add.result (omega (arith, c.add.ensures, counted)) in
    IfOk-weaker c.is_before_rebuilt.result _ _ (λ bit k. rebuilt_accepted s r pins root ok bit ((λ y. z.0 (k.0 y)), (λ v. k.1 (z.1 v)))) c.is_before_rebuilt.ensures
