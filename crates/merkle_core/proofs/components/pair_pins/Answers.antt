use Rattle.std.proofs.Common.{rules, ◌≡◌, length, sym, ◌∙◌, subst, get_or}
use Rattle.std.proofs.lemmas.Iterator.Consumers.{count_from_yields_List, YieldsList-from_first}
use Rattle.merkle_base.specs.Places.{peak_positions}
use Rattle.merkle_core.proofs.PinMaps.{Pairing, pairing, paired, pair_next, peaks_apart}
use Rattle.merkle_core.proofs.components.pair_pins.Goals as goal

pub loop-position-init : goal.loop-position-init
loop-position-init g c =
    let rule = g.F.Family.rule in
    let b = c.args.boundary in
    let all = peak_positions rule b in
    let ds = c.args.digests.now.items in
    let es = c.new-pins.result.entries in
    let first : c.into_iter-position-iterator.result ≡ all = search rules in
    let counted : c.count.result ≡ length all = count_from_yields_List c.nodes_to_pin.result _ c.count.ensures.ran (YieldsList-from_first (λ x. x) (λ s. s) all c.nodes_to_pin.ensures.peaks) in
    let same : length ds ≡ c.count.result = search rules in
    let many : length ds ≡ length all = same ∙ counted in
    (tt, tt, subst (λ ps. Pairing all ds ps es) (sym first) (pairing all ds es (peaks_apart rule b) many c.new-pins.ensures.empty))

pub loop-position-preserved : goal.loop-position-preserved
loop-position-preserved g c =
    let all = peak_positions g.F.Family.rule c.args.boundary in
    let ds = c.args.digests.now.items in
    let es = c.loop-position.pins.entries in
    let d = c.index-digest.result.now in
    let is : d ≡ get_or ds (length es) d = search rules in
    let i = c.in_ok-insert.ensures in (
      tt,
      tt,
      pair_next all ds c.loop-position.position-iterator c.in-Some.position c.next.new.self es c.insert.new.self.entries d
          c.in_ok-insert.field-0 c.loop-position.invariant.2 c.in-Some.ensures.steps is i.updates.0 i.old i.len,
    )

pub returns-clause-made : goal.returns-clause-made
returns-clause-made g c =
    paired (peak_positions g.F.Family.rule c.args.boundary) c.args.digests.now.items c.loop-position.position-iterator c.loop-position.pins.entries
    c.loop-position.invariant.2 c.in-None.ensures.steps.0
