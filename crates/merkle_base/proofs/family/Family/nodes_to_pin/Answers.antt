use Rattle.std.proofs.Common.{ap, sym, ◌∙◌, arith, map, length}
use Rattle.std.proofs.lemmas.List.{length-map}
use Rattle.merkle_base.specs.Tree.{position}
use Rattle.merkle_base.specs.Places.{peaks_of}
use Rattle.merkle_base.proofs.PeakLists.{first-placed, few_peaks}
use Rattle.merkle_base.proofs.family.Family.nodes_to_pin.Goals as goal

pub returns-clause-peaks : goal.returns-clause-peaks
returns-clause-peaks g c = ap (map (λ q. q.0)) (c.peaks.ensures c.args.location c.requires (sym c.location_to_position.ensures)) ∙ first-placed (peaks_of g.Self.Family.rule c.args.location)

pub returns-clause-at_most_max_pinned : goal.returns-clause-at_most_max_pinned
returns-clause-at_most_max_pinned g c =
    let e = ap length (ap (map (λ q. q.0)) (c.peaks.ensures c.args.location c.requires (sym c.location_to_position.ensures)) ∙ first-placed (peaks_of g.Self.Family.rule c.args.location)) in
    omega (arith, e, length-map (peaks_of g.Self.Family.rule c.args.location) position, few_peaks _ _ _ g.met.Self.Family.lawful c.args.location c.requires)
