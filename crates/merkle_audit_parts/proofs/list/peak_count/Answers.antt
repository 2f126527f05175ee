use Rattle.std.proofs.Common.{◌∙◌}
use Rattle.std.proofs.lemmas.Iterator.Consumers.{count_from_yields_List, YieldsList-from_first}
use Rattle.std.proofs.lemmas.List.{length-map}
use Rattle.merkle_base.specs.Places.{peaks_of, peak_positions}
use Rattle.merkle_base.specs.Tree.{position}
use Rattle.merkle_audit_parts.proofs.list.peak_count.Goals as goal

pub returns : goal.returns
returns g c =
    let rule = g.F.Family.rule in
    let all = peak_positions rule c.args.leaves in
    count_from_yields_List c.nodes_to_pin.result _ c.count.ensures.ran (YieldsList-from_first (λ x. x) (λ s. s) all c.nodes_to_pin.ensures.peaks)
    ∙ length-map (peaks_of rule c.args.leaves) position
