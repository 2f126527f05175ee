use Rattle.std.proofs.Common.{length, ap, sym, ◌∙◌}
use Rattle.std.proofs.lemmas.Iterator.Consumers.{count_from_yields_List, YieldsList-from_first}
use Rattle.std.proofs.lemmas.List.{length-map}
use Rattle.merkle_base.specs.Places.{peaks_of, peak_positions}
use Rattle.merkle_base.specs.Scheme.{Scheme}
use Rattle.merkle_base.specs.Tree.{position}
use Rattle.merkle_audit_parts.proofs.Claims.{told_apart}
use Rattle.merkle_audit_parts.proofs.pinned_claim.is_pinned_shape_refused.Goals as goal

pub returns-then-branch : goal.returns-then-branch
returns-then-branch g c = λ _ leaves many root ok. c.in_ok-is_shape_refused.ensures c.if-branch.true leaves many root ok.0

pub returns-then-is_valid : goal.returns-then-is_valid
returns-then-is_valid g c = λ yes _ _ _ ok.
    let rule = g.F.Family.rule in
    let start = c.args.start in
    let is = g.met.H.Hasher.scheme_is c.args.hasher.now in
    let all = peak_positions rule start in
    let counted =
    count_from_yields_List c.nodes_to_pin.result _ c.count.ensures.ran (YieldsList-from_first (λ x. x) (λ s. s) all c.nodes_to_pin.ensures.peaks) ∙ length-map (peaks_of rule start) position in
    told_apart (length c.args.pinned_nodes.now) c.count.result yes (ok.1 ∙ ap (λ (z : Scheme g.row.H-Digest.Denot). length (peaks_of z.rule start)) is ∙ sym counted)
