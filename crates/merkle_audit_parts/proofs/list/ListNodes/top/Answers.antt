use Rattle.std.proofs.Common.{◌∷◌, ap, ap₂, ◌∙◌}
use Rattle.merkle_base.specs.Root.{folded, root_string}
use Rattle.merkle_base.specs.Digests.{peak_digests}
use Rattle.merkle_root_theory.specs.Expression.{Root, Bytes}
use Rattle.merkle_audit_theory.specs.Folds.{numbered_inputs}
use Rattle.merkle_audit_parts.proofs.Lists.{peaks_are}
use Rattle.merkle_walks.proofs.Tops.{numbered_whole}
use Rattle.merkle_audit_parts.proofs.Verdicts.{if_both}
use Rattle.merkle_audit_parts.proofs.list.ListNodes.top.Goals as goal

pub returns : goal.returns
returns g c = λ X of is.
    let s = g.H.Hasher.scheme c.args.hasher.now in
    let k = c.args.inactive in
    let digests = c.in_ok-digests.ensures ∙ peaks_are s.hashing s.rule X g.D.Digest.EMPTY _ of c.args.peaks.now is in
    let given = c.deref-2.ensures.value ∙ digests in
    let n = c.leaves.ensures.count ∙ ap (λ z. z.leaves) c.deref.ensures ∙ of.leaves in
    if_both c.above_peaks.result _ _ _ (λ t x y.
    ap₂ (λ b fs. record { place = Root; argument = Bytes b } ∷ fs)
    (x ∙ ap₂ (λ m ds. root_string s.hashing s.domain s.bagging m k (folded s.hashing.fold s.bagging k ds)) n given)
    (y ∙ ap (λ ds. numbered_inputs s.hashing s.bagging k k 1 ds) given ∙ numbered_whole s.hashing s.bagging k (peak_digests s.hashing s.rule X)))
    c.above_peaks.ensures.root c.above_peaks.ensures.folds
