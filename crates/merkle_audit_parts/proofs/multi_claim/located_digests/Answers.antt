use Rattle.std.proofs.Common.{◌≡◌, ◌++◌, ◌∷◌, [], get_or, rules, ap, ◌∙◌}
use Rattle.std.proofs.lemmas.List.{take_all}
use Rattle.merkle_proof.specs.Input.{digested}
use Rattle.merkle_audit_parts.proofs.GivenElements.{next_digested}
use Rattle.merkle_audit_parts.proofs.multi_claim.located_digests.Goals as goal

pub loop-element-preserved : goal.loop-element-preserved
loop-element-preserved g c =
    let h = g.H.Hasher.hashing c.args.hasher.now in
    let es = c.args.elements.now in
    let i = c.loop-element.element-index in
    let e = c.element-item.result in
    let e_is : e ≡ get_or es i e = search rules in
    next_digested h g.F.Family.rule es i e c.location_to_position-position.result c.loop-element.leaves.items _ c.loop-element-test.true e_is
    c.location_to_position-position.ensures c.loop-element.invariant
    (c.in_ok-push.ensures.items ∙ ap (λ d. c.loop-element.leaves.items ++ (d, e.1) ∷ []) c.leaf_digest.ensures)

pub returns-clause-some : goal.returns-clause-some
returns-clause-some g c =
    let h = g.H.Hasher.hashing c.args.hasher.now in
    let es = c.args.elements.now in
    c.loop-element.invariant ∙ ap (digested h g.F.Family.rule) (take_all c.loop-element.element-index es c.loop-element-test.false)
