use Rattle.std.proofs.Common.{◌≡◌, ◌++◌, get_or, rules, ap, ◌∙◌}
use Rattle.std.proofs.lemmas.List.{take_all}
use Rattle.merkle_hasher.specs.LeafDigests.{positioned_digests}
use Rattle.merkle_proof.proofs.LocatedDigests.{hashed, hashed-queued}
use Rattle.merkle_proof.proofs.leaves.element_digests.Goals as goal

pub loop-element-preserved : goal.loop-element-preserved
loop-element-preserved g c =
    let h = g.H.Hasher.hashing c.args.hasher.now in
    let es = c.args.elements.now in
    let i = c.loop-element.element-index in
    let e = c.element-item.result in
    let e_is : e ≡ get_or es i e = search rules in
    hashed-queued h g.F.Family.rule es i e _ c.loop-element.digests.items (positioned_digests h c.loop-element.waiting.items)
    c.queue_leaf.new.digests.items (positioned_digests h c.queue_leaf.new.waiting.items)
    c.loop-element-test.true e_is c.location_to_position-position.ensures c.loop-element.invariant c.in_ok-queue_leaf.ensures

pub returns : goal.returns
returns g c =
    let h = g.H.Hasher.hashing c.args.hasher.now in
    let es = c.args.elements.now in
    c.in_ok-leaf_digests.ensures ∙ ap (λ ls. c.loop-element.digests.items ++ positioned_digests h ls) c.deref.ensures.value ∙ c.loop-element.invariant
    ∙ ap (hashed h g.F.Family.rule) (take_all c.loop-element.element-index es c.loop-element-test.false)
