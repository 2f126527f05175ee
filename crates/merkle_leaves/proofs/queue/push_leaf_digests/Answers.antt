use Rattle.std.proofs.Common.{◌≡◌, ◌++◌, OnOk, arith, ap, subst, ◌∙◌}
use Rattle.std.proofs.lemmas.List.{take_all}
use Rattle.merkle_base.proofs.Limits.{lawful_leaves}
use Rattle.merkle_hasher.specs.LeafDigests.{bytes_of, leaf_digests, positioned_digests}
use Rattle.merkle_hasher.proofs.LeafDigests.{leaf_digests-queued}
use Rattle.merkle_leaves.proofs.queue.push_leaf_digests.Goals as goal

pub add_assign-requires : goal.add_assign-requires
add_assign-requires g c =
    omega (
      arith,
      c.loop-element.invariant.0,
      c.requires,
      c.loop-element-test.true,
      lawful_leaves g.F.Family.rule g.F.Family.MAX_LEAVES g.F.Family.MAX_NODES g.met.F.Family.lawful,
    )

pub loop-element-preserved : goal.loop-element-preserved
loop-element-preserved g c =
    let h = g.T.Hasher.hashing c.args.hasher.now in (
      omega (arith, c.add_assign.ensures.after, c.loop-element.invariant.0),
      leaf_digests-queued h g.F.Family.rule c.args.first c.loop-element.element-index c.args.elements.now _ _ c.loop-element.location c.args.digests.now.items c.loop-element.digests.items
          (positioned_digests h c.loop-element.waiting.items) c.queue_leaf.new.digests.items (positioned_digests h c.queue_leaf.new.waiting.items)
          c.loop-element-test.true c.loop-element.invariant.0 c.location_to_position-position.ensures c.loop-element.invariant.1 c.in_ok-queue_leaf.ensures,
    )

pub returns : goal.returns
returns g c =
    let h = g.T.Hasher.hashing c.args.hasher.now in
    let es = c.args.elements.now in
    let before = c.loop-element.digests.items in
    let whole : before ++ positioned_digests h c.deref.result.now ≡ c.args.digests.now.items ++ leaf_digests h g.F.Family.rule c.args.first (bytes_of es) =
    ap (λ ls. before ++ positioned_digests h ls) c.deref.ensures.value ∙ c.loop-element.invariant.1
    ∙ ap (λ fs. c.args.digests.now.items ++ leaf_digests h g.F.Family.rule c.args.first (bytes_of fs)) (take_all c.loop-element.element-index es c.loop-element-test.false) in
    subst (λ ds. OnOk c.leaf_digests.result (c.leaf_digests.new.digests.items ≡ ds)) whole c.leaf_digests.ensures
