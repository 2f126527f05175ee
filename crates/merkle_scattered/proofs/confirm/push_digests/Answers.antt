use Rattle.std.proofs.Common.{◌≡◌, ℕ, ◌+◌, IfSome, unwrap_or, length, drop, sym, subst, ap, arith, ◌∙◌, append-nil}
use Rattle.std.proofs.lemmas.Bool.{leb-true, leb-false, false≢true}
use Rattle.merkle_base.specs.Tree.{position}
use Rattle.merkle_base.specs.Table.{digest_for}
use Rattle.merkle_scattered.proofs.CheckedNodes.{checked_item, none_after, is_met, is_unmet}
use Rattle.merkle_scattered.proofs.CheckedDigests.{IsLeft, parents_count, no_parent_unmet, left_parents, left_unmet, left_met, left_agrees}
use Rattle.merkle_scattered.proofs.confirm.push_digests.Goals as goal
use Rattle.merkle_scattered.proofs.confirm.push_digests.Goals.{then-is_unmet+in_ok-push, else-is_unmet+else-not-agrees+in_ok-push-2}

pub digest_met-digest-requires-clause-node : goal.digest_met-digest-requires-clause-node
digest_met-digest-requires-clause-node g c =
    let n = c.requires.nodes in
    let i = c.loop-node.node-index in
    let v = checked_item g.F.Family.rule g.F.Family.MAX_LEAVES c.args.located.now c.args.nodes.now n.2 n.3 i c.loop-node-test.true c.node-item.result in
    (n.0, n.1, v.0, (c.node-item.is ∙ v.1, v.2), omega (arith, c.loop-node.invariant.0 n.0 n.1 n.2 n.3 n.4, parents_count c.args.located.now v.0 (drop i n.2) (drop (i + 1) n.2) v.3 n.0 n.1))

pub returns-then-not-agrees-clause-refuted : goal.returns-then-not-agrees-clause-refuted
returns-then-not-agrees-clause-refuted g c = λ _ h ts empty w computed_is all.
    let es = c.args.located.now in
    let i = c.loop-node.node-index in
    let a = digest_for c.args.told.now.positions.now c.args.told.now.digests.now in
    let v = checked_item g.F.Family.rule g.F.Family.MAX_LEAVES es c.args.nodes.now ts w i c.loop-node-test.true c.node-item.result in
    let e = c.node-item.is ∙ v.1 in
    let left = subst (λ us. IsLeft h a es ts us (drop c.loop-node.next c.args.computed.now) c.args.digests.now.items c.loop-node.digests.items) v.3
    (c.loop-node.invariant.1 h ts empty w computed_is) in
    let met = is_met g.F.Family.rule g.F.Family.MAX_LEAVES es c.requires.ascend c.node-item.result v.0 e v.2 (leb-false _ _ (sym c.is_unmet.ensures ∙ c.if-is_unmet.false)) in
    let digest = c.digest_met-digest.ensures.digest h a v.0 _ (e, v.2) (left_parents h a es ts (drop (i + 1) ts) v.0 _ _ _ left) in
    let d = c.digest_met-digest.result in
    let same : c.node-item.result.subtree.position ≡ position v.0 = ap (λ x. x.subtree.position) e in
    false≢true (sym c.if-not-agrees.true ∙ c.agrees.ensures.1 (subst (λ p. IfSome (a p) (λ x. x ≡ d)) (sym same)
    (left_agrees h a es ts (drop (i + 1) ts) v.0 _ _ _ left met d digest.0 all)))

pub loop-node-preserved : goal.loop-node-preserved
loop-node-preserved g c = (
  λ h a ts w many.
      let es = c.args.located.now in
      let i = c.loop-node.node-index in
      let v = checked_item g.F.Family.rule g.F.Family.MAX_LEAVES es c.args.nodes.now ts w i c.loop-node-test.true c.node-item.result in
      let e = c.node-item.is ∙ v.1 in
      let count = parents_count es v.0 (drop i ts) (drop (i + 1) ts) v.3 h a in
      elim c.if-is_unmet.branch [
        | then-is_unmet+in_ok-push b ↦ (
            let unmet = is_unmet g.F.Family.rule g.F.Family.MAX_LEAVES es c.requires.ascend c.node-item.result v.0 e v.2 (leb-true _ _ (sym c.is_unmet.ensures ∙ b.if-is_unmet.true)) in
            omega (arith, b.next-is, c.loop-node.invariant.0 h a ts w many, count, ap length (no_parent_unmet h a es v.0 unmet))
            )
        | else-is_unmet+else-not-agrees+in_ok-push-2 b ↦
            omega (arith, b.next-is, c.loop-node.invariant.0 h a ts w many, count, b.digest_met-digest.ensures.taken h a v.0 (e, v.2))
      ],
  λ h ts empty w computed_is.
      let es = c.args.located.now in
      let i = c.loop-node.node-index in
      let a = digest_for c.args.told.now.positions.now c.args.told.now.digests.now in
      let v = checked_item g.F.Family.rule g.F.Family.MAX_LEAVES es c.args.nodes.now ts w i c.loop-node-test.true c.node-item.result in
      let e = c.node-item.is ∙ v.1 in
      let same : c.node-item.result.subtree.position ≡ position v.0 = ap (λ x. x.subtree.position) e in
      let old = c.args.digests.now.items in
      let us = drop (i + 1) ts in
      let left = subst (λ us. IsLeft h a es ts us (drop c.loop-node.next c.args.computed.now) old c.loop-node.digests.items) v.3 (c.loop-node.invariant.1 h ts empty w computed_is) in
      elim c.if-is_unmet.branch [
        | then-is_unmet+in_ok-push b ↦ (
            let unmet = is_unmet g.F.Family.rule g.F.Family.MAX_LEAVES es c.requires.ascend c.node-item.result v.0 e v.2 (leb-true _ _ (sym c.is_unmet.ensures ∙ b.if-is_unmet.true)) in
            let given = b.or_empty.ensures ∙ ap (unwrap_or (a c.node-item.result.subtree.position)) (sym empty) ∙ ap (λ (p : ℕ). unwrap_or (a p) h.empty) same in
            let pushed = ap (λ z. z.items) b.digests-is ∙ b.in_ok-push.ensures.items in
            subst (λ k. IsLeft h a es ts us (drop k c.args.computed.now) old c.if-is_unmet.digests.items) (sym b.next-is)
            (left_unmet h a es ts us v.0 _ old _ c.if-is_unmet.digests.items left unmet b.or_empty.result given pushed)
            )
        | else-is_unmet+else-not-agrees+in_ok-push-2 b ↦ (
            let met = is_met g.F.Family.rule g.F.Family.MAX_LEAVES es c.requires.ascend c.node-item.result v.0 e v.2 (leb-false _ _ (sym c.is_unmet.ensures ∙ b.if-is_unmet.false)) in
            let digest = b.digest_met-digest.ensures.digest h a v.0 _ (e, v.2) (left_parents h a es ts us v.0 _ _ _ left) in
            let d = b.digest_met-digest.result in
            let agrees = subst (λ p. IfSome (a p) (λ x. x ≡ d)) same (b.agrees.ensures.0 b.if-not-agrees.false) in
            let pushed = ap (λ z. z.items) b.digests-is ∙ b.in_ok-push-2.ensures.items in
            left_met h a es ts us v.0 _ _ old _ c.if-is_unmet.digests.items left met (ap (λ k. drop k c.args.computed.now) b.next-is ∙ digest.1) d digest.0 agrees pushed
            )
      ],
)

pub returns-clause-confirmed : goal.returns-clause-confirmed
returns-clause-confirmed g c = λ _ h ts empty w below computed_is.
    let es = c.args.located.now in
    let a = digest_for c.args.told.now.positions.now c.args.told.now.digests.now in
    let none = none_after g.F.Family.rule g.F.Family.MAX_LEAVES es c.args.nodes.now ts w c.loop-node.node-index (omega (arith, c.loop-node-test.false)) in
    let left = subst (λ us. IsLeft h a es ts us (drop c.loop-node.next c.args.computed.now) c.args.digests.now.items c.loop-node.digests.items) none
    (c.loop-node.invariant.1 h ts empty w computed_is) in
    ((left.below below).1 tt, sym (append-nil c.loop-node.digests.items) ∙ left.digests_are)
