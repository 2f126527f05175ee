use Rattle.std.proofs.Common.{rules, ◌≡◌, ◌+◌, ◌∷◌, ◌++◌, ◌≤◌, Some, length, drop, slice_get, arith, refl, sym, ap, ◌∙◌, subst}
use Rattle.std.specs.List.{Contains}
use Rattle.std.proofs.lemmas.List.{drop_all, drop_more}
use Rattle.std.proofs.lemmas.List.Elements.{Contains-get_or}
use Rattle.std.proofs.lemmas.Option.{slice_get_read}
use Rattle.merkle_draft.specs.DraftReads.{stored_node}
use Rattle.merkle_draft.specs.Settled.{AreSettled}
use Rattle.merkle_draft.proofs.SettledWrites.{settle_one}
use Rattle.merkle_draft.proofs.draft.Draft.set_nodes.Goals as goal

pub set_node-requires : goal.set_node-requires
set_node-requires g c =
    let listed = subst (Contains c.args.positions.now) (sym c.index-positions-i.is) (Contains-get_or c.args.positions.now c.loop-i.i c.index-positions-i.result c.loop-i-test.true) in
    let shape = c.loop-i.invariant.0 in
    omega (arith, c.requires.stored c.index-positions-i.result listed, shape.0, shape.2)

pub loop-i-preserved : goal.loop-i-preserved
loop-i-preserved g c =
    let ps = c.args.positions.now in
    let i = c.loop-i.i in
    let p = c.index-positions-i.result in
    let d = c.index-digests-i.result in
    let shape = c.loop-i.invariant.0 in
    let more = c.set_node.ensures.shape in (
      (more.0 ∙ shape.0, more.1 ∙ shape.1, more.2 ∙ shape.2),
      λ q past. c.set_node.ensures.old q (omega (arith, past, shape.0)) ∙ c.loop-i.invariant.1 q past,
      λ h m under n ds later answers start.
          (let here : drop i ps ≡ p ∷ drop (i + 1) ps = drop_more ps i p c.loop-i-test.true ∙ ap (λ x. x ∷ drop (i + 1) ps) (sym c.index-positions-i.is) in
          let before = subst (λ xs. AreSettled h g.F.Family.rule m under n ds (xs ++ later) (stored_node c.loop-i.self)) here (c.loop-i.invariant.2 h m under n ds later answers start) in
          let at : slice_get ps i ≡ Some p = slice_get_read ps (length ps) i p refl c.loop-i-test.true c.index-positions-i.is in
          let digest : slice_get c.args.digests.now i ≡ Some d =
          slice_get_read c.args.digests.now (length c.args.digests.now) i d refl (omega (arith, c.loop-i-test.true, c.requires.many)) c.index-digests-i.is in
          settle_one h g.F.Family.rule m under n ds (drop (i + 1) ps ++ later) (stored_node c.loop-i.self) (stored_node c.set_node.new.self) p d
          before (λ t node. answers i p d t at digest node) c.in_ok-set_node.ensures.set),
    )

pub returns-clause-settled : goal.returns-clause-settled
returns-clause-settled g c = λ h m under n ds later answers start.
    let past : length c.args.positions.now ≤ c.loop-i.i = search rules in
    subst (λ xs. AreSettled h g.F.Family.rule m under n ds (xs ++ later) (stored_node c.loop-i.self)) (drop_all c.loop-i.i c.args.positions.now past)
    (c.loop-i.invariant.2 h m under n ds later answers start)
