use Rattle.std.proofs.Common.{◌≡◌, ◌+◌, ◌∷◌, ◌++◌, [], take, refl, sym, ap, inl, inr, ◌∙◌, subst}
use Rattle.std.specs.List.{Contains}
use Rattle.std.proofs.lemmas.List.{take_more}
use Rattle.std.proofs.lemmas.List.Elements.{Contains-get_or}
use Rattle.merkle_draft.specs.DraftReads.{below}
use Rattle.merkle_draft.specs.Settled.{AreParents, draft_node}
use Rattle.merkle_draft.proofs.ParentReads.{parents_more}
use Rattle.merkle_draft.proofs.SettledFacts.{ready_missing}
use Rattle.merkle_draft.proofs.draft.Draft.read_children.Goals as goal

pub returns-in_default-clause-missing : goal.returns-in_default-clause-missing
returns-in_default-clause-missing g c = λ _ h m n ds later stage.
    let base = g.B.Base.contents c.args.base.now in
    let listed = subst (Contains c.args.positions.now) (sym c.position-item.is)
    (Contains-get_or c.args.positions.now c.loop-position.position-index c.position-item.result c.loop-position-test.true) in
    ready_missing h g.F.Family.rule m (below c.args.self.now base) n ds c.args.self.now base c.args.height (c.args.positions.now ++ later) refl
    stage.sized stage.settled c.position-item.result c.children-left.result.0 c.children-left.result.0 c.children-left.result.1
    (stage.ready c.position-item.result listed) c.children-left.ensures (inl refl) (sym c.in_default.ensures.value) _ refl

pub returns-in_default-read_node-clause-missing : goal.returns-in_default-read_node-clause-missing
returns-in_default-read_node-clause-missing g c = λ _ h m n ds later stage.
    let base = g.B.Base.contents c.args.base.now in
    let listed = subst (Contains c.args.positions.now) (sym c.position-item.is)
    (Contains-get_or c.args.positions.now c.loop-position.position-index c.position-item.result c.loop-position-test.true) in
    ready_missing h g.F.Family.rule m (below c.args.self.now base) n ds c.args.self.now base c.args.height (c.args.positions.now ++ later) refl
    stage.sized stage.settled c.position-item.result c.children-left.result.1 c.children-left.result.0 c.children-left.result.1
    (stage.ready c.position-item.result listed) c.children-left.ensures (inr refl) (sym c.in_default-read_node.ensures.value) _ refl

pub loop-position-preserved : goal.loop-position-preserved
loop-position-preserved g c =
    let read = draft_node c.args.self.now (g.B.Base.contents c.args.base.now) in
    let i = c.loop-position.position-index in
    let ps = c.args.positions.now in
    let p = c.position-item.result in
    let more : take (i + 1) ps ≡ take i ps ++ p ∷ [] = take_more ps i p c.loop-position-test.true ∙ ap (λ x. take i ps ++ x ∷ []) (sym c.position-item.is) in
    let all = parents_more g.F.Family.rule read (take i ps) c.loop-position.parents.items p c.children-left.result.0 c.children-left.result.1 c.in-Some.left_digest c.in-Some-read_node.right_digest
    c.loop-position.invariant c.children-left.ensures (sym c.in-Some.ensures.value) (sym c.in-Some-read_node.ensures.value) in
    subst (λ xs. AreParents g.F.Family.rule read xs c.push.new.self.items) (sym more)
    (subst (AreParents g.F.Family.rule read (take i ps ++ p ∷ [])) (sym c.in_ok-push.ensures.items) all)
