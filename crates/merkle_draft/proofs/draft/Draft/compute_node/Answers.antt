use Rattle.std.proofs.Common.{◌∷◌, [], refl, sym, ap, inl, inr}
use Rattle.merkle_draft.specs.DraftReads.{below, stored_node}
use Rattle.merkle_draft.specs.Settled.{draft_node}
use Rattle.merkle_draft.proofs.Adding.{contains_one}
use Rattle.merkle_draft.proofs.ParentReads.{made_right, parents_more}
use Rattle.merkle_draft.proofs.SettledFacts.{ready_missing}
use Rattle.merkle_draft.proofs.SettledWrites.{settle_one}
use Rattle.merkle_draft.proofs.draft.Draft.compute_node.Goals as goal

pub returns-in_default-clause-missing : goal.returns-in_default-clause-missing
returns-in_default-clause-missing g c = λ _ m n ds later stage.
    let h = g.H.Hasher.hashing c.args.hasher.now in
    let base = g.B.Base.contents c.args.base.now in
    let p = c.args.position in
    ready_missing h g.F.Family.rule m (below c.args.self.now base) n ds c.args.self.now base c.args.height (p ∷ later) refl stage.sized stage.settled
    p c.children-left.result.0 c.children-left.result.0 c.children-left.result.1
    (stage.ready p (contains_one p)) c.children-left.ensures (inl refl) (sym c.in_default.ensures.value) _ refl

pub returns-in_default-read_node-clause-missing : goal.returns-in_default-read_node-clause-missing
returns-in_default-read_node-clause-missing g c = λ _ m n ds later stage.
    let h = g.H.Hasher.hashing c.args.hasher.now in
    let base = g.B.Base.contents c.args.base.now in
    let p = c.args.position in
    ready_missing h g.F.Family.rule m (below c.args.self.now base) n ds c.args.self.now base c.args.height (p ∷ later) refl stage.sized stage.settled
    p c.children-left.result.1 c.children-left.result.0 c.children-left.result.1
    (stage.ready p (contains_one p)) c.children-left.ensures (inr refl) (sym c.in_default-read_node.ensures.value) _ refl

pub returns-clause-settled : goal.returns-clause-settled
returns-clause-settled g c = λ m n ds later stage.
    let h = g.H.Hasher.hashing c.args.hasher.now in
    let rule = g.F.Family.rule in
    let base = g.B.Base.contents c.args.base.now in
    let under = below c.args.self.now base in
    let p = c.args.position in
    let a = c.in-Some.left_digest in
    let b = c.in-Some-read_node.right_digest in
    let parents = parents_more rule (draft_node c.args.self.now base) [] [] p c.children-left.result.0 c.children-left.result.1 a b tt
    c.children-left.ensures (sym c.in-Some.ensures.value) (sym c.in-Some-read_node.ensures.value) in
    settle_one h rule m under n ds later (stored_node c.args.self.now) (stored_node c.set_node.new.self) p c.node_digest-digest.result stage.settled
    (λ t at. made_right h rule m under n ds c.args.self.now base c.args.height (p ∷ []) (p ∷ later) ((p, a, b) ∷ [])
    (c.node_digest-digest.result ∷ []) refl stage.sized stage.settled stage.ready parents
    (ap (λ z. z ∷ []) c.node_digest-digest.ensures) 0 p c.node_digest-digest.result t refl refl at) c.in_ok-set_node.ensures.set
