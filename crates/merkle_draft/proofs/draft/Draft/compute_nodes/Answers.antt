use Rattle.std.proofs.Common.{◌≡◌, ◌+◌, ◌++◌, length, map, refl, sym, ap, ◌∙◌, subst}
use Rattle.std.proofs.lemmas.List.{length-map}
use Rattle.std.proofs.lemmas.Result.{err_from_is_err_and}
use Rattle.merkle_draft.specs.DraftReads.{below}
use Rattle.merkle_draft.specs.NewDigests.{LacksChild}
use Rattle.merkle_draft.specs.Settled.{draft_node}
use Rattle.merkle_draft.proofs.ParentReads.{made_right, parents_length}
use Rattle.merkle_draft.proofs.draft.Draft.compute_nodes.Goals as goal

pub returns-in_err-read_children-clause-missing : goal.returns-in_err-read_children-clause-missing
returns-in_err-read_children-clause-missing g c =
    let h = g.H.Hasher.hashing c.args.hasher.now in
    let under = below c.args.self.now (g.B.Base.contents c.args.base.now) in
    let p = err_from_is_err_and c.from_residual.result c.from_residual.ensures.1 in
    rw p.1 (λ other m n ds later stage. subst (λ e. LacksChild g.F.Family.rule m under n (n + length ds) e) (sym p.2)
    (c.in_err-read_children.ensures.missing (λ z. other (p.2 ∙ z)) h m n ds later stage))

pub set_nodes-requires-clause-many : goal.set_nodes-requires-clause-many
set_nodes-requires-clause-many g c =
    let node = (g.H.Hasher.hashing c.args.hasher.now).node in
    let made : c.deref-2.result.now ≡ map (λ n. node n.0 n.1 n.2) c.read_children.new.parents.items =
    c.deref-2.ensures.value ∙ c.in_ok-node_digests.ensures ∙ ap (λ xs. xs ++ map (λ n. node n.0 n.1 n.2) c.deref.result.now) c.clear-2.ensures.items
    ∙ ap (map (λ n. node n.0 n.1 n.2)) c.deref.ensures.value in
    ap length made ∙ length-map c.read_children.new.parents.items _
    ∙ parents_length g.F.Family.rule (draft_node c.args.self.now (g.B.Base.contents c.args.base.now)) c.args.positions.now
    c.read_children.new.parents.items c.in_ok-read_children.ensures.read

pub returns-clause-settled : goal.returns-clause-settled
returns-clause-settled g c = λ m n ds later stage.
    let h = g.H.Hasher.hashing c.args.hasher.now in
    let base = g.B.Base.contents c.args.base.now in
    let under = below c.args.self.now base in
    let made : c.deref-2.result.now ≡ map (λ n. h.node n.0 n.1 n.2) c.read_children.new.parents.items =
    c.deref-2.ensures.value ∙ c.in_ok-node_digests.ensures ∙ ap (λ xs. xs ++ map (λ n. h.node n.0 n.1 n.2) c.deref.result.now) c.clear-2.ensures.items
    ∙ ap (map (λ n. h.node n.0 n.1 n.2)) c.deref.ensures.value in
    c.in_ok-set_nodes.ensures.settled h m under n ds later
    (made_right h g.F.Family.rule m under n ds c.args.self.now base c.args.height c.args.positions.now (c.args.positions.now ++ later)
    c.read_children.new.parents.items c.deref-2.result.now refl stage.sized stage.settled stage.ready c.in_ok-read_children.ensures.read made)
    stage.settled
