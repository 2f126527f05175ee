use Rattle.std.proofs.Common.{◌≡◌, ◌++◌, length, map, ap, rules, ◌∙◌}
use Rattle.std.proofs.lemmas.List.{length-map}
use Rattle.merkle_base.specs.Table.{digest_for}
use Rattle.merkle_scattered.specs.Confirmed.{nodes_checked}
use Rattle.merkle_scattered.proofs.confirm.confirm_over.Goals as goal

pub push_digests-requires-clause-nodes : goal.push_digests-requires-clause-nodes
push_digests-requires-clause-nodes g c =
    let h = g.H.Hasher.hashing c.args.hasher.now in
    let n = c.requires.nodes in
    let computed : c.deref.result.now ≡ map (λ n. h.node n.0 n.1 n.2) c.args.parents.now = search rules in
    (h, digest_for c.args.told.now.positions.now c.args.told.now.digests.now, n.0, n.1, ap length computed ∙ length-map c.args.parents.now (λ n. h.node n.0 n.1 n.2) ∙ ap length n.2)

pub returns-then-not-branch-clause-none : goal.returns-then-not-branch-clause-none
returns-then-not-branch-clause-none g c = λ _ ts w parents_are all.
    let h = g.H.Hasher.hashing c.args.hasher.now in
    let computed : c.deref.result.now ≡ map (λ n. h.node n.0 n.1 n.2) c.args.parents.now = search rules in
    c.in_ok-push_digests.ensures.refuted c.if-not-branch.true h ts (g.met.H.Hasher.over_digest c.args.hasher.now).empty w (computed ∙ ap (map (λ n. h.node n.0 n.1 n.2)) parents_are) all

pub returns-clause-some : goal.returns-clause-some
returns-clause-some g c = λ ts w parents_are below.
    let h = g.H.Hasher.hashing c.args.hasher.now in
    let computed : c.deref.result.now ≡ map (λ n. h.node n.0 n.1 n.2) c.args.parents.now = search rules in
    let z = c.in_ok-push_digests.ensures.confirmed c.if-not-branch.false h ts (g.met.H.Hasher.over_digest c.args.hasher.now).empty w below
    (computed ∙ ap (map (λ n. h.node n.0 n.1 n.2)) parents_are) in
    (z.0, z.1 ∙ ap (λ xs. xs ++ nodes_checked h (digest_for c.args.told.now.positions.now c.args.told.now.digests.now) c.args.located.now ts) c.in_ok-digests.ensures.items)
