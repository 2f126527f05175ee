use Rattle.std.proofs.Common.{rules, ◌≡◌, ◌≢◌, ◌≤◌, ℕ, arith, ap₂, ◌∙◌, subst}
use Rattle.merkle_root_theory.specs.Walk.{leaf_from}
use Rattle.merkle_reconstruction.specs.Inside.{IsDigestAt}
use Rattle.merkle_reconstruction.proofs.InsideNodes.{inside_join, inside_children, digest_over}
use Rattle.merkle_reconstruction.proofs.inside.+children_inside.Goals as goal

pub children-left-requires : goal.children-left-requires
children-left-requires g t c = inside_join _ _ _ _ c.args.subtree.now c.requires.node (omega (arith, c.requires.tall))

pub leaf_parent-first-requires-clause-node : goal.leaf_parent-first-requires-clause-node
leaf_parent-first-requires-clause-node g t c =
    (inside_children _ _ _ _ _ g.met.F.Family.lawful c.args.subtree.now c.children-left.result.0 c.children-left.result.1 c.children-left.ensures c.requires.node (omega (arith, c.requires.tall))).0

pub leaf_parent-first-requires-clause-parent : goal.leaf_parent-first-requires-clause-parent
leaf_parent-first-requires-clause-parent g t c =
    let both = inside_children _ _ _ _ _ g.met.F.Family.lawful c.args.subtree.now c.children-left.result.0 c.children-left.result.1
    c.children-left.ensures c.requires.node (omega (arith, c.requires.tall)) in
    omega (arith, both.2, c.if-subtree-eq2.true)

pub leaf_parent-second-requires-clause-node : goal.leaf_parent-second-requires-clause-node
leaf_parent-second-requires-clause-node g t c =
    (inside_children _ _ _ _ _ g.met.F.Family.lawful c.args.subtree.now c.children-left.result.0 c.children-left.result.1 c.children-left.ensures c.requires.node (omega (arith, c.requires.tall))).1

pub leaf_parent-second-requires-clause-parent : goal.leaf_parent-second-requires-clause-parent
leaf_parent-second-requires-clause-parent g t c =
    let both = inside_children _ _ _ _ _ g.met.F.Family.lawful c.args.subtree.now c.children-left.result.0 c.children-left.result.1
    c.children-left.ensures c.requires.node (omega (arith, c.requires.tall)) in
    omega (arith, both.3, c.if-subtree-eq2.true)

pub returns-then-subtree-eq2 : goal.returns-then-subtree-eq2
returns-then-subtree-eq2 g t c =
    let h = g.H.Hasher.hashing c.args.hasher.now in
    let leaf = leaf_from h c.args.start c.args.leaves.now in
    let rule = g.F.Family.rule in
    let max = g.F.Family.MAX_LEAVES in
    let first = c.leaf_parent-first.result in
    let second = c.leaf_parent-second.result in
    let left = subst (λ (p : ℕ). IsDigestAt h rule max leaf p (h.node first.0 first.1 first.2)) c.leaf_parent-first.ensures.position (c.leaf_parent-first.ensures.digest h) in
    let right = subst (λ (p : ℕ). IsDigestAt h rule max leaf p (h.node second.0 second.1 second.2)) c.leaf_parent-second.ensures.position (c.leaf_parent-second.ensures.digest h) in
    digest_over rule max h leaf c.args.subtree.now c.children-left.result.0 c.children-left.result.1 c.children-left.ensures c.requires.node.0
    c.requires.node.1.0 (omega (arith, c.requires.tall)) _ _ left right

pub children_inside-requires : goal.children_inside-requires
children_inside-requires g t c κs within =
    let both = inside_children _ _ _ _ _ g.met.F.Family.lawful c.args.subtree.now c.children-left.result.0 c.children-left.result.1
    c.children-left.ensures c.requires.node (omega (arith, c.requires.tall)) in
    let tall : 2 ≤ c.children-left.result.0.height = omega (arith, both.2, c.requires.tall, c.if-subtree-eq2.false) in
    (omega (arith, both.2, c.decreases), (within.0, (within.1.0, (within.1.1.0, (within.1.1.1.0, (within.1.1.1.1, (both.0, tall)))))))

pub children_inside-requires-2 : goal.children_inside-requires-2
children_inside-requires-2 g t c κs within =
    let both = inside_children _ _ _ _ _ g.met.F.Family.lawful c.args.subtree.now c.children-left.result.0 c.children-left.result.1
    c.children-left.ensures c.requires.node (omega (arith, c.requires.tall)) in
    let tall : 2 ≤ c.children-left.result.1.height = omega (arith, both.3, c.requires.tall, c.if-subtree-eq2.false) in
    (omega (arith, both.3, c.decreases), (within.0, (within.1.0, (within.1.1.0, (within.1.1.1.0, (within.1.1.1.1, (both.1, tall)))))))

pub returns : goal.returns
returns g t c =
    let h = g.H.Hasher.hashing c.args.hasher.now in
    let four = c.node_digests_four-four.result in
    let first : four.0 ≡ h.node c.in_ok-a.a.0 c.in_ok-a.a.1 c.in_ok-a.a.2 = search rules in
    let second : four.1 ≡ h.node c.in_ok-a.b.0 c.in_ok-a.b.1 c.in_ok-a.b.2 = search rules in
    let third : four.2 ≡ h.node c.in_ok-c.c.0 c.in_ok-c.c.1 c.in_ok-c.c.2 = search rules in
    let fourth : four.3 ≡ h.node c.in_ok-c.d.0 c.in_ok-c.d.1 c.in_ok-c.d.2 = search rules in
    digest_over g.F.Family.rule g.F.Family.MAX_LEAVES h (leaf_from h c.args.start c.args.leaves.now) c.args.subtree.now c.children-left.result.0 c.children-left.result.1 c.children-left.ensures
    c.requires.node.0 c.requires.node.1.0 (omega (arith, c.requires.tall)) _ _
    (λ p at. ap₂ (h.node c.children-left.result.0.position) first second ∙ c.in_ok-a.ensures p at)
    (λ p at. ap₂ (h.node c.children-left.result.1.position) third fourth ∙ c.in_ok-c.ensures p at)
