use Rattle.std.proofs.Common.{◌≡◌, ◌++◌, map, arith, rules, subst, sym, ap, ◌∙◌, [], ◌∷◌}
use Rattle.merkle_root_theory.specs.Walk.{leaf_from}
use Rattle.merkle_reconstruction.specs.Inside.{AreChildDigests}
use Rattle.merkle_reconstruction.proofs.InsideLists.{all_item, children_more, children_end}
use Rattle.merkle_reconstruction.proofs.inside.child_digests.Goals as goal

pub children_inside-requires-clause-node : goal.children_inside-requires-clause-node
children_inside-requires-clause-node g c = (all_item _ c.args.nodes.now c.requires.nodes c.loop-node.node-index c.loop-node-test.true c.node-item.result c.node-item.is).0

pub children_inside-requires-clause-tall : goal.children_inside-requires-clause-tall
children_inside-requires-clause-tall g c = (all_item _ c.args.nodes.now c.requires.nodes c.loop-node.node-index c.loop-node-test.true c.node-item.result c.node-item.is).1

pub loop-node-preserved : goal.loop-node-preserved
loop-node-preserved g c =
    let h = g.H.Hasher.hashing c.args.hasher.now in
    let more : c.push-in-loop-node.new.self.items ≡ (c.loop-node.children.items ++ c.in_ok-left.left ∷ []) ++ c.in_ok-left.right ∷ [] =
    c.in_ok-push-2.ensures.items ∙ ap (λ z. z ++ c.in_ok-left.right ∷ []) c.in_ok-push.ensures.items in
    children_more h g.F.Family.rule g.F.Family.MAX_LEAVES (leaf_from h c.args.start c.args.leaves.now) c.args.nodes.now c.loop-node.node-index c.node-item.result c.loop-node-test.true c.node-item.is
    c.loop-node.children.items c.push-in-loop-node.new.self.items c.in_ok-left.left c.in_ok-left.right more c.in_ok-left.ensures c.loop-node.invariant

pub returns : goal.returns
returns g c =
    let h = g.H.Hasher.hashing c.args.hasher.now in
    let leaf = leaf_from h c.args.start c.args.leaves.now in
    let given = c.loop-node.invariant [] (children_end h _ _ leaf c.args.nodes.now c.loop-node.node-index (omega (arith, c.loop-node-test.false))) in
    let is : c.node_digests.new.digests.items ≡ map (λ n. h.node n.0 n.1 n.2) c.loop-node.children.items ++ [] = search rules in
    subst (AreChildDigests h g.F.Family.rule g.F.Family.MAX_LEAVES leaf c.args.nodes.now) (sym is) given
