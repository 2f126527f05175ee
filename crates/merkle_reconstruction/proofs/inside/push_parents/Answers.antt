use Rattle.std.proofs.Common.{◌≡◌, ◌∷◌, rules}
use Rattle.merkle_reconstruction.proofs.InsideLists.{all_pushed, first_two}
use Rattle.merkle_reconstruction.proofs.inside.push_parents.Goals as goal

pub returns-in_default : goal.returns-in_default
returns-in_default g c = λ h leaf w all. (c.loop-node.invariant h leaf w all).1

pub returns-in_default-split_first : goal.returns-in_default-split_first
returns-in_default-split_first g c = λ h leaf w all. (c.loop-node.invariant h leaf w all).1

pub loop-node-preserved : goal.loop-node-preserved
loop-node-preserved g c = λ h leaf w all.
    let v = c.loop-node.invariant h leaf w all in
    let e : c.loop-node.rest.now ≡ c.in-Some.left.now ∷ c.in-Some-split_first.right.now ∷ c.in-Some-split_first.others.now = search rules in
    let two = first_two h _ _ leaf c.args.nodes.now c.loop-node.node-index c.node-item.result c.loop-node-test.true c.node-item.is c.in-Some.left.now
    c.in-Some-split_first.right.now c.in-Some-split_first.others.now c.loop-node.rest.now e v.0 in
    (two.1, all_pushed _ _ _ _ c.in_ok-push.ensures.items v.1 two.0)
