use Rattle.std.proofs.Common.{◌≢◌, arith}
use Rattle.merkle_reconstruction.proofs.InsideNodes.{inside_join, inside_children, inside_leaf, digest_parent}
use Rattle.merkle_reconstruction.proofs.inside.leaf_parent.Goals as goal

pub children-left-requires : goal.children-left-requires
children-left-requires g c = inside_join _ _ _ _ c.args.subtree.now c.requires.node (omega (arith, c.requires.parent))

pub leaf_inside-first-requires : goal.leaf_inside-first-requires
leaf_inside-first-requires g c =
    let tall : c.args.subtree.now.height ≢ 0 = omega (arith, c.requires.parent) in
    let both = inside_children _ _ _ _ _ g.met.F.Family.lawful c.args.subtree.now c.children-left.result.0 c.children-left.result.1 c.children-left.ensures c.requires.node tall in
    inside_leaf _ _ _ _ c.children-left.result.0 both.0 (omega (arith, both.2, c.requires.parent))

pub leaf_inside-second-requires : goal.leaf_inside-second-requires
leaf_inside-second-requires g c =
    let tall : c.args.subtree.now.height ≢ 0 = omega (arith, c.requires.parent) in
    let both = inside_children _ _ _ _ _ g.met.F.Family.lawful c.args.subtree.now c.children-left.result.0 c.children-left.result.1 c.children-left.ensures c.requires.node tall in
    inside_leaf _ _ _ _ c.children-left.result.1 both.1 (omega (arith, both.3, c.requires.parent))

pub returns-clause-digest : goal.returns-clause-digest
returns-clause-digest g c = λ h.
    digest_parent _ _ h c.args.start c.args.leaves.now _ g.met.F.Family.lawful c.args.subtree.now c.children-left.result.0 c.children-left.result.1
    c.children-left.ensures c.requires.node c.requires.parent _ _
    c.leaf_inside-first.ensures c.leaf_inside-second.ensures
