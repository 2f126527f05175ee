use Rattle.std.proofs.Common.{arith, sym, ◌∙◌}
use Rattle.merkle_base.proofs.Nodes.{node_built}
use Rattle.merkle_hasher.proofs.Comparisons.{le_yes, ge_yes}
use Rattle.merkle_root_theory.proofs.Walks.{siblings_inside}
use Rattle.merkle_reconstruction.proofs.walk.is_inside.Goals as goal

pub returns-then-ge-clause-inside : goal.returns-then-ge-clause-inside
returns-then-ge-clause-inside g c = λ t w e.
    let l = ge_yes c.args.subtree.now.first_leaf c.args.range.now.start (sym c.ge.ensures ∙ c.if-ge.true) in
    let u = le_yes c.leaf_end.result c.args.range.now.end (sym c.le.ensures ∙ e) in
    (omega (arith, w.first_is, l), omega (arith, c.leaf_end.ensures t w, u))

pub returns-then-ge-clause-none : goal.returns-then-ge-clause-none
returns-then-ge-clause-none g c = λ t w e.
    let h = node_built g.F.Family.rule g.F.Family.MAX_LEAVES c.args.subtree.now.position t w.at in
    let l = ge_yes c.args.subtree.now.first_leaf c.args.range.now.start (sym c.ge.ensures ∙ c.if-ge.true) in
    let u = le_yes c.leaf_end.result c.args.range.now.end (sym c.le.ensures ∙ e) in
    siblings_inside c.args.range.now.start c.args.range.now.end _ t h (omega (arith, w.first_is, l)) (omega (arith, c.leaf_end.ensures t w, u))
