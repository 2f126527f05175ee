use Rattle.std.proofs.Common.{not, inl, inr, sym, ap, ◌∙◌, arith, ⊎_elim}
use Rattle.std.proofs.lemmas.Bool.{cases_lt}
use Rattle.merkle_base.proofs.Nodes.{node_built}
use Rattle.merkle_root_theory.proofs.PeakGroups.{meets_not, meets_yes}
use Rattle.merkle_hasher.proofs.Comparisons.{le_yes, le_no, ge_if, ge_if_not}
use Rattle.merkle_walks.proofs.range.GivenRange.is_outside.Goals as goal

pub returns-then-le : goal.returns-then-le
returns-then-le g c = λ t w.
    let l = c.leaf_end.ensures t w in
    let h = node_built g.F.Family.rule g.F.Family.MAX_LEAVES c.args.node.now.position t w.at in
    let x = le_yes c.leaf_end.result c.args.self.now.start (sym c.le.ensures ∙ c.if-le.true) in
    c.if-le.true ∙ ap not (sym (meets_not c.args.self.now.start c.args.self.now.end _ t h (inl (omega (arith, l, x)))))

pub returns-else-le : goal.returns-else-le
returns-else-le g c = λ t w.
    let l = c.leaf_end.ensures t w in
    let h = node_built g.F.Family.rule g.F.Family.MAX_LEAVES c.args.node.now.position t w.at in
    let a = c.args.self.now.start in
    let b = c.args.self.now.end in
    let s = c.args.node.now.first_leaf in
    let x = le_no c.leaf_end.result a (sym c.le.ensures ∙ c.if-le.false) in
    ⊎_elim
    (λ y. c.ge.ensures ∙ ge_if_not s b y ∙ ap not (sym (meets_yes a b _ t h (omega (arith, w.first_is, y)) (omega (arith, l, x)) c.requires.nonempty)))
    (λ y. c.ge.ensures ∙ ge_if s b y ∙ ap not (sym (meets_not a b _ t h (inr (omega (arith, w.first_is, y))))))
    (cases_lt s b)
