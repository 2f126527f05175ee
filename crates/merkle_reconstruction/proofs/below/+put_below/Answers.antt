use Rattle.std.proofs.Common.{sym, subst, arith, ◌∙◌}
use Rattle.merkle_root_theory.specs.Walk.{leaf_from}
use Rattle.merkle_reconstruction.proofs.InsideNodes.{inside_join, inside_children, inside_leaf, digest_leaf, digest_at_node, digest_over}
use Rattle.merkle_reconstruction.proofs.ExtractionWalks.{stands_at, put_over, pairs_leaf}
use Rattle.merkle_reconstruction.proofs.below.+put_below.Goals as goal

pub leaf_inside-requires : goal.leaf_inside-requires
leaf_inside-requires g t c = inside_leaf _ _ _ _ c.args.subtree.now c.requires.node c.if-subtree-eq0.true

pub returns-then-subtree-eq0-clause-digest : goal.returns-then-subtree-eq0-clause-digest
returns-then-subtree-eq0-clause-digest g t c =
    let h = g.H.Hasher.hashing c.args.hasher.now in
    digest_at_node _ _ h c.args.start c.args.leaves.now c.args.subtree.now c.requires.node _
    (digest_leaf _ _ h c.args.start c.args.leaves.now c.args.subtree.now c.if-subtree-eq0.true _ c.leaf_inside.ensures)

pub returns-then-subtree-eq0-clause-taken : goal.returns-then-subtree-eq0-clause-taken
returns-then-subtree-eq0-clause-taken g t c = λ u w.
    let h = g.H.Hasher.hashing c.args.hasher.now in
    let none = pairs_leaf h (leaf_from h c.args.start c.args.leaves.now) _ _ _ _ _ u w c.if-subtree-eq0.true in
    subst (λ z. g.C.Collector.Took c.args.out.now z c.args.out.now) (sym none) (g.met.C.Collector.took_none c.args.out.now)

pub children-left-requires : goal.children-left-requires
children-left-requires g t c = inside_join _ _ _ _ c.args.subtree.now c.requires.node c.if-subtree-eq0.false

pub put_below-requires : goal.put_below-requires
put_below-requires g t c κs within =
    let both = inside_children _ _ _ _ _ g.met.F.Family.lawful c.args.subtree.now c.children-left.result.0 c.children-left.result.1 c.children-left.ensures c.requires.node c.if-subtree-eq0.false in
    (omega (arith, both.2, c.decreases), (within.0, (within.1.0, (within.1.1.0, (within.1.1.1.0, (within.1.1.1.1.0, (within.1.1.1.1.1, (both.0, c.requires.known))))))))

pub put_below-requires-2 : goal.put_below-requires-2
put_below-requires-2 g t c κs within =
    let both = inside_children _ _ _ _ _ g.met.F.Family.lawful c.args.subtree.now c.children-left.result.0 c.children-left.result.1 c.children-left.ensures c.requires.node c.if-subtree-eq0.false in
    (omega (arith, both.3, c.decreases), (within.0, (within.1.0, (within.1.1.0, (within.1.1.1.0, (within.1.1.1.1.0, (within.1.1.1.1.1, (both.1, c.requires.known))))))))

pub returns-in-Some-clause-digest : goal.returns-in-Some-clause-digest
returns-in-Some-clause-digest g t c = let h = g.H.Hasher.hashing c.args.hasher.now in
    c.in-Some.ensures h (leaf_from h c.args.start c.args.leaves.now) c.requires.known

pub returns-in-Some-clause-taken : goal.returns-in-Some-clause-taken
returns-in-Some-clause-taken g t c = λ u w.
    let h = g.H.Hasher.hashing c.args.hasher.now in
    put_over h (leaf_from h c.args.start c.args.leaves.now) g.C.Collector.Took g.met.C.Collector.took_both _ _ _ _ _ u w c.if-subtree-eq0.false _ _ _ _ _ _ _ _
    (λ q l r v. let k = c.children-left.ensures q l r v in (
      stands_at _ _ _ _ _ l k.0,
      stands_at _ _ _ _ _ r k.1,
      c.in_ok-first.ensures.digest l k.0.at,
      c.in_ok-second.ensures.digest r k.1.at,
      c.in_ok-first.ensures.taken l k.0,
      c.in_ok-second.ensures.taken r k.1,
    ))
    c.in_ok-put_both.ensures

pub returns-clause-digest : goal.returns-clause-digest
returns-clause-digest g t c =
    let h = g.H.Hasher.hashing c.args.hasher.now in
    let n = c.requires.node in
    let over = digest_over _ _ h (leaf_from h c.args.start c.args.leaves.now) c.args.subtree.now c.children-left.result.0 c.children-left.result.1
    c.children-left.ensures n.0 n.1.0 c.if-subtree-eq0.false _ _ c.in_ok-first.ensures.digest c.in_ok-second.ensures.digest in
    λ u at. c.node_digest.ensures ∙ over u at

pub returns-clause-taken : goal.returns-clause-taken
returns-clause-taken g t c = λ u w.
    let h = g.H.Hasher.hashing c.args.hasher.now in
    put_over h (leaf_from h c.args.start c.args.leaves.now) g.C.Collector.Took g.met.C.Collector.took_both _ _ _ _ _ u w c.if-subtree-eq0.false _ _ _ _ _ _ _ _
    (λ q l r v. let k = c.children-left.ensures q l r v in (
      stands_at _ _ _ _ _ l k.0,
      stands_at _ _ _ _ _ r k.1,
      c.in_ok-first.ensures.digest l k.0.at,
      c.in_ok-second.ensures.digest r k.1.at,
      c.in_ok-first.ensures.taken l k.0,
      c.in_ok-second.ensures.taken r k.1,
    ))
    c.in_ok-put_both.ensures
