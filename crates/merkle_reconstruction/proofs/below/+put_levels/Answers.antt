use Rattle.std.proofs.Common.{◌-◌, ◌<◌, ◌++◌, length, map, arith, sym, ap, subst, ◌∙◌}
use Rattle.merkle_root_theory.specs.Walk.{leaf_from}
use Rattle.merkle_reconstruction.specs.Inside.{AreLevel}
use Rattle.merkle_reconstruction.proofs.InsideLists.{are_listed, on_ok_both}
use Rattle.merkle_reconstruction.proofs.below.+put_levels.Goals as goal

pub leaf_parents-requires : goal.leaf_parents-requires
leaf_parents-requires g t c = subst (λ z. AreLevel g.F.Family.rule g.F.Family.MAX_LEAVES c.args.start (length c.args.leaves.now) z c.args.nodes.now) c.if-height-eq1.true c.requires.nodes

pub returns-then-height-eq1 : goal.returns-then-height-eq1
returns-then-height-eq1 g t c =
    let h = g.H.Hasher.hashing c.args.hasher.now in
    let leaf = leaf_from h c.args.start c.args.leaves.now in
    let same = c.deref.ensures.value in
    on_ok_both c.put_parents.result
    (λ x y. are_listed h g.F.Family.rule g.F.Family.MAX_LEAVES leaf _ _ _ _ c.in_ok-parents.parents.items
    (x ∙ ap (λ z. c.args.known.now.positions.items ++ map (λ n. n.0) z) same)
    (y ∙ ap (λ z. c.args.known.now.digests.items ++ map (λ n. h.node n.0 n.1 n.2) z) same) c.requires.known (c.in_ok-parents.ensures h))
    c.put_parents.ensures.positions c.put_parents.ensures.digests

pub children_of-requires : goal.children_of-requires
children_of-requires g t c = (c.args.start, length c.args.leaves.now, c.args.height, c.requires.parents, c.requires.nodes)

pub put_levels-requires : goal.put_levels-requires
put_levels-requires g t c κs within =
    let level = c.in_ok-children.ensures c.args.start (length c.args.leaves.now) c.args.height c.requires.parents c.requires.nodes in
    let below = subst (AreLevel g.F.Family.rule g.F.Family.MAX_LEAVES c.args.start (length c.args.leaves.now) (c.args.height - 1)) (sym c.deref-2.ensures.value) level in
    let tall : 0 < c.args.height - 1 = omega (arith, c.requires.parents, c.if-height-eq1.false) in
    (omega (arith, c.requires.parents, c.decreases), (within.0, (within.1.0, (within.1.1.0, (within.1.1.1.0, (within.1.1.1.1, (below, (tall, c.requires.known))))))))

pub known_parents-requires : goal.known_parents-requires
known_parents-requires g t c = (c.args.start, length c.args.leaves.now, c.args.height, c.requires.parents, c.requires.nodes)

pub returns : goal.returns
returns g t c =
    let h = g.H.Hasher.hashing c.args.hasher.now in
    let leaf = leaf_from h c.args.start c.args.leaves.now in
    let same = c.deref-3.ensures.value in
    let known = c.put_levels.new.known in
    on_ok_both c.put_parents-2.result
    (λ x y. are_listed h g.F.Family.rule g.F.Family.MAX_LEAVES leaf _ _ _ _ c.in_ok-parents-2.parents.items
    (x ∙ ap (λ z. known.positions.items ++ map (λ n. n.0) z) same) (y ∙ ap (λ z. known.digests.items ++ map (λ n. h.node n.0 n.1 n.2) z) same)
    c.in_ok-put_levels.ensures (c.in_ok-parents-2.ensures h leaf c.in_ok-put_levels.ensures))
    c.put_parents-2.ensures.positions c.put_parents-2.ensures.digests
