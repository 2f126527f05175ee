use Rattle.std.proofs.Common.{arith, rules, sym, subst, ◌∙◌, refl, inl, inr}
use Rattle.std.proofs.lemmas.Result.{err_from_is_err_and}
use Rattle.std.proofs.lemmas.List.{nil_from_length}
use Rattle.std.proofs.lemmas.Bool.{not-true, not-false}
use Rattle.merkle_root_theory.specs.Check.{in_range}
use Rattle.merkle_root_theory.specs.Walk.{leaf_from}
use Rattle.merkle_hasher.proofs.Spans.{heights_same}
use Rattle.merkle_hasher.proofs.NodeSteps.{inner_node, lower}
use Rattle.merkle_root_theory.proofs.Walks.{walk_outside, short_outside, walked_leaf, walked_inner, short_inner_left, short_inner_right, leaf_in_range}
use Rattle.merkle_reconstruction.proofs.InsideNodes.{walked_inside}
use Rattle.merkle_reconstruction.proofs.ExtractionWalks.{stands_at, inner_unmet, inner_leaf, inner_inside, put_inner}
use Rattle.merkle_reconstruction.proofs.walk.+reconstruct_digest.Goals as goal

pub returns-in_default-clause-err : goal.returns-in_default-clause-err
returns-in_default-clause-err g t c = λ _. (
  refl,
  λ u w.
      short_outside (g.H.Hasher.hashing c.args.hasher.now) (in_range c.args.range.now.start c.args.range.now.end)
      (leaf_from (g.H.Hasher.hashing c.args.hasher.now) c.args.range.now.start c.args.leaves.now) u c.args.digests.now.now
      (not-true _ (sym (c.is_outside.ensures u w) ∙ c.if-is_outside.true)) (nil_from_length _ c.in_default.ensures.cases),
)

pub returns-then-is_outside-clause-ok : goal.returns-then-is_outside-clause-ok
returns-then-is_outside-clause-ok g t c = λ u w.
    walk_outside (g.H.Hasher.hashing c.args.hasher.now) _ _ u _ _ _ (not-true _ (sym (c.is_outside.ensures u w) ∙ c.if-is_outside.true)) c.in-Some.ensures.cases.0

pub sub-index-requires : goal.sub-index-requires
sub-index-requires g t c = let n = c.requires.node in
    (leaf_in_range _ _ _ _ _ _ _ n.0 n.1 c.if-subtree-eq0.true (not-false _ (sym (c.is_outside.ensures n.0 n.1) ∙ c.if-is_outside.false))).0

pub offset_bounds-leaves-as_u64 : goal.offset_bounds-leaves-as_u64
offset_bounds-leaves-as_u64 g t c = let n = c.requires.node in
    let l = leaf_in_range _ _ _ _ _ _ _ n.0 n.1 c.if-subtree-eq0.true (not-false _ (sym (c.is_outside.ensures n.0 n.1) ∙ c.if-is_outside.false)) in
    omega (arith, c.as_u64.ensures, c.sub-index.ensures, c.requires.covered, l.0, l.1)

pub bounds-leaves-as_u64 : goal.bounds-leaves-as_u64
bounds-leaves-as_u64 g t c = let n = c.requires.node in
    let l = leaf_in_range _ _ _ _ _ _ _ n.0 n.1 c.if-subtree-eq0.true (not-false _ (sym (c.is_outside.ensures n.0 n.1) ∙ c.if-is_outside.false)) in
    omega (arith, c.as_u64.ensures, c.sub-index.ensures, c.requires.covered, l.0, l.1)

pub returns-then-subtree-eq0-clause-ok : goal.returns-then-subtree-eq0-clause-ok
returns-then-subtree-eq0-clause-ok g t c = λ u w.
    let met = not-false _ (sym (c.is_outside.ensures u w) ∙ c.if-is_outside.false) in
    let l = leaf_in_range _ _ _ _ _ _ _ u w c.if-subtree-eq0.true met in
    walked_leaf _ _ _ _ _ (g.H.Hasher.hashing c.args.hasher.now) _ _ c.args.leaves.now u w c.if-subtree-eq0.true met _ _ _
    (omega (arith, c.as_u64.ensures, c.sub-index.ensures, c.requires.covered, l.0, l.1)) c.index-leaves-as_u64.is (c.as_u64.ensures ∙ c.sub-index.ensures)

pub children-left-requires : goal.children-left-requires
children-left-requires g t c = let n = c.requires.node in inner_node _ _ _ _ _ n.0 n.1 c.if-subtree-eq0.false

pub reconstruct_digest-requires : goal.reconstruct_digest-requires
reconstruct_digest-requires g t c κs within =
    let n = c.requires.node in
    let i = inner_node _ _ _ _ _ n.0 n.1 c.if-subtree-eq0.false in
    let k = c.children-left.ensures i.0 i.1 i.2 i.3 in (
      omega (arith, lower _ _ _ _ _ _ _ _ _ _ _ _ i.3 k.0 (inl refl), c.decreases),
      (
        within.0,
        (
          within.1.0,
          (
            within.1.1.0,
            (within.1.1.1.0, (within.1.1.1.1.0, (within.1.1.1.1.1, ((i.1, k.0), (c.requires.nonempty, (c.requires.covered, c.requires.known)))))),
          ),
        ),
      ),
    )

pub returns-in_err-first-clause-err : goal.returns-in_err-first-clause-err
returns-in_err-first-clause-err g t c =
    let p = err_from_is_err_and c.from_residual.result c.from_residual.ensures.1 in
    rw (p.1, p.2) (λ n. (
      (c.in_err-first.ensures.err n).0,
      λ u w.
          short_inner_left _ _ _ _ _ (g.H.Hasher.hashing c.args.hasher.now) _
          (leaf_from (g.H.Hasher.hashing c.args.hasher.now) c.args.range.now.start c.args.leaves.now) u w c.if-subtree-eq0.false
          (not-false _ (sym (c.is_outside.ensures u w) ∙ c.if-is_outside.false)) _
          (λ q l r v. (c.in_err-first.ensures.err n).1 l (c.children-left.ensures q l r v).0),
    ))

pub reconstruct_digest-requires-2 : goal.reconstruct_digest-requires-2
reconstruct_digest-requires-2 g t c κs within =
    let n = c.requires.node in
    let i = inner_node _ _ _ _ _ n.0 n.1 c.if-subtree-eq0.false in
    let k = c.children-left.ensures i.0 i.1 i.2 i.3 in (
      omega (arith, lower _ _ _ _ _ _ _ _ _ _ _ _ i.3 k.1 (inr (heights_same _ _ _ g.met.F.Family.lawful _ _ _ _ _ _ i.3)), c.decreases),
      (
        within.0,
        (
          within.1.0,
          (
            within.1.1.0,
            (within.1.1.1.0, (within.1.1.1.1.0, (within.1.1.1.1.1, ((i.2, k.1), (c.requires.nonempty, (c.requires.covered, c.requires.known)))))),
          ),
        ),
      ),
    )

pub returns-in_err-second-clause-err : goal.returns-in_err-second-clause-err
returns-in_err-second-clause-err g t c =
    let p = err_from_is_err_and c.from_residual-in_err-second.result c.from_residual-in_err-second.ensures.1 in
    rw (p.1, p.2) (λ n. (
      (c.in_err-second.ensures.err n).0,
      λ u w.
          short_inner_right _ _ _ _ _ (g.H.Hasher.hashing c.args.hasher.now) _
          (leaf_from (g.H.Hasher.hashing c.args.hasher.now) c.args.range.now.start c.args.leaves.now) u w c.if-subtree-eq0.false
          (not-false _ (sym (c.is_outside.ensures u w) ∙ c.if-is_outside.false)) _ _ _
          (λ q l r v. let k = c.children-left.ensures q l r v in (c.in_ok-first.ensures.ok l k.0, (c.in_err-second.ensures.err n).1 r k.1)),
    ))

pub returns-clause-ok : goal.returns-clause-ok
returns-clause-ok g t c = λ u w.
    walked_inner _ _ _ _ _ (g.H.Hasher.hashing c.args.hasher.now) _ _ u w c.if-subtree-eq0.false (not-false _ (sym (c.is_outside.ensures u w) ∙ c.if-is_outside.false)) _ _ _ _ _ _
    (λ q l r v. let k = c.children-left.ensures q l r v in (c.in_ok-first.ensures.ok l k.0, c.in_ok-second.ensures.ok r k.1)) c.node_digest.ensures

pub returns-then-is_outside-clause-taken : goal.returns-then-is_outside-clause-taken
returns-then-is_outside-clause-taken g t c = λ u w.
    let h = g.H.Hasher.hashing c.args.hasher.now in
    let none = inner_unmet h (in_range c.args.range.now.start c.args.range.now.end) (leaf_from h c.args.range.now.start c.args.leaves.now) u c.args.digests.now.now
    (not-true _ (sym (c.is_outside.ensures u w) ∙ c.if-is_outside.true)) in
    subst (λ z. g.C.Collector.Took c.args.out.now z c.args.out.now) (sym none) (g.met.C.Collector.took_none c.args.out.now)

pub returns-clause-taken : goal.returns-clause-taken
returns-clause-taken g t c = λ u w.
    put_inner (g.H.Hasher.hashing c.args.hasher.now) _ _ g.C.Collector.Took g.met.C.Collector.took_both _ _ _ _ _ u w c.if-subtree-eq0.false
    (not-false _ (sym (c.is_outside.ensures u w) ∙ c.if-is_outside.false)) _ _ _ _ _ _ _ _ _ _ _
    (λ q l r v. let k = c.children-left.ensures q l r v in (
      stands_at _ _ _ _ _ l k.0,
      stands_at _ _ _ _ _ r k.1,
      c.in_ok-first.ensures.ok l k.0,
      c.in_ok-second.ensures.ok r k.1,
      c.in_ok-first.ensures.taken l k.0,
      c.in_ok-second.ensures.taken r k.1,
    ))
    (search rules)

pub returns-then-subtree-eq0-clause-taken : goal.returns-then-subtree-eq0-clause-taken
returns-then-subtree-eq0-clause-taken g t c = λ u w.
    let h = g.H.Hasher.hashing c.args.hasher.now in
    let none = inner_leaf h (in_range c.args.range.now.start c.args.range.now.end) (leaf_from h c.args.range.now.start c.args.leaves.now) _ _ _ _ _ u w c.if-subtree-eq0.true c.args.digests.now.now in
    subst (λ z. g.C.Collector.Took c.args.out.now z c.args.out.now) (sym none) (g.met.C.Collector.took_none c.args.out.now)

pub returns-in-Some-get-clause-ok : goal.returns-in-Some-get-clause-ok
returns-in-Some-get-clause-ok g t c = λ u w.
    walked_inside (g.H.Hasher.hashing c.args.hasher.now) c.args.range.now.start c.args.leaves.now c.args.range.now.end u (c.is_inside.ensures.none u w c.if-is_inside.true)
    c.in-Some-get.digest (c.requires.known c.args.subtree.now.position c.in-Some-get.digest (sym c.get.ensures ∙ c.in-Some-get.is) u w.at) c.args.digests.now.now

pub returns-then-is_inside-2-clause-ok : goal.returns-then-is_inside-2-clause-ok
returns-then-is_inside-2-clause-ok g t c = λ u w.
    walked_inside (g.H.Hasher.hashing c.args.hasher.now) c.args.range.now.start c.args.leaves.now c.args.range.now.end u
    (c.is_inside-then-is_extracted_by_levels.ensures.none u w c.if-is_inside-2.true)
    c.in-Ok.digest (c.in-Ok.ensures.digest u w.at) c.args.digests.now.now

pub returns-then-is_inside-2-clause-taken : goal.returns-then-is_inside-2-clause-taken
returns-then-is_inside-2-clause-taken g t c = λ u w.
    let h = g.H.Hasher.hashing c.args.hasher.now in
    let same = inner_inside h (in_range c.args.range.now.start c.args.range.now.end) (leaf_from h c.args.range.now.start c.args.leaves.now) u
    (c.is_inside-then-is_extracted_by_levels.ensures.none u w c.if-is_inside-2.true) c.args.digests.now.now in
    subst (λ z. g.C.Collector.Took c.args.out.now z c.extract_by_levels.new.out) (sym same) (c.in-Ok.ensures.taken u w)
