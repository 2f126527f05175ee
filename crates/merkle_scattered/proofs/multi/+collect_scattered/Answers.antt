use Rattle.std.proofs.Common.{not, arith, sym, ap, subst, ◌∙◌, refl, inl, inr}
use Rattle.std.specs.List.Sorted.{IsNonDecreasing}
use Rattle.std.proofs.lemmas.Bool.{eqb-true}
use Rattle.std.proofs.lemmas.List.Sorted.{IsNonDecreasingBy-take, IsNonDecreasingBy-drop}
use Rattle.merkle_hasher.proofs.Spans.{heights_same}
use Rattle.merkle_hasher.proofs.NodeSteps.{inner_node, lower}
use Rattle.merkle_root_theory.proofs.Grouping.{if_ok, none_more}
use Rattle.merkle_scattered.proofs.ScatteredPositions.{none_below, nothing_below, inner_below}
use Rattle.merkle_scattered.proofs.multi.+collect_scattered.Goals as goal
use Rattle.merkle_scattered.proofs.multi.+collect_scattered.Goals.{then-subtree-eq0-via-then-subtree-eq0, then-subtree-eq0-via-else-subtree-eq0+then-is_empty}

pub returns-then-subtree-eq0 : goal.returns-then-subtree-eq0
returns-then-subtree-eq0 g t c = λ u w. none_more c.args.out.now.items _ (
    elim c.then-subtree-eq0.branch [
      | then-subtree-eq0-via-then-subtree-eq0 v ↦ nothing_below _ _ _ _ _ c.args.locations.now u w v.if-subtree-eq0.true
      | then-subtree-eq0-via-else-subtree-eq0+then-is_empty v ↦ none_below u c.args.locations.now (eqb-true _ _ (sym v.is_empty.ensures ∙ v.if-is_empty.true))
    ])

pub children-requires : goal.children-requires
children-requires g t c = let n = c.requires.node in inner_node _ _ _ _ _ n.0 n.1 c.if-subtree-eq0.false

pub collect_scattered-requires : goal.collect_scattered-requires
collect_scattered-requires g t c κs within =
    let n = c.requires.node in
    let i = inner_node _ _ _ _ _ n.0 n.1 c.if-subtree-eq0.false in
    let k = c.children.ensures i.0 i.1 i.2 i.3 in
    let ascend = subst IsNonDecreasing (sym c.split_at.ensures.front) (IsNonDecreasingBy-take (λ x. x) c.count_before.result c.args.locations.now c.requires.ascend) in
    (omega (arith, lower _ _ _ _ _ _ _ _ _ _ _ _ i.3 k.0 (inl refl), c.decreases), (within.0, (within.1.0, (within.1.1, ((i.1, k.0), ascend)))))

pub collect_scattered-requires-2 : goal.collect_scattered-requires-2
collect_scattered-requires-2 g t c κs within =
    let n = c.requires.node in
    let i = inner_node _ _ _ _ _ n.0 n.1 c.if-subtree-eq0.false in
    let k = c.children.ensures i.0 i.1 i.2 i.3 in
    let ascend = subst IsNonDecreasing (sym c.split_at.ensures.back) (IsNonDecreasingBy-drop (λ x. x) c.count_before.result c.args.locations.now c.requires.ascend) in
    (omega (arith, lower _ _ _ _ _ _ _ _ _ _ _ _ i.3 k.1 (inr (heights_same _ _ _ g.met.F.Family.lawful _ _ _ _ _ _ i.3)), c.decreases), (within.0, (within.1.0, (within.1.1, ((i.2, k.1), ascend)))))

pub returns : goal.returns
returns g t c = if_ok c.append_if-2.result (λ _ last u w.
    inner_below _ _ _ _ _ c.args.locations.now u w c.if-subtree-eq0.false c.split_at.result.0.now c.split_at.result.1.now _ _ _ _ _ _
    (c.split_at.ensures.front ∙ c.count_before.ensures.parts.0, c.split_at.ensures.back ∙ c.count_before.ensures.parts.1) c.children.ensures
    _ _ (ap not c.is_empty-2.ensures) (ap not c.is_empty-3.ensures) c.args.out.now.items _ _ _ _
    c.in_ok-collect_scattered.ensures c.in_ok-append_if.ensures c.in_ok-collect_scattered-2.ensures last) c.append_if-2.ensures
