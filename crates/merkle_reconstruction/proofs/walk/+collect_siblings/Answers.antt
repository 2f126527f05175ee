use Rattle.std.proofs.Common.{◌++◌, arith, sym, ap, ◌∙◌, refl, inl, inr}
use Rattle.std.proofs.lemmas.Bool.{not-true, not-false}
use Rattle.merkle_hasher.proofs.Spans.{heights_same}
use Rattle.merkle_hasher.proofs.NodeSteps.{inner_node, lower}
use Rattle.merkle_root_theory.proofs.Walks.{siblings_met_leaf, siblings_inner}
use Rattle.merkle_root_theory.proofs.Grouping.{if_ok, none_more, outside_positions}
use Rattle.merkle_reconstruction.proofs.walk.+collect_siblings.Goals as goal
use Rattle.merkle_reconstruction.proofs.walk.+collect_siblings.Goals.{then-subtree-eq0-via-then-subtree-eq0, then-subtree-eq0-via-else-subtree-eq0+then-is_inside}

pub returns-then-is_outside : goal.returns-then-is_outside
returns-then-is_outside g t c = λ u w. c.in_ok-push.ensures.items
    ∙ ap (λ z. c.args.out.now.items ++ z) (outside_positions _ _ _ _ _ _ u w (not-true _ (sym (c.is_outside.ensures u w) ∙ c.if-is_outside.true)))

pub returns-then-subtree-eq0 : goal.returns-then-subtree-eq0
returns-then-subtree-eq0 g t c = λ u w. none_more c.args.out.now.items _ (
    elim c.then-subtree-eq0.branch [
      | then-subtree-eq0-via-then-subtree-eq0 v ↦ siblings_met_leaf _ _ _ _ _ _ u w v.if-subtree-eq0.true (not-false _ (sym (c.is_outside.ensures u w) ∙ c.if-is_outside.false))
      | then-subtree-eq0-via-else-subtree-eq0+then-is_inside v ↦ v.is_inside.ensures.none u w v.if-is_inside.true
    ])

pub children-left-requires : goal.children-left-requires
children-left-requires g t c = let n = c.requires.node in inner_node _ _ _ _ _ n.0 n.1 c.if-subtree-eq0.false

pub collect_siblings-requires : goal.collect_siblings-requires
collect_siblings-requires g t c κs within =
    let n = c.requires.node in
    let i = inner_node _ _ _ _ _ n.0 n.1 c.if-subtree-eq0.false in
    let k = c.children-left.ensures i.0 i.1 i.2 i.3 in
    (omega (arith, lower _ _ _ _ _ _ _ _ _ _ _ _ i.3 k.0 (inl refl), c.decreases), (within.0, (within.1.0, (within.1.1, ((i.1, k.0), c.requires.nonempty)))))

pub collect_siblings-requires-2 : goal.collect_siblings-requires-2
collect_siblings-requires-2 g t c κs within =
    let n = c.requires.node in
    let i = inner_node _ _ _ _ _ n.0 n.1 c.if-subtree-eq0.false in
    let k = c.children-left.ensures i.0 i.1 i.2 i.3 in (
      omega (arith, lower _ _ _ _ _ _ _ _ _ _ _ _ i.3 k.1 (inr (heights_same _ _ _ g.met.F.Family.lawful _ _ _ _ _ _ i.3)), c.decreases),
      (within.0, (within.1.0, (within.1.1, ((i.2, k.1), c.requires.nonempty)))),
    )

pub returns : goal.returns
returns g t c = if_ok c.collect_siblings-2.result (λ _ f u w.
    siblings_inner _ _ _ _ _ _ u w c.if-subtree-eq0.false (not-false _ (sym (c.is_outside.ensures u w) ∙ c.if-is_outside.false)) _ _ _
    (λ q l r v. let k = c.children-left.ensures q l r v in (c.in_ok-collect_siblings.ensures l k.0, f r k.1))) c.collect_siblings-2.ensures
