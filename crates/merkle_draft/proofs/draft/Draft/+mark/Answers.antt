use Rattle.std.proofs.Common.{arith, ◌<◌, refl, inl, inr}
use Rattle.merkle_hasher.proofs.Spans.{heights_same, ends_low, is_small}
use Rattle.merkle_hasher.proofs.NodeSteps.{inner_node, lower}
use Rattle.merkle_draft.proofs.CountBefore.{before_within}
use Rattle.merkle_draft.proofs.Marking.{on_ok_both, empty_yes, empty_no, mark_none, mark_leaf, mark_parent}
use Rattle.merkle_draft.proofs.draft.Draft.+mark.Goals as goal

pub returns-then-is_empty : goal.returns-then-is_empty
returns-then-is_empty g t c =
    mark_none g.F.Family.rule g.F.Family.MAX_LEAVES c.args.subtree.now c.args.updated.now c.args.levels.now (empty_yes c.args.updated.now c.is_empty.result c.is_empty.ensures c.if-is_empty.true)

pub returns-then-subtree-eq0 : goal.returns-then-subtree-eq0
returns-then-subtree-eq0 g t c =
    mark_leaf g.F.Family.rule g.F.Family.MAX_LEAVES c.args.subtree.now c.args.updated.now c.args.levels.now c.if-subtree-eq0.true

pub children-requires : goal.children-requires
children-requires g t c = let n = c.requires.node in inner_node _ _ _ _ _ n.0 n.1 c.if-subtree-eq0.false

pub location_to_position-middle-requires : goal.location_to_position-middle-requires
location_to_position-middle-requires g t c =
    let n = c.requires.node in
    let i = inner_node _ _ _ _ _ n.0 n.1 c.if-subtree-eq0.false in
    let k = c.children.ensures i.0 i.1 i.2 i.3 in
    omega (arith, ends_low _ _ _ g.met.F.Family.lawful _ _ _ i.2 k.1)

pub split_at-requires : goal.split_at-requires
split_at-requires g t c = omega (arith, c.count_before.ensures, before_within c.args.updated.now c.location_to_position-middle.result)

pub mark-requires : goal.mark-requires
mark-requires g t c κs within =
    let n = c.requires.node in
    let i = inner_node _ _ _ _ _ n.0 n.1 c.if-subtree-eq0.false in
    let k = c.children.ensures i.0 i.1 i.2 i.3 in
    let low : c.children.result.0.height < c.args.subtree.now.height = lower _ _ _ _ _ _ _ _ _ _ _ _ i.3 k.0 (inl refl) in
    (omega (arith, low, c.decreases), (within.0, (within.1.0, (within.1.1.0, (within.1.1.1, (i.1, k.0))))))

pub mark-requires-2 : goal.mark-requires-2
mark-requires-2 g t c κs within =
    let n = c.requires.node in
    let i = inner_node _ _ _ _ _ n.0 n.1 c.if-subtree-eq0.false in
    let k = c.children.ensures i.0 i.1 i.2 i.3 in
    let low : c.children.result.1.height < c.args.subtree.now.height = lower _ _ _ _ _ _ _ _ _ _ _ _ i.3 k.1 (inr (heights_same _ _ _ g.met.F.Family.lawful _ _ _ _ _ _ i.3)) in
    (omega (arith, low, c.decreases), (within.0, (within.1.0, (within.1.1.0, (within.1.1.1, (i.2, k.1))))))

pub add-requires : goal.add-requires
add-requires g t c = omega (arith, is_small _ _ _ g.met.F.Family.lawful _ _ _ c.requires.node.0 c.requires.node.1)

pub returns : goal.returns
returns g t c =
    on_ok_both c.add.result
    (mark_parent g.F.Family.rule g.F.Family.MAX_LEAVES c.args.subtree.now c.args.updated.now
    (empty_no c.args.updated.now c.is_empty.result c.is_empty.ensures c.if-is_empty.false) c.if-subtree-eq0.false
    c.children.result.0 c.children.result.1 c.children.ensures c.location_to_position-middle.result c.count_before.result c.split_at.result.0.now c.split_at.result.1.now
    c.location_to_position-middle.ensures c.count_before.ensures c.split_at.ensures.front c.split_at.ensures.back
    c.args.levels.now c.mark.new.levels c.mark-2.new.levels c.add.new.self c.in_ok-mark.ensures c.in_ok-mark-2.ensures)
    c.add.ensures.pushed c.add.ensures.more
