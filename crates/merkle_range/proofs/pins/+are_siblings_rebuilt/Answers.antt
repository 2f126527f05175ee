use Rattle.std.proofs.Common.{◌≤◌, ◌<◌, ◌↔◌, IsTrue, false, length, refl, sym, arith, inl, inr, ◌∙◌}
use Rattle.std.proofs.lemmas.Bool.{not-true, not-false, false≢true}
use Rattle.merkle_base.specs.Tree.{join, end_leaf}
use Rattle.merkle_claim_theory.specs.Rebuilt.{AllRebuilt, rebuilt_node}
use Rattle.merkle_base.specs.Table.{digest_for}
use Rattle.merkle_hasher.proofs.Comparisons.{ge_yes, ge_no, lt_yes, lt_no}
use Rattle.merkle_hasher.proofs.NodeSteps.{inner_node, lower}
use Rattle.merkle_hasher.proofs.Spans.{heights_same}
use Rattle.merkle_root_theory.specs.Plan.{tree_meets, siblings}
use Rattle.merkle_root_theory.specs.Check.{in_range}
use Rattle.merkle_range.proofs.PinWalks.{crossed_node, past_start, right_past, by_children, before_none, before_left, before_right, before_other, before_short}
use Rattle.merkle_range.proofs.pins.+are_siblings_rebuilt.Goals as goal

pub returns-then-ge : goal.returns-then-ge
returns-then-ge g t c = λ u end w less long. (
  (λ _. before_none g.F.Family.rule g.F.Family.MAX_LEAVES _ _ _ c.args.start end less (g.H.Hasher.hashing c.args.hasher.now) _ u w
      (ge_yes c.args.subtree.now.first_leaf c.args.start (sym c.ge.ensures ∙ c.if-ge.true)) c.args.digests.now),
  (λ _. refl),
)

pub children-left-requires : goal.children-left-requires
children-left-requires g t c =
    let n = c.requires.node in
    let low = ge_no c.args.subtree.now.first_leaf c.args.start (sym c.ge.ensures ∙ c.if-ge.false) in
    inner_node _ _ _ _ _ n.0 n.1 (crossed_node g.F.Family.rule g.F.Family.MAX_LEAVES _ _ _ c.args.start n.0 n.1 low n.2)

pub leaf_end-requires : goal.leaf_end-requires
leaf_end-requires g t c =
    let n = c.requires.node in
    let low = ge_no c.args.subtree.now.first_leaf c.args.start (sym c.ge.ensures ∙ c.if-ge.false) in
    let i = inner_node _ _ _ _ _ n.0 n.1 (crossed_node g.F.Family.rule g.F.Family.MAX_LEAVES _ _ _ c.args.start n.0 n.1 low n.2) in
    (i.1, (c.children-left.ensures i.0 i.1 i.2 i.3).0)

pub are_siblings_rebuilt-requires : goal.are_siblings_rebuilt-requires
are_siblings_rebuilt-requires g t c κs within =
    let n = c.requires.node in
    let low = ge_no c.args.subtree.now.first_leaf c.args.start (sym c.ge.ensures ∙ c.if-ge.false) in
    let i = inner_node _ _ _ _ _ n.0 n.1 (crossed_node g.F.Family.rule g.F.Family.MAX_LEAVES _ _ _ c.args.start n.0 n.1 low n.2) in
    let k = c.children-left.ensures i.0 i.1 i.2 i.3 in
    let past : c.args.start < end_leaf i.1 = omega (arith, lt_yes c.args.start c.leaf_end.result (sym c.lt.ensures ∙ c.if-lt.true), c.leaf_end.ensures i.1 k.0) in
    (omega (arith, lower _ _ _ _ _ _ _ _ _ _ _ _ i.3 k.0 (inl refl), c.decreases), (within.0, (within.1.0, (within.1.1.0, (within.1.1.1.0, (within.1.1.1.1, (i.1, k.0, past)))))))

pub returns-then-lt : goal.returns-then-lt
returns-then-lt g t c = λ u end w less long.
    let n = c.requires.node in
    let h = g.H.Hasher.hashing c.args.hasher.now in
    let f = rebuilt_node h (digest_for c.args.pins.now.positions.items c.args.pins.now.digests.now) in
    let a = c.args.start in let ds = c.args.digests.now in
    let low = ge_no c.args.subtree.now.first_leaf a (sym c.ge.ensures ∙ c.if-ge.false) in
    by_children g.F.Family.rule g.F.Family.MAX_LEAVES _ _ _ a
    (λ z. length (siblings (in_range a end) z) ≤ length ds
    → IsTrue c.are_siblings_rebuilt.result ↔ AllRebuilt h (tree_meets (in_range 0 a)) f (siblings (in_range a end) z) ds) u w low
    (past_start g.F.Family.rule g.F.Family.MAX_LEAVES _ _ _ a n.0 u n.1 n.2 w)
    (λ q l r v past.
    let k = c.children-left.ensures q l r v in
    let over : a < end_leaf l = omega (arith, lt_yes a c.leaf_end.result (sym c.lt.ensures ∙ c.if-lt.true), c.leaf_end.ensures l k.0) in
    before_left g.F.Family.rule g.F.Family.MAX_LEAVES _ _ _ a end less h f q l r v low over ds _ (c.are_siblings_rebuilt.ensures l end k.0 less)) long

pub returns-in_default : goal.returns-in_default
returns-in_default g t c = λ u end w less long.
    let n = c.requires.node in
    let h = g.H.Hasher.hashing c.args.hasher.now in
    let f = rebuilt_node h (digest_for c.args.pins.now.positions.items c.args.pins.now.digests.now) in
    let a = c.args.start in let ds = c.args.digests.now in
    let low = ge_no c.args.subtree.now.first_leaf a (sym c.ge.ensures ∙ c.if-ge.false) in
    by_children g.F.Family.rule g.F.Family.MAX_LEAVES _ _ _ a
    (λ z. length (siblings (in_range a end) z) ≤ length ds → IsTrue false ↔ AllRebuilt h (tree_meets (in_range 0 a)) f (siblings (in_range a end) z) ds) u w low
    (past_start g.F.Family.rule g.F.Family.MAX_LEAVES _ _ _ a n.0 u n.1 n.2 w)
    (λ q l r v past.
    let k = c.children-left.ensures q l r v in
    let under : end_leaf l ≤ a = omega (arith, lt_no a c.leaf_end.result (sym c.lt.ensures ∙ c.if-lt.false), c.leaf_end.ensures l k.0) in
    (λ most. absurd (before_short g.F.Family.rule g.F.Family.MAX_LEAVES _ _ _ a end less h f q l r v low under past ds c.in_default.ensures.cases most))) long

pub rebuilt_digest-requires : goal.rebuilt_digest-requires
rebuilt_digest-requires g t c =
    let n = c.requires.node in
    let low = ge_no c.args.subtree.now.first_leaf c.args.start (sym c.ge.ensures ∙ c.if-ge.false) in
    let i = inner_node _ _ _ _ _ n.0 n.1 (crossed_node g.F.Family.rule g.F.Family.MAX_LEAVES _ _ _ c.args.start n.0 n.1 low n.2) in
    record { node = (i.1, (c.children-left.ensures i.0 i.1 i.2 i.3).0) }

pub returns-then-ne : goal.returns-then-ne
returns-then-ne g t c = λ u end w less long.
    let n = c.requires.node in
    let h = g.H.Hasher.hashing c.args.hasher.now in
    let f = rebuilt_node h (digest_for c.args.pins.now.positions.items c.args.pins.now.digests.now) in
    let a = c.args.start in let ds = c.args.digests.now in
    let low = ge_no c.args.subtree.now.first_leaf a (sym c.ge.ensures ∙ c.if-ge.false) in
    let equal = g.met.H.Digest.Digest.eq_decides c.rebuilt_digest.result c.in-Some.digest.now in
    let differs = not-true _ (sym c.ne.ensures ∙ c.if-ne.true) in
    by_children g.F.Family.rule g.F.Family.MAX_LEAVES _ _ _ a
    (λ z. length (siblings (in_range a end) z) ≤ length ds → IsTrue false ↔ AllRebuilt h (tree_meets (in_range 0 a)) f (siblings (in_range a end) z) ds) u w low
    (past_start g.F.Family.rule g.F.Family.MAX_LEAVES _ _ _ a n.0 u n.1 n.2 w)
    (λ q l r v past.
    let k = c.children-left.ensures q l r v in
    let under : end_leaf l ≤ a = omega (arith, lt_no a c.leaf_end.result (sym c.lt.ensures ∙ c.if-lt.false), c.leaf_end.ensures l k.0) in
    (λ most. (
      (λ x. absurd (false≢true x)),
      (λ x. sym differs ∙ equal.1 (before_other g.F.Family.rule g.F.Family.MAX_LEAVES _ _ _ a end less h f q l r v low under past ds
          c.in-Some.others.now c.in-Some.digest.now c.rebuilt_digest.result c.in-Some.ensures.cases.0 (c.rebuilt_digest.ensures l k.0) x)),
    ))) long

pub are_siblings_rebuilt-requires-2 : goal.are_siblings_rebuilt-requires-2
are_siblings_rebuilt-requires-2 g t c κs within =
    let n = c.requires.node in
    let low = ge_no c.args.subtree.now.first_leaf c.args.start (sym c.ge.ensures ∙ c.if-ge.false) in
    let i = inner_node _ _ _ _ _ n.0 n.1 (crossed_node g.F.Family.rule g.F.Family.MAX_LEAVES _ _ _ c.args.start n.0 n.1 low n.2) in
    let k = c.children-left.ensures i.0 i.1 i.2 i.3 in
    let past = right_past g.F.Family.rule g.F.Family.MAX_LEAVES _ _ _ c.args.start i.0 i.1 i.2 i.3
    (past_start g.F.Family.rule g.F.Family.MAX_LEAVES _ _ _ c.args.start n.0 (join i.0 i.1 i.2) n.1 n.2 i.3) in (
      omega (arith, lower _ _ _ _ _ _ _ _ _ _ _ _ i.3 k.1 (inr (heights_same _ _ _ g.met.F.Family.lawful _ _ _ _ _ _ i.3)), c.decreases),
      (within.0, (within.1.0, (within.1.1.0, (within.1.1.1.0, (within.1.1.1.1, (i.2, k.1, past)))))),
    )

pub returns : goal.returns
returns g t c = λ u end w less long.
    let n = c.requires.node in
    let h = g.H.Hasher.hashing c.args.hasher.now in
    let f = rebuilt_node h (digest_for c.args.pins.now.positions.items c.args.pins.now.digests.now) in
    let a = c.args.start in let ds = c.args.digests.now in
    let low = ge_no c.args.subtree.now.first_leaf a (sym c.ge.ensures ∙ c.if-ge.false) in
    let equal = g.met.H.Digest.Digest.eq_decides c.rebuilt_digest.result c.in-Some.digest.now in
    let same = equal.0 (not-false _ (sym c.ne.ensures ∙ c.if-ne.false)) in
    by_children g.F.Family.rule g.F.Family.MAX_LEAVES _ _ _ a
    (λ z. length (siblings (in_range a end) z) ≤ length ds
    → IsTrue c.are_siblings_rebuilt-2.result ↔ AllRebuilt h (tree_meets (in_range 0 a)) f (siblings (in_range a end) z) ds) u w low
    (past_start g.F.Family.rule g.F.Family.MAX_LEAVES _ _ _ a n.0 u n.1 n.2 w)
    (λ q l r v past.
    let k = c.children-left.ensures q l r v in
    let under : end_leaf l ≤ a = omega (arith, lt_no a c.leaf_end.result (sym c.lt.ensures ∙ c.if-lt.false), c.leaf_end.ensures l k.0) in
    before_right g.F.Family.rule g.F.Family.MAX_LEAVES _ _ _ a end less h f q l r v low under past ds c.in-Some.others.now c.in-Some.digest.now
    c.rebuilt_digest.result _ c.in-Some.ensures.cases.0 (c.rebuilt_digest.ensures l k.0) same
    (c.are_siblings_rebuilt-2.ensures r end k.1 less)) long
