use Rattle.std.proofs.Common.{ap, sym, ◌∙◌, arith}
use Rattle.merkle_base.proofs.Limits.{lawful_leaves}
use Rattle.merkle_base.proofs.PeakLists.{counting, next_counted, all_counted}
use Rattle.merkle_base.proofs.family.count_inactive.Goals as goal

pub loop-height-init : goal.loop-height-init
loop-height-init g c =
    let e = c.into_iter-height-iterator.ensures.into_iter_gives in (
      g.met.F.Peaks.Listed.may_go c.into_iter-height-iterator.result,
      g.met.F.Peaks.Listed.ends c.into_iter-height-iterator.result,
      counting g.F.Family.rule c.args.leaves c.args.floor _ (λ n l. g.met.F.Family.lawful.equal n (omega (arith, c.requires)))
          (ap g.F.Peaks.Listed.left e ∙ c.peaks-height-items.ensures c.args.leaves c.requires (sym c.location_to_position.ensures)),
    )

pub overflow_shl-end_leaf : goal.overflow_shl-end_leaf
overflow_shl-end_leaf g c =
    let y = g.met.F.Peaks.Listed.gives_first _ _ _ c.in-Some.ensures.steps in
    let n = next_counted _ _ _ g.met.F.Family.lawful _ _ c.requires _ _ _ c.loop-height.invariant.2 _ _ _ y in omega (arith, n.low)

pub overflow_add-end_leaf : goal.overflow_add-end_leaf
overflow_add-end_leaf g c =
    let y = g.met.F.Peaks.Listed.gives_first _ _ _ c.in-Some.ensures.steps in
    let n = next_counted _ _ _ g.met.F.Family.lawful _ _ c.requires _ _ _ c.loop-height.invariant.2 _ _ _ y in
    omega (arith, n.within, c.requires, lawful_leaves _ _ _ g.met.F.Family.lawful)

pub overflow_add-count : goal.overflow_add-count
overflow_add-count g c =
    let y = g.met.F.Peaks.Listed.gives_first _ _ _ c.in-Some.ensures.steps in
    let n = next_counted _ _ _ g.met.F.Family.lawful _ _ c.requires _ _ _ c.loop-height.invariant.2 _ _ _ y in
    omega (arith, n.below_end, n.within, c.requires, lawful_leaves _ _ _ g.met.F.Family.lawful)

pub loop-height-preserved : goal.loop-height-preserved
loop-height-preserved g c =
    let y = g.met.F.Peaks.Listed.gives_first _ _ _ c.in-Some.ensures.steps in
    let n = next_counted _ _ _ g.met.F.Family.lawful _ _ c.requires _ _ _ c.loop-height.invariant.2 _ _ _ y in (
      g.met.F.Peaks.Listed.may_go c.next.new.self,
      g.met.F.Peaks.Listed.ends c.next.new.self,
      n.below (omega (arith, c.if-end_leaf-as_u64.false, c.as_u64.ensures)),
    )

pub returns-then-end_leaf-as_u64 : goal.returns-then-end_leaf-as_u64
returns-then-end_leaf-as_u64 g c =
    let y = g.met.F.Peaks.Listed.gives_first _ _ _ c.in-Some.ensures.steps in
    let n = next_counted _ _ _ g.met.F.Family.lawful _ _ c.requires _ _ _ c.loop-height.invariant.2 _ _ _ y in n.above (omega (arith, c.if-end_leaf-as_u64.true, c.as_u64.ensures))

pub returns : goal.returns
returns g c =
    let y = g.met.F.Peaks.Listed.gives_first _ _ _ c.in-None.ensures.steps in
    all_counted _ _ _ _ _ _ c.loop-height.invariant.2 y.0
