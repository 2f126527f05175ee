use Rattle.std.proofs.Common.{◌≡◌, ℕ, suc, ◌+◌, [], ◌∷◌, ◌++◌, length, arith, ap, sym, ◌∙◌, subst, append_assoc, length-append}
use Rattle.merkle_base.specs.Forest.{size}
use Rattle.merkle_base.specs.Places.{HasInner}
use Rattle.merkle_base.proofs.Limits.{lawful_height}
use Rattle.merkle_base.proofs.Nodes.{size_le}
use Rattle.merkle_base.proofs.Parents.{parent_there, parents_fit}
use Rattle.merkle_draft.specs.Levels.{AreAdded}
use Rattle.merkle_draft.proofs.Adding.{added_append, added_leaf, added_parent}
use Rattle.merkle_draft.proofs.draft.Draft.add_leaf.Goals as goal

pub loop-height-init : goal.loop-height-init
loop-height-init g c =
    let rule = g.F.Family.rule in
    let items = c.in_ok-push.ensures.pushed in
    let old = c.args.self.now.appended in
    let longer : length c.push.new.self.appended ≡ length old + 1 = ap length items ∙ length-append old (c.args.digest ∷ []) in
    let before : c.push.new.self.before ≡ c.args.self.now.before = c.push.ensures.only.0 in
    let end : c.push.new.self.before + length c.push.new.self.appended ≡ suc (size rule c.args.leaf) = omega (arith, longer, before, c.requires.counted) in (
      g.met.F.ParentHeights.Listed.may_go c.into_iter-height-iterator.result,
      g.met.F.ParentHeights.Listed.ends c.into_iter-height-iterator.result,
      c.push.ensures.only,
      ([], ap g.F.ParentHeights.Listed.left c.into_iter-height-iterator.ensures.into_iter_gives ∙ c.parent_heights-height-items.ensures, omega (arith, end)),
      subst (λ (q : ℕ). AreAdded rule g.F.Family.MAX_LEAVES (size rule c.args.leaf) q c.args.levels.now c.args.levels.now) (sym end)
          (added_leaf rule g.F.Family.MAX_LEAVES c.args.leaf c.args.levels.now),
      ([], items),
      omega (arith, longer),
    )

pub size-requires : goal.size-requires
size-requires g c =
    let rule = g.F.Family.rule in
    let law = g.met.F.Family.lawful in
    let k = c.loop-height.invariant.3 in
    let y = g.met.F.ParentHeights.Listed.gives_first _ _ _ c.in-Some.ensures.steps in
    let fit = parents_fit rule g.F.Family.MAX_LEAVES law.equal c.args.leaf c.requires.below k.0
    (c.in-Some.height ∷ g.F.ParentHeights.Listed.left c.next.new.self) (ap (λ xs. k.0 ++ xs) (sym y) ∙ k.1) in
    omega (arith, fit, k.2, size_le rule (suc c.args.leaf) g.F.Family.MAX_LEAVES (omega (arith, c.requires.below)), law.size_at_limit, law.limit_fits)

pub add-requires : goal.add-requires
add-requires g c =
    let rule = g.F.Family.rule in
    let k = c.loop-height.invariant.3 in
    let y = g.met.F.ParentHeights.Listed.gives_first _ _ _ c.in-Some.ensures.steps in
    let i = parent_there rule g.F.Family.MAX_LEAVES g.met.F.Family.lawful.equal c.args.leaf c.requires.below k.0 c.in-Some.height
    (g.F.ParentHeights.Listed.left c.next.new.self) (ap (λ xs. k.0 ++ xs) (sym y) ∙ k.1) in
    omega (arith, lawful_height rule g.F.Family.MAX_LEAVES g.F.Family.MAX_NODES g.met.F.Family.lawful i.0 _ i.1 i.2 i.3, i.4)

pub loop-height-preserved : goal.loop-height-preserved
loop-height-preserved g c =
    let rule = g.F.Family.rule in
    let max = g.F.Family.MAX_LEAVES in
    let self = c.loop-height.self in
    let new = c.push-in-loop-height.new.self in
    let only = c.loop-height.invariant.2 in
    let more = c.push-in-loop-height.ensures.only in
    let k = c.loop-height.invariant.3 in
    let y = g.met.F.ParentHeights.Listed.gives_first _ _ _ c.in-Some.ensures.steps in
    let left = g.F.ParentHeights.Listed.left c.next.new.self in
    let heights = ap (λ xs. k.0 ++ xs) (sym y) ∙ k.1 in
    let place : self.before + length self.appended ≡ c.size.result = sym c.size.ensures in
    let there : HasInner rule max c.size.result c.in-Some.height =
    subst (λ (p : ℕ). HasInner rule max p c.in-Some.height) (sym k.2 ∙ place)
    (parent_there rule max g.met.F.Family.lawful.equal c.args.leaf c.requires.below k.0 c.in-Some.height left heights) in
    let items = c.in_ok-push-2.ensures.pushed in
    let longer : length new.appended ≡ length self.appended + 1 = ap length items ∙ length-append self.appended (c.args.digest ∷ []) in
    let end : new.before + length new.appended ≡ suc c.size.result = omega (arith, more.0, longer, place) in
    let so_far = c.loop-height.invariant.5 in (
      g.met.F.ParentHeights.Listed.may_go c.next.new.self,
      g.met.F.ParentHeights.Listed.ends c.next.new.self,
      (more.0 ∙ only.0, more.1 ∙ only.1, more.2 ∙ only.2),
      (
        k.0 ++ c.in-Some.height ∷ [],
        append_assoc k.0 (c.in-Some.height ∷ []) left ∙ heights,
        omega (arith, k.2, end, place, length-append k.0 (c.in-Some.height ∷ [])),
      ),
      added_append rule max (size rule c.args.leaf) c.size.result (new.before + length new.appended) (omega (arith, k.2, place)) (omega (arith, end))
          c.args.levels.now c.loop-height.levels c.add.new.self
          (subst (λ (q : ℕ). AreAdded rule max (size rule c.args.leaf) q c.args.levels.now c.loop-height.levels) place c.loop-height.invariant.4)
          (subst (λ (q : ℕ). AreAdded rule max c.size.result q c.loop-height.levels c.add.new.self) (sym end)
          (added_parent rule max c.size.result c.in-Some.height there c.loop-height.levels c.add.new.self c.in_ok-add.ensures.pushed)),
      (so_far.0 ++ c.args.digest ∷ [], items ∙ ap (λ xs. xs ++ c.args.digest ∷ []) so_far.1 ∙ append_assoc c.args.self.now.appended (c.args.digest ∷ so_far.0) (c.args.digest ∷ [])),
      omega (arith, longer, c.in_ok-add.ensures.more, c.loop-height.invariant.6),
    )

pub returns-clause-only : goal.returns-clause-only
returns-clause-only g c = c.loop-height.invariant.2

pub returns-clause-counted : goal.returns-clause-counted
returns-clause-counted g c =
    let rule = g.F.Family.rule in
    let k = c.loop-height.invariant.3 in
    let y = g.met.F.ParentHeights.Listed.gives_first _ _ _ c.in-None.ensures.steps in
    let fit = parents_fit rule g.F.Family.MAX_LEAVES g.met.F.Family.lawful.equal c.args.leaf c.requires.below k.0 [] (ap (λ xs. k.0 ++ xs) (sym y.0) ∙ k.1) in
    omega (arith, fit, k.2)

pub returns-clause-listed : goal.returns-clause-listed
returns-clause-listed g c =
    let rule = g.F.Family.rule in
    let k = c.loop-height.invariant.3 in
    let y = g.met.F.ParentHeights.Listed.gives_first _ _ _ c.in-None.ensures.steps in
    let fit = parents_fit rule g.F.Family.MAX_LEAVES g.met.F.Family.lawful.equal c.args.leaf c.requires.below k.0 [] (ap (λ xs. k.0 ++ xs) (sym y.0) ∙ k.1) in
    let end : c.loop-height.self.before + length c.loop-height.self.appended ≡ size rule (suc c.args.leaf) = omega (arith, fit, k.2) in
    subst (λ (q : ℕ). AreAdded rule g.F.Family.MAX_LEAVES (size rule c.args.leaf) q c.args.levels.now c.loop-height.levels) end c.loop-height.invariant.4
