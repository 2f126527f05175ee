use Rattle.std.proofs.Common.{◌++◌, ap, arith, ◌∙◌, length, cond, ◌∷◌, []}
use Rattle.std.specs.Prelude.{◌==◌}
use Rattle.merkle_draft.specs.Levels.{level_at, from_height}
use Rattle.merkle_draft.proofs.LevelLists.{in_lists, level_extended, length_extended, level_pushed, length_pushed}
use Rattle.merkle_draft.proofs.levels.Levels.add.Goals as goal

pub loop-self-preserved : goal.loop-self-preserved
loop-self-preserved g c =
    let old = c.loop-self.self-inside.lists.items in
    let grown = c.in_ok-push.ensures.items in (
      λ h. ap (λ ls. level_at (in_lists ls) h) grown ∙ level_extended old c.new-level.result c.new-level.ensures.items h ∙ c.loop-self.invariant.0 h,
      ap (λ ls. length (from_height (in_lists ls) 0)) grown ∙ length_extended old c.new-level.result c.new-level.ensures.items ∙ c.loop-self.invariant.1,
      omega (arith, c.in_ok-push.ensures.len, c.loop-self.invariant.2, c.len.ensures, c.loop-self-test.true, c.requires),
    )

pub returns-clause-pushed : goal.returns-clause-pushed
returns-clause-pushed g c = λ h.
    level_pushed c.loop-self.self-inside.lists.items c.args.height c.index_mut.result.now c.push-2.new.self c.args.position
    (omega (arith, c.len.ensures, c.loop-self-test.false)) c.index_mut.ensures.value c.in_ok-push-2.ensures.items h
    ∙ ap (λ xs. xs ++ cond (h == c.args.height) (c.args.position ∷ []) []) (c.loop-self.invariant.0 h)

pub returns-clause-more : goal.returns-clause-more
returns-clause-more g c = omega (
  arith,
  length_pushed c.loop-self.self-inside.lists.items c.args.height c.index_mut.result.now c.push-2.new.self c.args.position
      (omega (arith, c.len.ensures, c.loop-self-test.false)) c.index_mut.ensures.value c.in_ok-push-2.ensures.items,
  c.loop-self.invariant.1,
)
