use Rattle.std.proofs.Common.{rules, arith, length, inl, inr}
use Rattle.std.proofs.lemmas.Bool.{cases_lt}
use Rattle.merkle_draft.proofs.LevelLists.{in_lists, level_cleared, level_past, lists_many}
use Rattle.merkle_draft.proofs.levels.Levels.clear.Goals as goal

pub loop-height-preserved : goal.loop-height-preserved
loop-height-preserved g c =
    (search rules, level_cleared c.loop-height.self-inside.lists.items c.loop-height.height c.clear.new.self c.clear.ensures.items c.loop-height.invariant.1)

pub returns : goal.returns
returns g c = λ h.
    let lists = c.loop-height.self-inside.lists.items in
    elim (cases_lt h (length lists)) [
      | inl low ↦ c.loop-height.invariant.1 h (omega (arith, low, c.loop-height.invariant.0, c.loop-height-test.false, c.len-height-end.ensures))
      | inr past ↦ level_past (in_lists lists) h (omega (arith, lists_many lists, past))
    ]
