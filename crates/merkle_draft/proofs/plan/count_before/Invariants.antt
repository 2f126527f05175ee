use Rattle.std.specs.Prelude.{◌≡◌, ◌+◌, ◌≤◌, length, drop}
use Rattle.merkle_draft.specs.DirtyLeaves.{are_before}
use Rattle.merkle_draft.proofs.plan.count_before.Given as goal

abbrev pub invariant-loop-i : goal.invariant-loop-i
invariant-loop-i g l = (l.i ≤ length l.positions) × (are_before l.positions l.end ≡ l.i + are_before (drop l.i l.positions) l.end)
