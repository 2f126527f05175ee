use Rattle.std.proofs.Common.{◌≡◌, ℕ, suc, ◌+◌, ◌<◌, ◌≤◌, ◌++◌, List, length}
use Rattle.merkle_base.specs.Forest.{size}
use Rattle.merkle_base.specs.Heights.{parent_heights}
use Rattle.merkle_restore.specs.HeldParents.{first_wrong, parents_from}
use Rattle.merkle_restore.proofs.damage.compare_parents.Given as goal

abbrev pub invariant-loop-height : goal.invariant-loop-height
invariant-loop-height g l =
    let h = g.H.Hasher.hashing l.hasher in
    let held = (g.B.Base.contents l.base).node in
    let rule = g.F.Family.rule in
    (goal.iterator-loop-height g).can_next l.height-iterator
    × (goal.iterator-loop-height g).is_finite l.height-iterator
    × ((done : List ℕ)
    × (done ++ g.F.ParentHeights.Listed.left l.height-iterator ≡ parent_heights rule l.fn.leaf)
    × (l.position ≡ size rule l.fn.leaf + length done))
    × (l.count ≤ l.position)
    × ((n : ℕ) → l.fn.leaf < n
    → (first_wrong h held (l.fn.waiting.items ++ parents_from rule n held (size rule l.fn.leaf)) ≡ first_wrong h held (l.waiting.items ++ parents_from rule n held (suc l.position)))
    × (l.count + length (parents_from rule n held (suc l.position)) ≡ l.fn.count + length (parents_from rule n held (size rule l.fn.leaf))))
