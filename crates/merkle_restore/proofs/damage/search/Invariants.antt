use Rattle.std.proofs.Common.{◌≡◌, ◌+◌, ◌≤◌, ◌++◌, length}
use Rattle.merkle_base.specs.Forest.{size}
use Rattle.merkle_restore.specs.HeldParents.{first_wrong, parents_from}
use Rattle.merkle_restore.proofs.damage.search.Given as goal

abbrev pub invariant-loop-leaf : goal.invariant-loop-leaf
invariant-loop-leaf g l =
    let h = g.H.Hasher.hashing l.hasher in
    let held = (g.B.Base.contents l.base).node in
    let rule = g.F.Family.rule in
    let n = g.B.Base.leaves l.base in
    let from = size rule (g.B.Base.contents l.base).boundary in
    (l.count ≤ size rule l.leaf)
    × (first_wrong h held (parents_from rule n held from) ≡ first_wrong h held (l.waiting.items ++ parents_from rule n held (size rule l.leaf)))
    × (l.count + length (parents_from rule n held (size rule l.leaf)) ≡ length (parents_from rule n held from))
