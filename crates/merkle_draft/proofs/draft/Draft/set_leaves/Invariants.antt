use Rattle.std.proofs.Common.{◌≡◌, map}
use Rattle.merkle_draft.proofs.ChangedLeaves.{Taken}
use Rattle.merkle_draft.proofs.draft.Draft.set_leaves.Given as goal

abbrev pub invariant-loop-position : goal.invariant-loop-position
invariant-loop-position g l =
    (l.self-inside.size_before ≡ l.fn.self.before) × (map (λ r. r.value) l.self-inside.kept.items ≡ l.fn.self.kept) × (l.self-inside.appended.items ≡ l.fn.self.appended)
    × Taken l.updates.entries l.position-iterator l.self-inside.overwrites l.positions.items
