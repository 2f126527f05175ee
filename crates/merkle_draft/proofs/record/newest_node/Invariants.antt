use Rattle.std.proofs.Common.{◌≡◌, ◌≤◌, map, take, length}
use Rattle.merkle_batch_theory.specs.Read.{newest}
use Rattle.merkle_draft.proofs.record.newest_node.Given as goal

abbrev pub invariant-loop-i : goal.invariant-loop-i
invariant-loop-i g l =
    (l.i ≤ length l.records)
    × (newest (map (λ r. r.value) l.records) l.position ≡ newest (take l.i (map (λ r. r.value) l.records)) l.position)

abbrev pub decreases-loop-i : goal.decreases-loop-i
decreases-loop-i g l = l.i
