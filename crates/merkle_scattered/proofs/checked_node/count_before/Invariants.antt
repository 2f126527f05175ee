use Rattle.std.proofs.Common.{◌≡◌, ◌+◌, ◌≤◌, length, drop}
use Rattle.merkle_scattered.specs.Confirmed.{located_before}
use Rattle.merkle_scattered.proofs.checked_node.count_before.Given as goal

abbrev pub invariant-loop-i : goal.invariant-loop-i
invariant-loop-i g l =
    (l.from ≤ l.i) × (l.i ≤ length l.located) × (l.from + located_before l.end (drop l.from l.located) ≡ l.i + located_before l.end (drop l.i l.located))
