use Rattle.std.proofs.Common.{◌≡◌, ◌+◌, ◌++◌, take}
use Rattle.std.specs.VecDeque.{deque_len, deque_capacity}
use Rattle.merkle_draft.proofs.held_nodes.push_all.Given as goal

abbrev pub invariant-loop-digest : goal.invariant-loop-digest
invariant-loop-digest g l =
    (deque_len l.nodes ≡ deque_len l.initial.nodes + l.digest-index) × (deque_capacity l.nodes ≡ deque_capacity l.initial.nodes)
    × (l.nodes.items ≡ l.initial.nodes.items ++ take l.digest-index l.digests)
