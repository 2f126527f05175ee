use Rattle.std.proofs.Common.{◌≡◌, ◌++◌, map, take}
use Rattle.std.specs.List.{zip}
use Rattle.merkle_proof.proofs.leaves.push_located.Given as goal

abbrev pub invariant-loop-index : goal.invariant-loop-index
invariant-loop-index g l = l.located.items ≡ l.fn.located.items ++ zip (map (λ e. e.1) (take l.index l.elements)) (take l.index l.digests)
