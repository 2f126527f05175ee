use Rattle.std.proofs.Common.{◌≡◌, ◌++◌, map, take}
use Rattle.merkle_reconstruction.proofs.known.ComputedNodes.put_parents.Given as goal

abbrev pub invariant-loop-parent : goal.invariant-loop-parent
invariant-loop-parent g l = (l.self.positions.items ≡ l.fn.self.positions.items ++ map (λ n. n.0) (take l.parent-index l.parents)) × (l.self.digests.items ≡ l.fn.self.digests.items)
