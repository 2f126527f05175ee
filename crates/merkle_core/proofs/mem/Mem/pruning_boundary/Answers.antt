use Rattle.std.proofs.Common.{arith, ap}
use Rattle.merkle_core.proofs.mem.Mem.pruning_boundary.Goals as goal

pub returns-clause-boundary : goal.returns-clause-boundary
returns-clause-boundary g c = ap (λ s. s.boundary) c.self.view_is

pub returns-clause-within : goal.returns-clause-within
returns-clause-within g c = omega (arith, c.self.invariant.within, ap (λ s. s.leaves) c.self.view_is)
