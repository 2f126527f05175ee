use Rattle.std.proofs.Common.{ap, ◌∙◌}
use Rattle.merkle_core.proofs.mem.Mem.bounds.Goals as goal

pub returns-clause-start : goal.returns-clause-start
returns-clause-start g c = ap (λ s. s.boundary) c.self.view_is

pub returns-clause-end : goal.returns-clause-end
returns-clause-end g c = ap (λ s. s.leaves) c.self.view_is

pub returns-clause-ordered : goal.returns-clause-ordered
returns-clause-ordered g c = c.self.invariant.within

pub returns-clause-sized : goal.returns-clause-sized
returns-clause-sized g c = c.self.invariant.counted.sized ∙ ap (λ s. s.size) c.self.view_is

pub returns-clause-bounded : goal.returns-clause-bounded
returns-clause-bounded g c = c.self.invariant.counted.bounded
