use Rattle.std.proofs.Common.{arith, ap, ◌∙◌}
use Rattle.merkle_batch_theory.proofs.HeldNodes.{counted_nodes}
use Rattle.merkle_core.proofs.mem.Mem.size.Goals as goal

pub size-requires : goal.size-requires
size-requires g c =
    let law = g.met.F.Family.lawful in
    omega (arith, law.limit_fits, counted_nodes g.F.Family.rule g.F.Family.MAX_LEAVES g.F.Family.MAX_NODES c.self.inside.leaves c.self.inside.held.size law c.self.invariant.counted)

pub returns : goal.returns
returns g c = c.size.ensures ∙ ap (λ s. s.size) c.self.view_is
