use Rattle.std.proofs.Common.{arith, ap}
use Rattle.merkle_base.specs.Forest.{size}
use Rattle.merkle_batch_theory.specs.MemModel.{MemModel}
use Rattle.merkle_core.proofs.WholeMem.{nodes_held, starts_within}
use Rattle.merkle_core.proofs.mem.Mem.node_count.Goals as goal

pub sub-requires : goal.sub-requires
sub-requires g c =
    let rule = g.F.Family.rule in
    let i = c.self.inside in
    let within = starts_within rule g.F.Family.MAX_LEAVES i.boundary i.leaves i.held c.args.self.now c.self.invariant c.self.view_is in
    let start = ap (λ (m : MemModel _). size rule m.boundary) c.self.view_is in
    omega (arith, within, start, c.size.ensures, c.location_to_position-start.ensures)

pub returns : goal.returns
returns g c =
    let rule = g.F.Family.rule in
    let i = c.self.inside in
    let many = nodes_held rule g.F.Family.MAX_LEAVES i.boundary i.leaves i.held c.args.self.now c.self.invariant c.self.view_is in
    let start = ap (λ (m : MemModel _). size rule m.boundary) c.self.view_is in
    omega (arith, many, start, c.size.ensures, c.location_to_position-start.ensures)
