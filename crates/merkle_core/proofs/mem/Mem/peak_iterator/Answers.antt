use Rattle.std.proofs.Common.{arith, ap, sym, ◌∙◌}
use Rattle.merkle_base.specs.Forest.{size}
use Rattle.merkle_batch_theory.proofs.HeldNodes.{counted_nodes}
use Rattle.merkle_core.proofs.mem.Mem.peak_iterator.Goals as goal

pub size-nodes-requires : goal.size-nodes-requires
size-nodes-requires g c =
    let law = g.met.F.Family.lawful in
    omega (arith, law.limit_fits, counted_nodes g.F.Family.rule g.F.Family.MAX_LEAVES g.F.Family.MAX_NODES c.self.inside.leaves c.self.inside.held.size law c.self.invariant.counted)

pub peaks-requires : goal.peaks-requires
peaks-requires g c = (c.self.inside.leaves, c.self.invariant.counted.bounded, c.self.invariant.counted.sized ∙ sym c.size-nodes.ensures)

pub returns : goal.returns
returns g c =
    let counted = c.self.invariant.counted in
    let leaves = ap (λ s. s.leaves) c.self.view_is in
    c.peaks.ensures c.args.self.now.leaves (omega (arith, leaves, counted.bounded)) (sym (ap (size g.F.Family.rule) leaves) ∙ counted.sized ∙ sym c.size-nodes.ensures)
