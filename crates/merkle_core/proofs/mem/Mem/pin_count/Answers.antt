use Rattle.std.proofs.Common.{◌≡◌, length, ap, sym, ◌∙◌}
use Rattle.std.proofs.lemmas.Iterator.Consumers.{count_from_yields_List, YieldsList-from_first}
use Rattle.merkle_base.specs.Places.{peak_positions}
use Rattle.merkle_batch_theory.specs.MemModel.{MemModel}
use Rattle.merkle_core.proofs.WholeMem.{pins_held}
use Rattle.merkle_core.proofs.mem.Mem.pin_count.Goals as goal

pub returns : goal.returns
returns g c =
    let rule = g.F.Family.rule in
    let i = c.self.inside in
    let all = peak_positions rule i.boundary in
    let counted : c.count.result ≡ length all = count_from_yields_List c.nodes_to_pin.result _ c.count.ensures.ran (YieldsList-from_first (λ x. x) (λ s. s) all c.nodes_to_pin.ensures.peaks) in
    counted ∙ ap (λ (m : MemModel _). length (peak_positions rule m.boundary)) c.self.view_is
    ∙ sym (pins_held rule g.F.Family.MAX_LEAVES i.boundary i.leaves i.held c.args.self.now c.self.invariant c.self.view_is)
