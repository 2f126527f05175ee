use Rattle.std.proofs.Common.{slice_get, ap, sym, ◌∙◌}
use Rattle.merkle_batch_theory.proofs.Stored.{get_reads}
use Rattle.merkle_audit_parts.proofs.PinLookups.{at_index, digest_by_index}
use Rattle.merkle_audit_parts.proofs.pin_nodes.PinnedNodes.pin.Goals as goal

pub returns-in-Some : goal.returns-in-Some
returns-in-Some g c =
    c.copied.ensures ∙ get_reads c.deref.result.now c.in-Some.index c.get.result c.get.ensures.lookup
    ∙ ap (λ ds. slice_get ds c.in-Some.index) c.deref.ensures.value
    ∙ ap (at_index c.args.self.now.pins.items) (sym c.in-Some.is ∙ c.index.ensures) ∙ sym (digest_by_index c.args.self.now.positions.items c.args.self.now.pins.items c.args.node)

pub returns-in-None : goal.returns-in-None
returns-in-None g c =
    ap (at_index c.args.self.now.pins.items) (sym c.in-None.is ∙ c.index.ensures) ∙ sym (digest_by_index c.args.self.now.positions.items c.args.self.now.pins.items c.args.node)
