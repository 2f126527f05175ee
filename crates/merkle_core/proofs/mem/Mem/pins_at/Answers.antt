use Rattle.std.proofs.Common.{sym, ◌∙◌, ap, nat_eq}
use Rattle.std.specs.Map.{lookup}
use Rattle.std.specs.Option.{option_or}
use Rattle.merkle_batch_theory.specs.HeldPeaks.{pins_of}
use Rattle.merkle_batch_theory.specs.MemModel.{contents}
use Rattle.merkle_core.proofs.PinMaps.{lookup_put_in, pin_some}
use Rattle.merkle_core.proofs.mem.Mem.pins_at.Goals as goal

pub loop-position-preserved-in_ok-insert : goal.loop-position-preserved-in_ok-insert
loop-position-preserved-in_ok-insert g c =
    let held = contents c.args.self.now in
    let q = c.in-Some.position in
    let d = c.in-Some-get_node.digest in
    let old = c.loop-position.pins.entries in
    let new = c.insert.new.self.entries in (
      tt,
      tt,
      (λ p. pin_some held p q d c.next.new.self old new (sym c.in-Some-get_node.ensures.node) (lookup_put_in old new q d c.in_ok-insert.ensures.updates.0 p)
          ∙ sym (ap (λ ps. option_or (lookup (nat_eq p) (pins_of held ps)) (lookup (nat_eq p) old)) c.in-Some.ensures.steps) ∙ c.loop-position.invariant.2 p),
    )

pub returns : goal.returns
returns g c = λ p.
    let held = contents c.args.self.now in
    let old = c.loop-position.pins.entries in
    sym (ap (λ ps. option_or (lookup (nat_eq p) (pins_of held ps)) (lookup (nat_eq p) old)) c.in-None.ensures.steps.0) ∙ c.loop-position.invariant.2 p
