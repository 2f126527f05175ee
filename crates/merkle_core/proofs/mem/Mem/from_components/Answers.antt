use Rattle.std.proofs.Common.{rules, ◌≡◌, ◌+◌, ◌≤◌, length, arith, sym, ◌∙◌, subst}
use Rattle.merkle_base.specs.Forest.{size}
use Rattle.merkle_base.specs.Places.{peak_positions}
use Rattle.std.specs.List.{zip}
use Rattle.merkle_batch_theory.specs.Contents.{Agrees}
use Rattle.merkle_batch_theory.specs.MemModel.{MemModel, contents, stored_of}
use Rattle.merkle_batch_theory.proofs.HeldNodes.{kept_counted}
use Rattle.merkle_batch_theory.proofs.HeldWhere.{made_held}
use Rattle.merkle_batch_theory.proofs.HonestComponents.{honest_agrees}
use Rattle.merkle_batch_theory.proofs.PinFacts.{zip_before}
use Rattle.merkle_core.proofs.PinMaps.{stored_made}
use Rattle.merkle_core.proofs.mem.Mem.from_components.Goals as goal

pub from_parts-requires : goal.from_parts-requires
from_parts-requires g c =
    let rule = g.F.Family.rule in
    let peaks = peak_positions rule c.args.pruning_boundary in
    let counted : length c.args.pinned_nodes.items ≡ length peaks = search rules in
    λ p l. c.in-Ok-pair_pins.ensures.made p ∙ zip_before rule c.args.pruning_boundary c.args.pinned_nodes.items counted p (omega (arith, l, c.in-Ok.ensures.start))

pub invariant_of-result : goal.invariant_of-result
invariant_of-result g c =
    let rule = g.F.Family.rule in
    let b = c.args.pruning_boundary in
    let peaks = peak_positions rule b in
    let pins = c.args.pinned_nodes.items in
    let nodes = c.args.nodes.items in
    let held = c.from_parts.result in
    let found : (c.in-Ok.extent.1 ≤ g.F.Family.MAX_LEAVES) × (size rule c.in-Ok.extent.1 ≡ size rule b + length nodes) = search rules in
    let counted : length pins ≡ length peaks = search rules in
    let start : held.start ≡ size rule b = c.from_parts.ensures.start ∙ c.in-Ok.ensures.start in
    let sized : held.size ≡ size rule b + length nodes = omega (arith, c.from_parts.ensures.size, c.in-Ok.ensures.start) in
    kept_counted rule g.F.Family.MAX_LEAVES b c.in-Ok.extent.1 held (record { bounded = found.0; sized = found.1 ∙ sym sized }) start (omega (arith, start, sized))
    (made_held rule b pins nodes counted held sized
    (stored_made rule b c.in-Ok.extent.0 pins nodes c.in-Ok-pair_pins.pins.entries held.stored c.in-Ok-pair_pins.ensures.made
    c.in-Ok.ensures.start c.from_parts.ensures.stored))

pub returns-in-Ok-pair_pins-clause-made : goal.returns-in-Ok-pair_pins-clause-made
returns-in-Ok-pair_pins-clause-made g c =
    let rule = g.F.Family.rule in
    let b = c.args.pruning_boundary in
    let pins = c.args.pinned_nodes.items in
    let nodes = c.args.nodes.items in
    let held = c.from_parts.result in
    let sized : held.size ≡ size rule b + length nodes = omega (arith, c.from_parts.ensures.size, c.in-Ok.ensures.start) in
    let stored : held.stored ≡ stored_of (zip (peak_positions rule b) pins) (size rule b) nodes =
    stored_made rule b c.in-Ok.extent.0 pins nodes c.in-Ok-pair_pins.pins.entries held.stored c.in-Ok-pair_pins.ensures.made c.in-Ok.ensures.start c.from_parts.ensures.stored in
    λ j. record { boundary = b; leaves = c.in-Ok.extent.1; size = sized j; stored = stored j }

pub returns-in-Ok-pair_pins-clause-agrees : goal.returns-in-Ok-pair_pins-clause-agrees
returns-in-Ok-pair_pins-clause-agrees g c = λ h X of.
    let rule = g.F.Family.rule in
    let b = c.args.pruning_boundary in
    let pins = c.args.pinned_nodes.items in
    let nodes = c.args.nodes.items in
    let held = c.from_parts.result in
    let sized : held.size ≡ size rule b + length nodes = omega (arith, c.from_parts.ensures.size, c.in-Ok.ensures.start) in
    let stored : held.stored ≡ stored_of (zip (peak_positions rule b) pins) (size rule b) nodes =
    stored_made rule b c.in-Ok.extent.0 pins nodes c.in-Ok-pair_pins.pins.entries held.stored c.in-Ok-pair_pins.ensures.made c.in-Ok.ensures.start c.from_parts.ensures.stored in
    subst (λ (s : MemModel _). Agrees h rule (contents s) X) (λ j. record { boundary = b; leaves = c.in-Ok.extent.1; size = sym sized j; stored = sym stored j })
    (honest_agrees h rule X b c.in-Ok.extent.1 pins nodes of)
