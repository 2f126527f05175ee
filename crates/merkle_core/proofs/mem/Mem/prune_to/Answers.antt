use Rattle.std.proofs.Common.{rules, ◌≡◌, ◌<◌, ℕ, arith, ap, sym, ◌∙◌, cond, nat_eq, subst}
use Rattle.std.specs.Prelude.{nat_lt}
use Rattle.std.specs.FinMap.{get}
use Rattle.std.specs.Map.{lookup}
use Rattle.merkle_base.specs.Places.{peak_positions}
use Rattle.merkle_base.proofs.Nodes.{size_le}
use Rattle.merkle_batch_theory.specs.Contents.{HoldsKept, pruned}
use Rattle.merkle_batch_theory.specs.Held.{held_contents}
use Rattle.merkle_batch_theory.specs.HeldPeaks.{pins_of}
use Rattle.merkle_batch_theory.specs.MemModel.{contents}
use Rattle.merkle_batch_theory.proofs.HeldWhere.{pruned_held}
use Rattle.merkle_batch_theory.proofs.PinFacts.{pins_before, pruned_contents}
use Rattle.merkle_core.proofs.mem.Mem.prune_to.Goals as goal

pub drop_before-requires-clause-later : goal.drop_before-requires-clause-later
drop_before-requires-clause-later g c =
    let i = c.self.inside in
    let later : i.boundary < c.args.location = search rules in
    omega (arith, c.location_to_position.ensures, c.self.invariant.starts, size_le g.F.Family.rule i.boundary c.args.location (omega (arith, later)))

pub drop_before-requires-clause-within : goal.drop_before-requires-clause-within
drop_before-requires-clause-within g c =
    let i = c.self.inside in
    let leaves = ap (λ s. s.leaves) c.self.view_is in
    omega (arith, c.location_to_position.ensures, c.self.invariant.counted.sized, size_le g.F.Family.rule c.args.location i.leaves (omega (arith, leaves, c.requires)))

pub drop_before-requires-clause-before : goal.drop_before-requires-clause-before
drop_before-requires-clause-before g c = λ p l.
    c.in_ok-pins.ensures p ∙ pins_before g.F.Family.rule c.args.location (contents c.args.self.now) p (omega (arith, l, c.location_to_position.ensures))

pub invariant_of-self : goal.invariant_of-self
invariant_of-self g c =
    let rule = g.F.Family.rule in
    let i = c.self.inside in
    let later : i.boundary < c.args.location = search rules in
    let leaves = ap (λ s. s.leaves) c.self.view_is in
    let pins : (p : ℕ) → lookup (nat_eq p) c.in_ok-pins.pins.entries ≡ lookup (nat_eq p) (pins_of (held_contents i.boundary i.held) (peak_positions rule c.args.location)) =
    λ p. c.in_ok-pins.ensures p ∙ ap (λ s. lookup (nat_eq p) (pins_of (contents s) (peak_positions rule c.args.location))) (sym c.self.view_is) in
    let new = pruned_contents rule i.boundary c.args.location i.held c.drop_before.new.self
    (λ p. c.drop_before.ensures.stored p ∙ (λ j. cond (nat_lt p (c.location_to_position.ensures j)) (pins p j) (get i.held.stored p))) later
    c.drop_before.ensures.size in
    record {
      starts = c.drop_before.ensures.start ∙ c.location_to_position.ensures;
      within = omega (arith, leaves, c.requires);
      counted = record { bounded = c.self.invariant.counted.bounded; sized = c.self.invariant.counted.sized ∙ sym c.drop_before.ensures.size };
      holds = subst (HoldsKept rule) (sym new) (pruned_held rule c.args.location (held_contents i.boundary i.held) c.self.invariant.holds);
    }

pub returns-clause-counted : goal.returns-clause-counted
returns-clause-counted g c = ap (λ s. s.leaves) c.self.view_is

pub returns-clause-pruned : goal.returns-clause-pruned
returns-clause-pruned g c =
    let rule = g.F.Family.rule in
    let i = c.self.inside in
    let later : i.boundary < c.args.location = search rules in
    let pins : (p : ℕ) → lookup (nat_eq p) c.in_ok-pins.pins.entries ≡ lookup (nat_eq p) (pins_of (held_contents i.boundary i.held) (peak_positions rule c.args.location)) =
    λ p. c.in_ok-pins.ensures p ∙ ap (λ s. lookup (nat_eq p) (pins_of (contents s) (peak_positions rule c.args.location))) (sym c.self.view_is) in
    pruned_contents rule i.boundary c.args.location i.held c.drop_before.new.self
    (λ p. c.drop_before.ensures.stored p ∙ (λ j. cond (nat_lt p (c.location_to_position.ensures j)) (pins p j) (get i.held.stored p))) later
    c.drop_before.ensures.size
    ∙ ap (λ s. pruned rule c.args.location (contents s)) c.self.view_is

pub returns-then-le-clause-pruned : goal.returns-then-le-clause-pruned
returns-then-le-clause-pruned g c = search rules depth 2
