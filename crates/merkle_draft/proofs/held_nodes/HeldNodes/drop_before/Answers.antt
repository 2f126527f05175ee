use Rattle.std.proofs.Common.{rules, ◌≡◌, ℕ, ◌-◌, ◌≤◌, drop, cond, ap, subst, arith, nat_eq}
use Rattle.std.specs.Prelude.{nat_lt}
use Rattle.std.specs.FinMap.{get}
use Rattle.std.specs.Map.{lookup}
use Rattle.merkle_batch_theory.specs.Held.{Held}
use Rattle.merkle_batch_theory.specs.MemModel.{stored_of}
use Rattle.merkle_batch_theory.proofs.HeldNodes.{drop_reads}
use Rattle.merkle_draft.proofs.held_nodes.HeldNodes.drop_before.Goals as goal

pub returns-clause-stored : goal.returns-clause-stored
returns-clause-stored g c =
    let i = c.self.inside in
    let nodes = c.drop-drain.new.self.0.items in
    let rest : nodes ≡ drop (c.args.start - i.start) i.nodes.items = search rules in
    let later : i.start ≤ c.args.start = omega (arith, c.requires.later, ap (λ (h : Held _). h.start) c.self.view_is) in
    subst (λ (h : Held _). (p : ℕ) → get (stored_of c.args.pins.entries c.args.start nodes) p ≡ cond (nat_lt p c.args.start) (lookup (nat_eq p) c.args.pins.entries) (get h.stored p)) c.self.view_is
    (drop_reads i.pins.entries i.start i.nodes.items c.self.invariant c.args.pins.entries c.args.start nodes c.requires.before later rest)
