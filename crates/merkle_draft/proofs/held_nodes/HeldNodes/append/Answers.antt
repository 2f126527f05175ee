use Rattle.std.proofs.Common.{◌≡◌, ℕ, ◌-◌, cond, ap, ◌∙◌, subst}
use Rattle.std.specs.Prelude.{nat_lt, slice_get}
use Rattle.std.specs.FinMap.{get}
use Rattle.merkle_batch_theory.specs.Held.{Held}
use Rattle.merkle_batch_theory.specs.MemModel.{stored_of}
use Rattle.merkle_batch_theory.proofs.HeldNodes.{append_reads}
use Rattle.merkle_draft.proofs.held_nodes.HeldNodes.append.Goals as goal

pub returns-clause-stored : goal.returns-clause-stored
returns-clause-stored g c =
    let i = c.self.inside in
    subst (λ (h : Held _). (p : ℕ)
    → get (stored_of i.pins.entries i.start c.push_all.new.nodes.items) p
    ≡ cond (nat_lt p h.size) (get h.stored p) (slice_get c.args.digests.now (p - h.size))) c.self.view_is
    (λ p. ap (λ ds. get (stored_of i.pins.entries i.start ds) p) c.push_all.ensures.items ∙ append_reads i.pins.entries i.start i.nodes.items c.self.invariant c.args.digests.now p)
