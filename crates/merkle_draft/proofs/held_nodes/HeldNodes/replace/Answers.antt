use Rattle.std.proofs.Common.{rules, ◌≡◌, ◌<◌, ℕ, slice_set, subst, ap, sym, ◌∙◌, nat_eq, None}
use Rattle.std.specs.BTreeMap.{is_at}
use Rattle.std.specs.FinMap.{get}
use Rattle.std.specs.Map.{lookup}
use Rattle.std.specs.Ordering.{nat_cmp}
use Rattle.merkle_batch_theory.specs.Held.{Held}
use Rattle.merkle_batch_theory.specs.MemModel.{stored_of}
use Rattle.merkle_batch_theory.proofs.HeldNodes.{replaced, put_reads, set_reads, unset_reads}
use Rattle.merkle_draft.proofs.ReplacedPins.{lookup_set, set_before, unset_pin}
use Rattle.merkle_draft.proofs.held_nodes.HeldNodes.replace.Goals as goal

pub invariant_of-self : goal.invariant_of-self
invariant_of-self g c =
    let i = c.self.inside in
    set_before c.args.position c.args.digest i.start i.pins.entries (c.get_mut.follows.lender c.args.digest).entries c.self.invariant (c.get_mut.follows.holds c.args.digest).0

pub returns-in-Some-clause-stored : goal.returns-in-Some-clause-stored
returns-in-Some-clause-stored g c =
    let i = c.self.inside in
    let at = c.args.position in
    let d = c.args.digest in
    let pins = (c.get_mut.follows.lender d).entries in
    let below : at < i.start = search rules in
    subst (λ (h : Held _). (p : ℕ) → get (stored_of pins i.start i.nodes.items) p ≡ replaced at d p (get h.stored p)) c.self.view_is
    (put_reads at d i.pins.entries i.start i.nodes.items c.self.invariant pins below (λ p. ap (λ es. lookup (nat_eq p) es) (c.get_mut.follows.holds d).0 ∙ lookup_set at d p i.pins.entries))

pub returns-in_default-clause-stored : goal.returns-in_default-clause-stored
returns-in_default-clause-stored g c =
    let i = c.self.inside in
    let at = c.args.position in
    let d = c.args.digest in
    let below : at < i.start = search rules in
    let none : lookup (is_at (nat_cmp at)) i.pins.entries ≡ None = search rules in
    subst (λ (h : Held _). (p : ℕ) → get (stored_of c.get_mut.follows.lender-at-none.entries i.start i.nodes.items) p ≡ replaced at d p (get h.stored p)) c.self.view_is
    (subst (λ es. (p : ℕ) → get (stored_of es i.start i.nodes.items) p ≡ replaced at d p (get (stored_of i.pins.entries i.start i.nodes.items) p))
    (sym (ap (λ m. m.entries) c.get_mut.follows.holds-at-none))
    (unset_pin at d i.pins.entries i.start i.nodes.items below none))

pub returns-in-Some-get_mut-clause-stored : goal.returns-in-Some-get_mut-clause-stored
returns-in-Some-get_mut-clause-stored g c =
    let i = c.self.inside in
    let at = c.args.position in
    let d = c.args.digest in
    subst (λ (h : Held _). (p : ℕ) → get (stored_of i.pins.entries i.start (slice_set i.nodes.items c.as_u64.result d)) p ≡ replaced at d p (get h.stored p)) c.self.view_is
    (set_reads at d i.pins.entries i.start i.nodes.items c.self.invariant c.as_u64.result (search rules) (search rules) (search rules))

pub returns-in_default-get_mut-clause-stored : goal.returns-in_default-get_mut-clause-stored
returns-in_default-get_mut-clause-stored g c =
    let i = c.self.inside in
    let at = c.args.position in
    let d = c.args.digest in
    subst (λ (h : Held _). (p : ℕ) → get (stored_of i.pins.entries i.start i.nodes.items) p ≡ replaced at d p (get h.stored p)) c.self.view_is
    (unset_reads at d i.pins.entries i.start i.nodes.items c.self.invariant (search rules) (search rules))
