use Rattle.std.proofs.Common.{rules, ◌≡◌, ◌∙◌, ap, nat_eq}
use Rattle.std.proofs.lemmas.Map.Entries.{entries_from_clone}
use Rattle.std.specs.Map.{lookup}
use Rattle.merkle_batch_theory.specs.Held.{Held}
use Rattle.merkle_batch_theory.specs.MemModel.{stored_of}
use Rattle.merkle_draft.proofs.held_nodes.HeldNodes.clone.Goals as goal

pub invariant_of-result : goal.invariant_of-result
invariant_of-result g c =
    let i = c.self.inside in
    let pins : c.in_ok-clone.field-0.entries ≡ i.pins.entries =
    entries_from_clone (λ x y. y ≡ x) g.D.Clone.is_clone (λ x y e. e) g.met.D.Digest.clone_is_same i.pins.entries c.in_ok-clone.field-0.entries c.in_ok-clone.ensures.cases in
    λ p l. ap (λ es. lookup (nat_eq p) es) pins ∙ c.self.invariant p l

pub returns-clause-start : goal.returns-clause-start
returns-clause-start g c = search rules depth 2

pub returns-clause-size : goal.returns-clause-size
returns-clause-size g c = search rules depth 2

pub returns-clause-stored : goal.returns-clause-stored
returns-clause-stored g c =
    let i = c.self.inside in
    let pins : c.in_ok-clone.field-0.entries ≡ i.pins.entries =
    entries_from_clone (λ x y. y ≡ x) g.D.Clone.is_clone (λ x y e. e) g.met.D.Digest.clone_is_same i.pins.entries c.in_ok-clone.field-0.entries c.in_ok-clone.ensures.cases in
    let nodes : c.in_ok-copied.field-0.items ≡ i.nodes.items = c.in_ok-copied.ensures in
    ap (λ es. stored_of es i.start c.in_ok-copied.field-0.items) pins ∙ ap (stored_of i.pins.entries i.start) nodes ∙ ap (λ (h : Held _). h.stored) c.self.view_is
