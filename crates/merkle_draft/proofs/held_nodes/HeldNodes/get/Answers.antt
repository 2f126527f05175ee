use Rattle.std.proofs.Common.{◌≡◌, ◌-◌, ◌<◌, ◌≤◌, sym, ◌∙◌, ap, rules}
use Rattle.std.specs.FinMap.{get}
use Rattle.std.specs.List.{slice_get}
use Rattle.merkle_batch_theory.specs.Held.{Held}
use Rattle.merkle_batch_theory.proofs.Stored.{get_reads, held_before, held_from, lookup_at}
use Rattle.merkle_draft.proofs.held_nodes.HeldNodes.get.Goals as goal

pub returns-then-lt : goal.returns-then-lt
returns-then-lt g c =
    let i = c.self.inside in
    let below : c.args.position < i.start = search rules in
    c.copied.ensures ∙ c.get.ensures.value ∙ lookup_at c.args.position i.pins.entries ∙ sym (held_before i.pins.entries i.start i.nodes.items c.args.position below)
    ∙ ap (λ (s : Held _). get s.stored c.args.position) c.self.view_is

pub returns-else-lt : goal.returns-else-lt
returns-else-lt g c =
    let i = c.self.inside in
    let from : i.start ≤ c.args.position = search rules in
    let offset : c.as_u64.result ≡ c.args.position - i.start = search rules in
    c.copied-else-lt.ensures ∙ get_reads i.nodes.items c.as_u64.result c.get-else-lt.result c.get-else-lt.ensures.item ∙ ap (slice_get i.nodes.items) offset
    ∙ sym (held_from i.pins.entries i.start i.nodes.items c.args.position from (c.self.invariant c.args.position from)) ∙ ap (λ (s : Held _). get s.stored c.args.position) c.self.view_is
