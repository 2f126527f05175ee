use Rattle.std.proofs.Common.{sym, ◌∙◌, ap}
use Rattle.std.specs.FinMap.{get}
use Rattle.merkle_batch_theory.proofs.MapFacts.{get_entries, no_entry}
use Rattle.merkle_draft.proofs.overwrites.Overwrites.get.Goals as goal

pub returns : goal.returns
returns g c = c.copied.ensures ∙ c.get.ensures.value ∙ sym (get_entries c.self.inside.nodes.entries c.args.position) ∙ ap (λ m. get m c.args.position) c.self.view_is

pub returns-then-is_empty : goal.returns-then-is_empty
returns-then-is_empty g c = sym (no_entry c.self.inside.nodes.entries (c.is_empty.ensures.0 c.if-is_empty.true) c.args.position) ∙ ap (λ m. get m c.args.position) c.self.view_is
