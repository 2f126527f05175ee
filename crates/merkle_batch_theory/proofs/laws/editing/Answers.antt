use Rattle.merkle_batch_theory.proofs.Edits.{edited_length, added, overwritten, replaced_new}
use Rattle.merkle_batch_theory.proofs.laws.editing.Goals as goal

pub returns : goal.returns
returns g c = record { length = edited_length; added = added; overwritten = overwritten; replaced = replaced_new }
