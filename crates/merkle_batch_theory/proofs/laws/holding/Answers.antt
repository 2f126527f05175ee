use Rattle.std.proofs.Common.{refl}
use Rattle.std.specs.FinMap.{get-empty}
use Rattle.std.specs.Ordering.{nat_cmp}
use Rattle.merkle_batch_theory.specs.Components.{made_of}
use Rattle.merkle_batch_theory.specs.MemModel.{contents, no_leaves}
use Rattle.merkle_batch_theory.proofs.HeldWhere.{nothing_held, made_held, pruned_held, with_records_held, many_held}
use Rattle.merkle_batch_theory.proofs.laws.holding.Goals as goal

pub returns : goal.returns
returns g c = record {
  none = λ rule. nothing_held rule (contents no_leaves) refl (λ p. get-empty nat_cmp p);
  made = λ rule b n pins nodes as_many. let m = made_of rule b n pins nodes in
      made_held rule b pins nodes as_many (record { start = 0; size = m.size; stored = m.stored; capacity = 0 }) refl refl;
  pruned = pruned_held;
  replayed = with_records_held;
  peaks = many_held;
}
