use Rattle.std.proofs.Common.{◌≡◌, refl, Some, None}
use Rattle.merkle_base.specs.Forest.{forest}
use Rattle.merkle_root_theory.specs.Expression.{Node, Pair}
use Rattle.merkle_pins_theory.proofs.laws.worked_rows.Goals as goal

some_none : {A : Type 0} (x : A) → Some x ≡ None → ⊥
some_none x e = cc

pub returns : goal.returns
unfolding forest
returns c = record {
  rebuilt = refl;
  pins_swapped = refl;
  pins_clear = refl;
  value_before = refl;
  value_other = refl;
  children_before = refl;
  children_pinned = refl;
  children_over = refl;
  children_after = refl;
  pinned_over = refl;
  seen_down = (refl, tt, tt);
  not_seen = λ w. absurd (some_none (record { place = Node 2; argument = Pair 1 3 }) w.0);
}
