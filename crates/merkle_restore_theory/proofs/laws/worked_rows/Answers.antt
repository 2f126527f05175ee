use Rattle.std.proofs.Common.{◌≡◌, false, true, refl}
use Rattle.merkle_base.specs.Forest.{forest}
use Rattle.merkle_restore_theory.proofs.SmallDamage.{whole_row, damaged_row, first_row, second_row, not_first_row}
use Rattle.merkle_restore_theory.proofs.laws.worked_rows.Goals as goal

pub returns : goal.returns
unfolding forest
returns c = record {
  whole = whole_row;
  damaged = damaged_row;
  first = first_row;
  second = second_row;
  not_first = not_first_row;
  taken = refl;
  hashed = refl;
  value = refl;
  no_leaf = refl;
  children = (refl, refl);
  no_children = λ w. absurd (let e : false ≡ true = w.0 in cc);
  merged = refl;
  merged_later = refl;
  merged_none = refl;
}
