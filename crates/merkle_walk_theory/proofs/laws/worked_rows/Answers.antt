use Rattle.std.proofs.Common.{◌≡◌, ℕ, Option, Some, None, refl, ap, arith}
use Rattle.merkle_base.specs.Forest.{forest}
use Rattle.merkle_root_theory.specs.Expression.{Node, Pair, Bytes, Input}
use Rattle.merkle_walk_theory.proofs.laws.worked_rows.Goals as goal

abbrev left_of : Option (Input ℕ) → ℕ
left_of None = 0
left_of (Some x) = elim x.argument [ Pair a b ↦ a | Bytes bs ↦ 0 ]

other_pair : ◌≡◌ {A = Option (Input ℕ)} (Some (record { place = Node 2; argument = Pair 1 3 })) (Some (record { place = Node 2; argument = Pair 3 1 })) → ⊥
other_pair e = omega (arith, ap left_of e)

pub returns : goal.returns
unfolding forest
returns c = record {
  over_own = refl;
  over_left = refl;
  over_none = refl;
  over_equal = refl;
  in_node = refl;
  in_checked = refl;
  in_given = refl;
  among = refl;
  lists = (refl, tt, tt);
  lists_not = λ w. other_pair w.0;
  siblings = refl;
  range = refl;
  range_last = refl;
  over = refl;
  multi = refl;
  pinned = refl;
  pinned_over = refl;
}
