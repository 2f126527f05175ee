use Rattle.std.proofs.Common.{◌≡◌, ◌≤◌, refl, inl, inr, arith, true, false, Some, None}
use Rattle.merkle_base.specs.Tree.{leaf}
use Rattle.merkle_base.specs.Forest.{forest}
use Rattle.merkle_batch_theory.proofs.SmallCases.{edit_row, newest_row, applied_row, pruned_row, stands_row, over_row, exchange_row, none_row, added_row, updated_row}
use Rattle.merkle_batch_theory.proofs.AppliedRows.{differs_row, foreign_row, held_row, made_row, own_row, stands_exchange}
use Rattle.merkle_batch_theory.proofs.laws.worked_rows.Goals as goal

pub returns : goal.returns
unfolding forest
returns c = record {
  leaves = refl;
  digests = refl;
  peaks = refl;
  forward_root = refl;
  forward_root_one = refl;
  backward_root = refl;
  backward_root_one = refl;
  empty_root = (refl, refl);
  count_leaf = refl;
  count_eight = refl;
  count_three = refl;
  count_all = refl;
  count_new = refl;
  edit = edit_row;
  reads = newest_row;
  matched = refl;
  matched_later = refl;
  stale = (refl, refl);
  dropped = refl;
  stale_of_that_size = refl;
  applies = applied_row;
  prunes = pruned_row;
  stands = stands_row;
  needs = (inl (2, leaf 0 0, leaf 1 1, refl, refl, inr refl), omega arith, refl);
  collide = (2, leaf 0 0, leaf 1 1, refl, refl, λ d. absurd (cc));
  exchange_stands = stands_exchange;
  exchange_collides = (2, leaf 0 0, leaf 1 1, refl, refl, λ d. absurd (cc));
  exchange_matched = refl;
  own_agrees = own_row;
  own_applies = refl;
  own_before = λ a. absurd (let e : Some 1 ≡ Some 3 = a.holds 0 in cc);
  foreign_agrees = foreign_row;
  foreign_applies = refl;
  foreign_differs = differs_row;
  holds_all = held_row;
  holds_too_many = λ a. absurd (let e : true ≡ false = a 0 in cc);
  holds_too_few = λ a. absurd (let e : false ≡ true = a 0 in cc);
  makes = made_row;
  replaces = refl;
  added_leaves = refl;
  touches = refl;
  dirty_unneeded = λ n. absurd (let e : true ≡ false = n.2 in cc);
  new_unneeded = λ n. absurd (omega (arith, n.1));
  unmatched = refl;
  unmatched_later = refl;
  unmatched_size = refl;
  unmatched_size_later = refl;
  matched_newest = refl;
  matched_oldest = refl;
  accepts_later = refl;
  stale_below = refl;
  forks = (refl, refl);
  refuses = refl;
  agrees = record { sized = refl; bounded = omega arith; holds = λ p. refl };
  agrees_otherwise = λ a. absurd (let e : Some 2 ≡ Some 4 = a.holds 7 in cc);
  agrees_unpruned = λ a. absurd (let e : Some 1 ≡ None = a.holds 0 in cc);
  agrees_partly = λ a. absurd (let e : None ≡ Some 1 = a.holds 0 in cc);
  agrees_shorter = λ a. absurd (let e : 7 ≡ 8 = a.sized in cc);
  agrees_beyond = λ a. absurd (let e : 6 ≤ 5 = a.bounded in omega arith);
  held = refl;
  applied_size = refl;
  applied_boundary = refl;
  pruned_size = refl;
  pruned_again = refl;
  reads_over = over_row;
  keeps = refl;
  keeps_lists = refl;
  keeps_overwritten = exchange_row;
  keeps_none = none_row;
  lets_go = refl;
  adds = added_row;
  updates = updated_row;
  sets = refl;
  errors = refl;
  first_of_errors = refl;
  both_errors = refl;
}
