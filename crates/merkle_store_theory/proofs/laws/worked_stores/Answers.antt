use Rattle.std.proofs.Common.{refl}
use Rattle.merkle_base.specs.Forest.{forest}
use Rattle.merkle_store_theory.proofs.laws.worked_stores.Goals as goal

pub returns : goal.returns
unfolding forest
returns c = record {
  last_pairs = refl;
  last_prefix = refl;
  last_suffix = refl;
  last_shorter = refl;
  last_shorter_whole = refl;
  last_none = refl;
  last_none_proof = refl;
  last_single = refl;
  last_siblings = refl;
  last_own = refl;
  prefix_more = refl;
  prefix_first = refl;
  prefix_same = refl;
  inactive_two = refl;
  inactive_one = refl;
  inactive_none = refl;
  suffix_first = refl;
  suffix_more = refl;
  suffix_inactive = refl;
  three_pairs = refl;
  three_suffix = refl;
  three_proof = refl;
  three_answers = refl;
  fifteen_suffix = refl;
  fifteen_own = refl;
  fifteen_shorter = refl;
  fifteen_single = refl;
  fifteen_sibling = refl;
}
