use Rattle.std.proofs.Common.{◌≡◌, ℕ, ◌+◌, ◌^◌, ◌<◌, suc, ap, ◌∙◌, sym, subst, arith}
use Rattle.std.specs.List.{range_with_len}
use Rattle.merkle_base.specs.Forest.{size}
use Rattle.merkle_base.specs.Tree.{height, first_leaf, width}
use Rattle.merkle_forest_theory.specs.Mmr.{mmr_merges}
use Rattle.merkle_base.proofs.Nodes.{node_anywhere}
use Rattle.merkle_base.proofs.Balance.{node_balanced, balanced_count}
use Rattle.merkle_forest_theory.proofs.Digits.{ends_trailing}
use Rattle.merkle_forest_theory.proofs.Existence.{mmr_exists}
use Rattle.merkle_forest_theory.proofs.RangeLawful.{mmr_lawful, mmr_size, mmr_peak_count, mmr_ascends}
use Rattle.merkle_forest_theory.proofs.MountainRange.{mmr_parents, mmr_children, mmr_place, mmr_born, mmr_equal}
use Rattle.merkle_forest_theory.proofs.Coordinates.{mmr_coordinates}
use Rattle.merkle_forest_theory.proofs.PeakCounts.{mmr_few}
use Rattle.merkle_forest_theory.proofs.laws.mountain_range.Goals as goal

pub returns : goal.returns
returns c = record {
  lawful = mmr_lawful;
  size = mmr_size;
  parents = λ n l. (let k = mmr_parents n in k.1 ∙ ap (range_with_len 1) (sym (ends_trailing k.0 n k.2 l)));
  peaks = λ n. (mmr_peak_count n, mmr_ascends n);
  children = mmr_children;
  place = λ n p t e. (let d : height t + 1 ≡ suc (height t) = omega arith in omega (arith, mmr_place n p t e, ap (λ (x : ℕ). 2 ^ x) d));
  birth = λ n p t e.
      (let k = mmr_born n p t e in
      let d : width t ≡ 2 ^ height t = balanced_count t (node_balanced mmr_merges n (mmr_equal n) n p t (omega arith) e) in (
        node_anywhere mmr_merges n (first_leaf t + 2 ^ height t) p t e (subst (λ (x : ℕ). p < size mmr_merges (first_leaf t + x)) d k.present),
        λ m l. k.absent m (omega (arith, d)),
      ));
  aligned = λ n p t e. (mmr_born n p t e).aligned;
  range_has = mmr_exists;
  coordinates = mmr_coordinates;
  few_peaks = mmr_few;
}
