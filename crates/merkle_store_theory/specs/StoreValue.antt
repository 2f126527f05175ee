-- What a store keeps of an accepted range proof.
use Rattle.std.specs.Prelude.{ℕ, ◌+◌, List, map, length, take, drop, Option, slice_get}
use Rattle.merkle_base.specs.Tree.{Tree, position}
use Rattle.merkle_base.specs.Places.{peaks_of, wholly_before}
use Rattle.merkle_base.specs.declared.family.Bagging.{Bagging}
use Rattle.merkle_base.specs.Scheme.{Scheme}
use Rattle.merkle_root_theory.specs.Check.{RangeInput}
use Rattle.merkle_root_theory.specs.Extract.{extracted}
use Rattle.merkle_root_theory.specs.Outside.{fold_all, bag_all, folded_prefix, single_after, folded_suffix}
use Rattle.merkle_root_theory.specs.Layouts.{count_before}
use Rattle.merkle_root_theory.specs.Range.{end_of, overlapping, wholly_after}

-- what a store keeps: the counts, bagging, root and range of the proof, the pairs extracted from it, the positions of the peaks folded in
-- its suffix, oldest first, and its two folds, which have no position
pub record StoreValue (D : Type 0) : Type 0 where
  pub leaves : ℕ
  pub inactive : ℕ
  pub bagging : Bagging
  pub root : D
  pub start : ℕ
  pub end : ℕ
  pub pairs : List (ℕ × D)
  pub suffix_peaks : List ℕ
  pub prefix : Option D
  pub suffix : Option D

-- the digest of the folded prefix: the first of the proof, if peaks are folded there
abbrev pub prefix_given : {D : Type 0} → Scheme D → RangeInput D → Option D
prefix_given s r = slice_get (take (length (fold_all (folded_prefix s.bagging r.inactive (wholly_before r.start (peaks_of s.rule r.leaves))))) r.digests) 0

-- the number of the peaks before the range and of those that overlap it
abbrev pub met_by : {D : Type 0} → Scheme D → RangeInput D → ℕ
met_by s r = length (wholly_before r.start (peaks_of s.rule r.leaves)) + length (overlapping r.start (end_of r) (peaks_of s.rule r.leaves))

-- the peaks folded in the suffix of a proof
abbrev pub suffix_of : {D : Type 0} → Scheme D → RangeInput D → List Tree
suffix_of s r = folded_suffix s.bagging r.inactive (met_by s r) (wholly_after (end_of r) (peaks_of s.rule r.leaves))

-- the digest of the folded suffix: in the proof the one after those of the peaks that stand alone, if peaks are folded there
abbrev pub suffix_given : {D : Type 0} → Scheme D → RangeInput D → Option D
suffix_given s r =
    slice_get (take (length (bag_all 0 (suffix_of s r)))
    (drop (count_before s.bagging r.inactive (wholly_before r.start (peaks_of s.rule r.leaves))
    + length (single_after s.bagging r.inactive (met_by s r) (wholly_after (end_of r) (peaks_of s.rule r.leaves)))) r.digests)) 0

-- the store of an accepted input, which has that root
abbrev pub store_of : {D : Type 0} → Scheme D → RangeInput D → D → StoreValue D
store_of s r root = record {
  leaves = r.leaves;
  inactive = r.inactive;
  bagging = s.bagging;
  root = root;
  start = r.start;
  end = end_of r;
  pairs = extracted s r;
  suffix_peaks = map position (suffix_of s r);
  prefix = prefix_given s r;
  suffix = suffix_given s r;
}
