use Rattle.std.proofs.Common.{◌≡◌, ℕ, ◌+◌, ◌^◌, ◌<◌, ◌≤◌, suc, [], ◌∷◌, length, slice_index, ap, ◌∙◌, sym, subst, arith, inl, inr}
use Rattle.merkle_base.specs.Forest.{size}
use Rattle.merkle_base.specs.Tree.{height, first_leaf}
use Rattle.merkle_base.specs.Heights.{peak_heights}
use Rattle.merkle_forest_theory.specs.Mmb.{mmb_merges, birth_leaf}
use Rattle.merkle_forest_theory.proofs.BeltLawful.{mmb_lawful, mmb_size, mmb_peak_count}
use Rattle.merkle_base.proofs.Nodes.{node_anywhere}
use Rattle.merkle_forest_theory.proofs.Digits.{ends_trailing}
use Rattle.merkle_forest_theory.proofs.Existence.{mmb_exists}
use Rattle.merkle_forest_theory.proofs.MountainBelt.{mmb_parents, mmb_peak_height, mmb_older, mmb_placed, mmb_children, size_root}
use Rattle.merkle_forest_theory.proofs.Coordinates.{mmb_coordinates}
use Rattle.merkle_forest_theory.proofs.PeakCounts.{mmb_few}
use Rattle.merkle_forest_theory.proofs.laws.mountain_belt.Goals as goal

pub returns : goal.returns
returns c = record {
  lawful = mmb_lawful;
  size = λ n k low high. mmb_size n k low (let e : k + 1 ≡ suc k = omega arith in subst (λ (x : ℕ). n + 1 < 2 ^ x) e high);
  parents = λ n l. elim (mmb_parents n) [
    | inl h ↦ inl h
    | inr h ↦ inr (h.1 ∙ ap (λ (x : ℕ). x ∷ []) (omega (arith, ends_trailing h.0 (n + 1) h.2 (omega arith))), h.3)
  ];
  peaks = λ n. (let k = mmb_peak_count n in let e : length (peak_heights mmb_merges n) + 1 ≡ suc (length (peak_heights mmb_merges n)) = omega arith in
      (k.0, subst (λ (x : ℕ). n + 1 < 2 ^ x) (sym e) k.1));
  heights = mmb_peak_height;
  older = λ n i l. (let e : suc i ≡ i + 1 = omega arith in
      subst (λ (x : ℕ). slice_index (peak_heights mmb_merges n) i ≤ slice_index (peak_heights mmb_merges n) x) e (mmb_older n i (omega arith)));
  children = λ n p a b e. (let k = mmb_children n p a b e in (k.left, k.right));
  place = λ n p t e. (mmb_placed n p t e).position;
  birth = λ n p t e.
      (let k = mmb_placed n p t e in
      let d : birth_leaf (first_leaf t) (height t) + 1 ≡ suc (birth_leaf (first_leaf t) (height t)) = omega arith in (
        node_anywhere mmb_merges n (birth_leaf (first_leaf t) (height t) + 1) p t e (subst (λ (x : ℕ). p < size mmb_merges x) (sym d) k.present),
        λ m l. omega (arith, size_root (first_leaf t) (height t) m l, k.position),
      ));
  aligned = λ n p t e. (mmb_placed n p t e).aligned;
  belt_has = mmb_exists;
  coordinates = mmb_coordinates;
  few_peaks = mmb_few;
}
