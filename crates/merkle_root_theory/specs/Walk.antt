-- What a walk over the nodes above a range gives.
use Rattle.std.specs.Prelude.{◌≡◌, ℕ, ◌-◌, ◌≤◌, List, [], ◌∷◌, ◌++◌, Bool, length, drop, take, ◌+◌, get_or}
use Rattle.std.specs.List.{flat_map}
use Rattle.merkle_base.specs.Tree.{Tree}
use Rattle.merkle_base.specs.Hashing.{Hashing}
use Rattle.merkle_root_theory.specs.Expression.{value}
use Rattle.merkle_root_theory.specs.Plan.{siblings}
use Rattle.merkle_root_theory.specs.Claim.{tree_claim}
pub use Rattle.merkle_hasher.specs.LeafDigests.{bytes_of}

-- the leaf digest at location i, the first of the digests being that of location a
abbrev pub leaf_from : {D : Type 0} → Hashing D → ℕ → List D → ℕ → D
leaf_from h a leaves i = get_or leaves (i - a) h.empty

-- d is the value of the tree's claim, for which the walk took the first of the digests and left the others
pub record IsWalked {D : Type 0} (h : Hashing D) (c : ℕ → Bool) (X : ℕ → D) (t : Tree) (before : List D) (d : D) (after : List D) : Type 0 where
  pub digest : d ≡ value h (tree_claim h c X t before)
  pub enough : length (siblings c t) ≤ length before
  pub rest : after ≡ drop (length (siblings c t)) before

-- the digests of peaks, those of the siblings being taken in order
abbrev pub peak_values : {D : Type 0} → Hashing D → (ℕ → Bool) → (ℕ → D) → List Tree → List D → List D
peak_values h c X [] ds = []
peak_values h c X (t ∷ ts) ds = value h (tree_claim h c X t ds) ∷ peak_values h c X ts (drop (length (siblings c t)) ds)

-- the walks over peaks appended their digests, for which they took the first of the digests given and left the others
pub record ArePeaksWalked {D : Type 0} (h : Hashing D) (c : ℕ → Bool) (X : ℕ → D) (ts : List Tree) (before out new after : List D) : Type 0 where
  pub digests : new ≡ out ++ peak_values h c X ts before
  pub enough : length (flat_map (siblings c) ts) ≤ length before
  pub rest : after ≡ drop (length (flat_map (siblings c) ts)) before

-- all digests that a root folds: the given ones before, those of the peaks, and the given ones after; there are as many as that needs
pub record ArePeakDigests {D : Type 0} (h : Hashing D) (c : ℕ → Bool) (X : ℕ → D) (ts : List Tree) (before after : ℕ) (given all : List D) : Type 0 where
  pub digests : all ≡ take before given ++ (peak_values h c X ts (drop (before + after) given) ++ take after (drop before given))
  pub count : length given ≡ before + after + length (flat_map (siblings c) ts)
