-- The peak heights alone: what a rule sees, and when it is lawful.
use Rattle.std.specs.Prelude.{◌≡◌, ℕ, zero, suc, ◌+◌, ◌<◌, ◌≤◌, ◌^◌, List, [], ◌∷◌, length, slice_index}
use Rattle.merkle_base.specs.Forest.{size}

-- the i-th newest peak and the one before it are there and of equal height
abbrev pub EqualAt : ℕ → List ℕ → Type 0
EqualAt i [] = ⊥
EqualAt zero (b ∷ []) = ⊥
EqualAt zero (b ∷ a ∷ hs) = a ≡ b
EqualAt (suc i) (h ∷ hs) = EqualAt i hs

-- the heights of the peaks, newest first, after the merge of the i-th newest peak with the one before it
abbrev pub raised : ℕ → List ℕ → List ℕ
raised i [] = []
raised zero (b ∷ []) = b ∷ []
raised zero (b ∷ a ∷ hs) = suc a ∷ hs
raised (suc i) (h ∷ hs) = h ∷ raised i hs

-- the heights of the peaks, newest first, after these merges, one after another
abbrev pub all_raised : List ℕ → List ℕ → List ℕ
all_raised [] hs = hs
all_raised (i ∷ is) hs = all_raised is (raised i hs)

-- each of these merges, done one after another, is of two adjacent peaks of equal height
abbrev pub AreEqualMerges : List ℕ → List ℕ → Type 0
AreEqualMerges [] hs = Unit {0}
AreEqualMerges (i ∷ is) hs = EqualAt i hs × AreEqualMerges is (raised i hs)

-- the heights of the nodes that these merges make, in their order
abbrev pub born_heights : List ℕ → List ℕ → List ℕ
born_heights [] hs = []
born_heights (i ∷ is) hs = slice_index (raised i hs) i ∷ born_heights is (raised i hs)

-- the heights of the peaks of n leaves, newest first
unfoldable pub peak_heights : (List ℕ → List ℕ) → ℕ → List ℕ
peak_heights rule zero = []
peak_heights rule (suc n) = all_raised (rule (0 ∷ peak_heights rule n)) (0 ∷ peak_heights rule n)

-- the heights of the parents born with leaf n, in the order of the merges
abbrev pub parent_heights : (List ℕ → List ℕ) → ℕ → List ℕ
parent_heights rule n = born_heights (rule (0 ∷ peak_heights rule n)) (0 ∷ peak_heights rule n)

-- below that many leaves each merge of the rule is of two adjacent peaks of equal height
abbrev pub MergesEqual : (List ℕ → List ℕ) → ℕ → Type 0
MergesEqual rule max_leaves = (n : ℕ) → n < max_leaves → AreEqualMerges (rule (0 ∷ peak_heights rule n)) (0 ∷ peak_heights rule n)

-- up to `max_leaves` leaves the rule merges adjacent peaks of equal height alone and leaves at most 64 peaks, and the forest of
-- `max_leaves` leaves has `max_nodes` nodes, fewer than 2 ^ 63
pub record IsLawful (rule : List ℕ → List ℕ) (max_leaves max_nodes : ℕ) : Type 0 where
  pub equal : MergesEqual rule max_leaves
  pub at_most_64_peaks : (n : ℕ) → n ≤ max_leaves → length (peak_heights rule n) ≤ 64
  pub size_at_limit : size rule max_leaves ≡ max_nodes
  pub limit_fits : max_nodes < 2 ^ 63

-- how many leaves trees of these heights have
abbrev pub weight : List ℕ → ℕ
weight [] = 0
weight (h ∷ hs) = 2 ^ h + weight hs
