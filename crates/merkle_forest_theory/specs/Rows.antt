-- Small cases, in which nothing is hashed or nothing is merged.
use Rattle.std.specs.Prelude.{ℕ, List, [], ◌∷◌, ◌++◌, ◌^◌, eqb}
use Rattle.std.specs.Cmp.Lexicographic.{pointwise}
use Rattle.merkle_base.specs.declared.family.Bagging.{Bagging}
use Rattle.merkle_base.specs.Hashing.{Hashing}
use Rattle.merkle_base.specs.Scheme.{Scheme, scheme_of}
use Rattle.merkle_forest_theory.specs.Mmr.{mmr_merges}

-- a digest is the list of what it was made of: a node its position and its two children, a fold 99 and its two parts
abbrev pub unhashed : Hashing (List ℕ)
unhashed = record {
  leaf = λ p element. p ∷ element;
  node = λ p a b. p ∷ a ++ b;
  fold = λ a b. 99 ∷ a ++ b;
  hash = λ bytes. bytes;
  bytes = λ d. d;
  same = pointwise eqb;
  empty = [];
}

-- a Mountain Range over digests that list what they were made of, with 8 for the family's byte
abbrev pub unhashed_scheme : Bagging → Scheme (List ℕ)
unhashed_scheme bagging = scheme_of unhashed bagging mmr_merges (2 ^ 62) 8

-- the rule that merges no peaks
abbrev pub unmerged : List ℕ → List ℕ
unmerged hs = []

-- the digests of three leaves
abbrev pub three_digests : List (List ℕ)
three_digests = (5 ∷ []) ∷ (6 ∷ []) ∷ (7 ∷ []) ∷ []

-- the digests of four peaks
abbrev pub four_peaks : List (List ℕ)
four_peaks = (1 ∷ []) ∷ (2 ∷ []) ∷ (3 ∷ []) ∷ (4 ∷ []) ∷ []
