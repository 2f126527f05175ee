-- Small cases of stores, in the Mountain Range.
use Rattle.std.specs.Prelude.{ℕ, ◌+◌, ◌*◌, List, [], ◌∷◌}
use Rattle.merkle_base.specs.declared.family.Bagging.{Bagging}
use Rattle.merkle_base.specs.declared.family.Bagging.TheVariants.{ForwardFold, BackwardFold}
use Rattle.merkle_base.specs.Scheme.{Scheme}
use Rattle.merkle_forest_theory.specs.Mmr.{mmr_merges}
use Rattle.merkle_claim_theory.specs.ThreeLeaves.{xor_hashing}
use Rattle.merkle_store_theory.specs.StoreValue.{StoreValue, store_of}

-- the digest of a node is its position, and a fold writes two of them one after the other
abbrev pub position_scheme : Bagging → Scheme ℕ
position_scheme bagging = record {
  hashing = record xor_hashing { node = λ p l r. p; fold = λ a b. 100 * a + b };
  rule = mmr_merges;
  max_leaves = 100;
  bagging = bagging;
  domain = 0;
}

-- the store of a proof of some of seven leaves, with that inactive count and these digests
abbrev pub of_seven : Bagging → (inactive : ℕ) → (digests : List ℕ) → (start : ℕ) → (elements : List ℕ) → StoreValue ℕ
of_seven bagging inactive digests start elements =
    store_of (position_scheme bagging) (record { leaves = 7; inactive = inactive; digests = digests; start = start; elements = elements }) 0

-- the store of a proof of the last three of seven leaves
abbrev pub last_three : Bagging → (inactive : ℕ) → StoreValue ℕ
last_three bagging inactive = of_seven bagging inactive (6 ∷ []) 4 (7 ∷ 8 ∷ 10 ∷ [])

-- the store of a proof of all of seven leaves
abbrev pub all_seven : Bagging → StoreValue ℕ
all_seven bagging = of_seven bagging 0 [] 0 (0 ∷ 1 ∷ 3 ∷ 4 ∷ 7 ∷ 8 ∷ 10 ∷ [])

-- the store of a proof of all but the last of seven leaves, backward
abbrev pub first_six : (inactive : ℕ) → StoreValue ℕ
first_six inactive = of_seven BackwardFold inactive (10 ∷ []) 0 (0 ∷ 1 ∷ 3 ∷ 4 ∷ 7 ∷ 8 ∷ [])

-- the store of a proof of the last of seven leaves, forward
abbrev pub last_of_seven : StoreValue ℕ
last_of_seven = of_seven ForwardFold 0 (609 ∷ []) 6 (10 ∷ [])

-- a setting for small cases: exclusive or in the place of a hash, backward
abbrev pub of_three : Scheme ℕ
of_three = record { hashing = xor_hashing; rule = mmr_merges; max_leaves = 100; bagging = BackwardFold; domain = 0 }

-- the store of a proof of the first of the leaves 1, 3 and 7, with exclusive or in the place of a hash
abbrev pub first_of_three : StoreValue ℕ
first_of_three = store_of of_three (record { leaves = 3; inactive = 0; digests = 7 ∷ 3 ∷ []; start = 0; elements = 1 ∷ [] }) 0

-- the store of a proof of the first of fifteen leaves, backward
abbrev pub first_of_fifteen : StoreValue ℕ
first_of_fifteen = store_of (position_scheme BackwardFold)
    (record { leaves = 15; inactive = 0; digests = 212425 ∷ 1 ∷ 5 ∷ 13 ∷ []; start = 0; elements = 0 ∷ [] }) 0
