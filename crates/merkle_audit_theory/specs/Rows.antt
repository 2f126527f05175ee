-- Small cases of layouts and range checks, with the exclusive or in the place of a hash.
use Rattle.std.specs.Prelude.{ℕ, List, [], ◌∷◌, ◌==◌, cond, bit_xor, fold}
use Rattle.merkle_base.specs.Tree.{Tree, leaf, join}
use Rattle.merkle_base.specs.declared.family.Bagging.TheVariants.{ForwardFold, BackwardFold}
use Rattle.merkle_forest_theory.specs.Rows.{unhashed, unmerged}
use Rattle.merkle_root_theory.specs.Expression.{Input}
use Rattle.merkle_root_theory.specs.Plan.{Plan, peak}
use Rattle.merkle_root_theory.specs.Check.{RangeInput, all_inputs, list_expression, range_expression}
use Rattle.merkle_base.specs.Scheme.{Scheme}
use Rattle.merkle_root_theory.specs.Range.{leaf_of}
use Rattle.merkle_claim_theory.specs.Multiproof.{MultiInput}
use Rattle.merkle_claim_theory.specs.ThreeLeaves.{xor_hashing}

-- the oldest of the three peaks of seven leaves in the Mountain Range
abbrev pub four : Tree
four = join 6 (join 2 (leaf 0 0) (leaf 1 1)) (join 5 (leaf 3 2) (leaf 4 3))

-- the three peaks of seven leaves in the Mountain Range
abbrev pub seven : List Tree
seven = four ∷ join 9 (leaf 7 4) (leaf 8 5) ∷ leaf 10 6 ∷ []

-- leaf i where none are merged, so that each is a peak
abbrev pub single : ℕ → Tree
single i = leaf i i

-- the plan of leaf i where none are merged
abbrev pub alone : ℕ → Plan
alone i = peak (single i)

-- a merge rule: the new leaf with the newest peak, if that is one leaf
abbrev pub paired : List ℕ → List ℕ
paired [] = []
paired (h ∷ []) = []
paired (h ∷ a ∷ hs) = cond (h == a) (0 ∷ []) []

-- up to three leaves, none merged; the hash of bytes is their exclusive or
abbrev pub toy : Scheme ℕ
toy = record { hashing = record xor_hashing { hash = fold bit_xor 0 }; rule = λ hs. []; max_leaves = 3; bagging = ForwardFold; domain = 0 }

-- the toy hash under another family's byte: up to three leaves, none merged
abbrev pub other_family : Scheme ℕ
other_family = record toy { domain = 1 }

-- a proof of the middle one of three leaves, whose digest is 3, with that inactive count and these digests
abbrev pub middle : ℕ → List ℕ → RangeInput ℕ
middle inactive digests = record { leaves = 3; inactive = inactive; digests = digests; start = 1; elements = 3 ∷ [] }

-- a proof of the first and the last of three leaves, whose digests are 1 and 7, with these digests
abbrev pub ends : List ℕ → MultiInput ℕ
ends digests = record { leaves = 3; inactive = 0; digests = digests; elements = (0, 1) ∷ (2, 7) ∷ [] }

-- a proof without elements
abbrev pub no_elements : (start inactive leaves : ℕ) → List ℕ → RangeInput ℕ
no_elements start inactive leaves digests = record { leaves = leaves; inactive = inactive; digests = digests; start = start; elements = [] }

-- up to three leaves of family 8, none merged, folded right to left; nothing is hashed, so that a root is its string
abbrev pub bare : Scheme (List ℕ)
bare = record { hashing = unhashed; rule = unmerged; max_leaves = 3; bagging = BackwardFold; domain = 8 }

-- the root of three leaves whose peaks fold to the digest 5, where nothing is hashed: its string
abbrev pub bare_root : List ℕ
bare_root = 8 ∷ 1 ∷ 0 ∷ 0 ∷ 0 ∷ 0 ∷ 0 ∷ 0 ∷ 0 ∷ 3 ∷ 5 ∷ []

-- the exclusive or of bytes
abbrev pub xor_bytes : List ℕ → ℕ
xor_bytes = fold bit_xor 0

-- the bytes of a digest that is one byte
abbrev pub one_byte : ℕ → List ℕ
one_byte d = d ∷ []

-- what is hashed for a proof of the middle one of three leaves, with the digests 1 and 7 of the others swapped
abbrev pub swapped_inputs : List (Input ℕ)
swapped_inputs = all_inputs toy 3 0 (range_expression toy (middle 0 (7 ∷ 1 ∷ [])))

-- what is hashed for the list of the leaves 1, 3 and 7
abbrev pub three_inputs : List (Input ℕ)
three_inputs = all_inputs toy 3 0 (list_expression toy (leaf_of toy.hashing (1 ∷ 3 ∷ 7 ∷ [])) 3 0)

-- what is hashed for the leaves 1, 3 and 6 under the other family's byte
abbrev pub other_inputs : List (Input ℕ)
other_inputs = all_inputs other_family 3 0 (list_expression other_family (leaf_of toy.hashing (1 ∷ 3 ∷ 6 ∷ [])) 3 0)
