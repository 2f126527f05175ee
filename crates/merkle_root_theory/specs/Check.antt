-- A range check against the root of a list, and two range checks against one root.
use Rattle.std.specs.Prelude.{◌≡◌, ℕ, Bool, ◌&&◌, ◌⊎◌, ◌≤◌, ◌<◌, ◌+◌, ◌-◌, ◌^◌, nat_le, nat_lt, List, [], ◌∷◌, length, get_or, Option, Some, None, option_map}
use Rattle.merkle_root_theory.specs.Expression.{Root, Bytes, Expression, value, Input, inputs}
use Rattle.merkle_base.specs.Hashing.{Hashing, EqDecides}
use Rattle.merkle_base.specs.Scheme.{Scheme}
use Rattle.merkle_root_theory.specs.Collision.{Member, Collision, Collides}
use Rattle.merkle_root_theory.specs.RootString.{ByteLaws}
use Rattle.merkle_base.specs.Root.{root_string}
use Rattle.merkle_base.specs.Tree.{Tree}
use Rattle.merkle_base.specs.Places.{peaks_of}
use Rattle.merkle_root_theory.specs.Plan.{Plan, root_plan, plan_expression, outside_parts, path_siblings, honest_digests}
use Rattle.merkle_root_theory.specs.Claim.{claim_of, InTree}

-- the string of a root over the digest of an expression, if there is one
abbrev pub string_of : {D : Type 0} → Scheme D → ℕ → ℕ → Option (Expression D) → List ℕ
string_of s n k e = root_string s.hashing s.domain s.bagging n k (option_map (value s.hashing) e)

-- the root over the digest of an expression, if there is one
abbrev pub root_of : {D : Type 0} → Scheme D → ℕ → ℕ → Option (Expression D) → D
root_of s n k e = s.hashing.hash (string_of s n k e)

-- all inputs: the root's, and then those of the expression, if there is one
abbrev pub all_inputs : {D : Type 0} → Scheme D → ℕ → ℕ → Option (Expression D) → List (Input D)
all_inputs s n k e = record { place = Root; argument = Bytes (string_of s n k e) } ∷ (elim e [ Some x ↦ inputs s.hashing x | None ↦ [] ])

-- the inputs of an expression, or none where there is no expression
abbrev pub inputs_of : {D : Type 0} → Hashing D → Option (Expression D) → List (Input D)
inputs_of h None = []
inputs_of h (Some e) = inputs h e

-- the expression of a list of n leaf digests for k
abbrev pub list_expression : {D : Type 0} → Scheme D → (ℕ → D) → ℕ → ℕ → Option (Expression D)
list_expression s X n k = option_map (plan_expression X) (root_plan s.bagging k (peaks_of s.rule n))

-- a proof with the leaf digests of the elements from start on
pub record RangeInput (D : Type 0) : Type 0 where
  pub leaves : ℕ
  pub inactive : ℕ
  pub digests : List D
  pub start : ℕ
  pub elements : List D

-- whether i lies in a..b
abbrev pub in_range : ℕ → ℕ → ℕ → Bool
in_range a b i = nat_le a i && nat_lt i b

-- what a range check computes, if there are peaks
abbrev pub range_expression : {D : Type 0} → Scheme D → RangeInput D → Option (Expression D)
range_expression s r = option_map
    (λ p. claim_of s.hashing (in_range r.start (r.start + length r.elements)) (λ i. get_or r.elements (i - r.start) s.hashing.empty) p r.digests)
    (root_plan s.bagging r.inactive (peaks_of s.rule r.leaves))

-- whether a location lies in the range of the elements
abbrev pub chosen : {D : Type 0} → RangeInput D → ℕ → Bool
chosen r = in_range r.start (r.start + length r.elements)

-- the leaf digest that the elements give at a location
abbrev pub leaf_given : {D : Type 0} → Hashing D → RangeInput D → ℕ → D
leaf_given h r i = get_or r.elements (i - r.start) h.empty

-- all that is hashed for a range input
abbrev pub range_inputs : {D : Type 0} → Scheme D → RangeInput D → List (Input D)
range_inputs s r = all_inputs s r.leaves r.inactive (range_expression s r)

-- the proof has the digests that its plan asks for
abbrev pub HasDigestCount : {D : Type 0} → RangeInput D → Option Plan → Type 0
HasDigestCount r None = ⊥
HasDigestCount r (Some p) = length r.digests ≡ length (outside_parts (chosen r) p) + length (path_siblings (chosen r) p)

-- what a range check by plans accepts against a root
pub record AcceptsByPlan {D : Type 0} (s : Scheme D) (r : RangeInput D) (root : D) : Type 0 where
  pub within : r.start + length r.elements ≤ r.leaves
  pub leaves : r.leaves < 2 ^ 64
  pub inactive : r.inactive < 2 ^ 64
  pub counts : HasDigestCount r (root_plan s.bagging r.inactive (peaks_of s.rule r.leaves))
  pub root_is : root_of s r.leaves r.inactive (range_expression s r) ≡ root

-- the digests are the honest ones of the plan
abbrev pub HasHonestDigests : {D : Type 0} → Scheme D → (ℕ → D) → RangeInput D → Option Plan → Type 0
HasHonestDigests s X r None = ⊥
HasHonestDigests s X r (Some p) = r.digests ≡ honest_digests s.hashing X (chosen r) p

-- r is the honest proof of a list's leaves, by plans, with the list's digests of these leaves
pub record IsHonestByPlan {D : Type 0} (s : Scheme D) (X : ℕ → D) (n k : ℕ) (r : RangeInput D) : Type 0 where
  pub leaves : r.leaves ≡ n
  pub inactive : r.inactive ≡ k
  pub digests : HasHonestDigests s X r (root_plan s.bagging k (peaks_of s.rule n))
  pub elements : (j : ℕ) → j < length r.elements → get_or r.elements j s.hashing.empty ≡ X (r.start + j)

-- the peaks cover every leaf
abbrev pub CoversEachLeaf : (ℕ → List Tree) → Type 0
CoversEachLeaf forest = (n i : ℕ) → i < n → (t : Tree) × Member (forest n) t × InTree t i

-- what is accepted against the root of a list is honest, or collides with the list
abbrev pub PlanCheckSound : Type 0 → Type 0
PlanCheckSound D = (s : Scheme D) (size : ℕ) → EqDecides s.hashing → ByteLaws s.hashing size → CoversEachLeaf (peaks_of s.rule)
    → (X : ℕ → D) (n k : ℕ) → n < 2 ^ 64 → k < 2 ^ 64 → (r : RangeInput D) → AcceptsByPlan s r (root_of s n k (list_expression s X n k))
    → IsHonestByPlan s X n k r ⊎ ((c : Collision D) × Collides s.hashing (range_inputs s r) (all_inputs s n k (list_expression s X n k)) c)

-- one leaf digest at each location in both ranges
abbrev pub SharesLeaves : {D : Type 0} → Hashing D → RangeInput D → RangeInput D → Type 0
SharesLeaves h r q = (r.leaves ≡ q.leaves) × (r.inactive ≡ q.inactive)
    × ((i : ℕ) → r.start ≤ i → i < r.start + length r.elements → q.start ≤ i → i < q.start + length q.elements → leaf_given h r i ≡ leaf_given h q i)

-- what is accepted against one root shares its leaves, or the two collide
abbrev pub PairConsistent : Type 0 → Type 0
PairConsistent D = (s : Scheme D) (size : ℕ) → EqDecides s.hashing → ByteLaws s.hashing size → CoversEachLeaf (peaks_of s.rule)
    → (root : D) (r q : RangeInput D) → AcceptsByPlan s r root → AcceptsByPlan s q root
    → SharesLeaves s.hashing r q ⊎ ((c : Collision D) × Collides s.hashing (range_inputs s r) (range_inputs s q) c)

-- an honest proof is accepted
abbrev pub HonestRangeAccepted : Type 0 → Type 0
HonestRangeAccepted D = (s : Scheme D) (X : ℕ → D) (n k : ℕ) → n < 2 ^ 64 → k < 2 ^ 64
    → (r : RangeInput D) → r.start + length r.elements ≤ n → IsHonestByPlan s X n k r
    → AcceptsByPlan s r (root_of s n k (list_expression s X n k))
