-- A multi-proof: digests at the positions that one-leaf proofs of its locations need.
use Rattle.std.specs.Prelude.{◌≡◌, ℕ, Bool, ◌↔◌, ◌⊎◌, ◌≤◌, ◌<◌, ◌+◌, ◌*◌, nat_eq, List, [], length, map, flat_map, filter, None, Option, option_map, IfSome, unwrap_or, slice_index}
use Rattle.std.specs.List.{AllByRecursion, list_any, range_with_len}
use Rattle.merkle_base.specs.Tree.{Tree, position}
use Rattle.merkle_base.specs.Forest.{size}
use Rattle.merkle_forest_theory.specs.Ascending.{AscendsFrom}
use Rattle.merkle_base.specs.Heights.{IsLawful, peak_heights}
use Rattle.merkle_root_theory.specs.Expression.{Expression, Holds}
use Rattle.merkle_root_theory.specs.Collision.{Collision, Collides}
use Rattle.merkle_root_theory.specs.Plan.{Plan, root_plan, siblings}
use Rattle.merkle_claim_theory.specs.MultiClaim.{multi_claim}
use Rattle.merkle_root_theory.specs.Check.{root_of, all_inputs}
use Rattle.merkle_base.specs.Scheme.{Scheme}
use Rattle.merkle_base.specs.Places.{peaks_of}
use Rattle.merkle_root_theory.specs.Range.{leaf_of, list_inputs, plan_root, IsLawfulScheme}
use Rattle.merkle_base.specs.Table.{digest_for, digest_at_position}

-- the nodes whose digests prove the leaf at i: the peaks that don't hold it, and the path siblings under the one that does
abbrev pub one_leaf_nodes : ℕ → List Tree → List Tree
one_leaf_nodes i ts = flat_map (siblings (λ j. nat_eq j i)) ts

-- whether one of the nodes whose digests prove the leaf at i stands at p
abbrev pub is_one_leaf_position : List Tree → ℕ → ℕ → Bool
is_one_leaf_position ts p i = list_any (λ t. nat_eq (position t) p) (one_leaf_nodes i ts)

-- the positions of the nodes whose digests prove the leaves at some locations, ascending, each once
abbrev pub multi_positions : (List ℕ → List ℕ) → ℕ → List ℕ → List ℕ
multi_positions rule n locations = filter (λ p. list_any (is_one_leaf_position (peaks_of rule n) p) locations) (range_with_len 0 (size rule n))

-- a proof with leaf digests at locations
pub record MultiInput (D : Type 0) : Type 0 where
  pub leaves : ℕ
  pub inactive : ℕ
  pub digests : List D
  pub elements : List (ℕ × D)

-- the locations of the elements of an input of scattered leaves
abbrev pub locations_in : {D : Type 0} → MultiInput D → List ℕ
locations_in r = map (λ e. e.0) r.elements

-- the leaf digests of the elements of an input of scattered leaves
abbrev pub leaves_in : {D : Type 0} → MultiInput D → List D
leaves_in r = map (λ e. e.1) r.elements

-- what a check of scattered leaves computes of a plan, for an input
abbrev pub multi_on : {D : Type 0} → Scheme D → MultiInput D → Plan → Expression D
multi_on s r p = multi_claim s.hashing (digest_for (multi_positions s.rule r.leaves (locations_in r)) r.digests) (λ i. list_any (nat_eq i) (locations_in r))
    (λ i. unwrap_or (digest_for (locations_in r) (leaves_in r) i) s.hashing.empty) p

-- what a check of scattered leaves computes for an input, if there are peaks
abbrev pub multi_expression : {D : Type 0} → Scheme D → MultiInput D → Option (Expression D)
multi_expression s r = option_map (multi_on s r) (root_plan s.bagging r.inactive (peaks_of s.rule r.leaves))

-- each digest that is supplied and also computed is the computed one
abbrev pub AllHolds : {D : Type 0} → Scheme D → Option (Expression D) → Type 0
AllHolds s e = IfSome e (Holds s.hashing)

-- an input of scattered leaves that is accepted, with elements
pub record AcceptsMultiSome {D : Type 0} (s : Scheme D) (r : MultiInput D) (root : D) : Type 0 where
  pub nonempty : 0 < length r.elements
  pub ascend : AscendsFrom 0 (locations_in r)
  pub below : AllByRecursion (λ i. i < r.leaves) (locations_in r)
  pub leaves : r.leaves ≤ s.max_leaves
  pub inactive : r.inactive ≤ length (peaks_of s.rule r.leaves)
  pub counts : length r.digests ≡ length (multi_positions s.rule r.leaves (locations_in r))
  pub redundant : AllHolds s (multi_expression s r)
  pub root_is : root_of s r.leaves r.inactive (multi_expression s r) ≡ root

-- the empty proof of no elements
pub record IsEmptyMulti {D : Type 0} (r : MultiInput D) : Type 0 where
  pub elements : r.elements ≡ []
  pub leaves : r.leaves ≡ 0
  pub inactive : r.inactive ≡ 0
  pub digests : r.digests ≡ []

-- an input of scattered leaves that is accepted: with elements, or the empty one
abbrev pub AcceptsMultiCases : {D : Type 0} → Scheme D → MultiInput D → D → Type 0
AcceptsMultiCases s r root = AcceptsMultiSome s r root ⊎ (IsEmptyMulti r × (root_of s 0 0 None ≡ root))

-- an input of scattered leaves that is accepted against a root: some leaves with their proof, or none with the empty proof of no leaves
pub record AcceptsMulti {D : Type 0} (s : Scheme D) (r : MultiInput D) (root : D) : Type 0 where
  pub nonempty : (0 < length r.elements) ⊎ (r.leaves ≡ 0)
  pub ascend : AscendsFrom 0 (locations_in r)
  pub below : AllByRecursion (λ i. i < r.leaves) (locations_in r)
  pub leaves : r.leaves ≤ s.max_leaves
  pub inactive : r.inactive ≤ length (peaks_of s.rule r.leaves)
  pub counts : length r.digests ≡ length (multi_positions s.rule r.leaves (locations_in r))
  pub redundant : AllHolds s (multi_expression s r)  -- a digest that is also computed is the computed one
  pub root_is : root_of s r.leaves r.inactive (multi_expression s r) ≡ root

-- the honest input of a list's leaves at some locations
abbrev pub honest_multi_input : {D : Type 0} → Scheme D → List D → ℕ → List ℕ → MultiInput D
honest_multi_input s xs k locations = record {
  leaves = length xs;
  inactive = k;
  digests = map (digest_at_position s xs) (multi_positions s.rule (length xs) locations);
  elements = map (λ i. (i, leaf_of s.hashing xs i)) locations;
}

-- an input of scattered leaves is the honest one of its locations, which ascend strictly and lie within the list, and of which there are
-- some unless the list is empty
abbrev pub IsHonestMulti : {D : Type 0} → Scheme D → List D → ℕ → MultiInput D → Type 0
IsHonestMulti s xs k r = AscendsFrom 0 (locations_in r) × AllByRecursion (λ i. i < length xs) (locations_in r)
    × ((0 < length r.elements) ⊎ (xs ≡ [])) × (r ≡ honest_multi_input s xs k (locations_in r))

-- an honest input of scattered leaves with at least one element
pub record IsHonestMultiSome {D : Type 0} (s : Scheme D) (xs : List D) (k : ℕ) (r : MultiInput D) : Type 0 where
  pub nonempty : 0 < length r.elements
  pub ascend : AscendsFrom 0 (locations_in r)
  pub below : AllByRecursion (λ i. i < length xs) (locations_in r)
  pub leaves : r.leaves ≡ length xs
  pub inactive : r.inactive ≡ k
  pub digests : r.digests ≡ map (digest_at_position s xs) (multi_positions s.rule (length xs) (locations_in r))
  pub elements : leaves_in r ≡ map (leaf_of s.hashing xs) (locations_in r)

-- an honest input of scattered leaves by cases: with elements, or the empty input of the empty list
abbrev pub IsHonestMultiByCases : {D : Type 0} → Scheme D → List D → ℕ → MultiInput D → Type 0
IsHonestMultiByCases s xs k r = IsHonestMultiSome s xs k r ⊎ (IsEmptyMulti r × (xs ≡ []))

-- a collision of a multi input with the list
abbrev pub MultiCollides : {D : Type 0} → Scheme D → MultiInput D → List D → ℕ → Type 0
MultiCollides {D = D} s r xs k = (c : Collision D) × Collides s.hashing (all_inputs s r.leaves r.inactive (multi_expression s r)) (list_inputs s xs k) c

-- the inputs of scattered leaves that are accepted are so by one of the two cases, with elements or empty
abbrev pub MultiByCases : Type 0 → Type 0
MultiByCases D = (s : Scheme D) (r : MultiInput D) (root : D) → AcceptsMultiCases s r root ↔ AcceptsMulti s r root

-- the honest inputs of scattered leaves are accepted
abbrev pub HonestMultiIsAccepted : Type 0 → Type 0
HonestMultiIsAccepted D = (s : Scheme D) (size max_nodes : ℕ) → IsLawfulScheme s size max_nodes
    → (xs : List D) (k : ℕ) → length xs ≤ s.max_leaves → k ≤ length (peaks_of s.rule (length xs)) → (r : MultiInput D)
    → IsHonestMulti s xs k r → AcceptsMultiCases s r (plan_root s xs k)

-- an accepted input of scattered leaves is honest, or collides with the list
abbrev pub MultiSound : Type 0 → Type 0
MultiSound D = (s : Scheme D) (size max_nodes : ℕ) → IsLawfulScheme s size max_nodes
    → (xs : List D) (k : ℕ) → length xs ≤ s.max_leaves → k ≤ length (peaks_of s.rule (length xs)) → (r : MultiInput D)
    → AcceptsMultiCases s r (plan_root s xs k) → IsHonestMulti s xs k r ⊎ MultiCollides s r xs k

-- a proof of scattered leaves has at most 122 positions for each location, if the height of each peak and the number of peaks are together
-- at most 123
abbrev pub MultiSizeBound : Type 0 → Type 0
MultiSizeBound D = (s : Scheme D) (max_nodes : ℕ) → IsLawful s.rule s.max_leaves max_nodes → (n : ℕ) → n ≤ s.max_leaves
    → ((i : ℕ) → i < length (peak_heights s.rule n) → slice_index (peak_heights s.rule n) i + length (peak_heights s.rule n) ≤ 123)
    → (locations : List ℕ) → AllByRecursion (λ i. i < n) locations → length (multi_positions s.rule n locations) ≤ 122 * length locations
