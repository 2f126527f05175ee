-- A range check by the table of the layout: what it accepts, and what is honest.
use Rattle.std.specs.Prelude.{◌≡◌, ℕ, ◌&&◌, ◌⊎◌, ◌≤◌, ◌<◌, ◌+◌, ◌-◌, nat_le, nat_lt, List, [], ◌++◌, length, map, flat_map, filter, take, drop, get_or, None}
use Rattle.merkle_base.specs.Tree.{Tree, first_leaf, end_leaf}
use Rattle.merkle_base.specs.Heights.{IsLawful}
use Rattle.merkle_base.specs.Hashing.{Hashing, EqDecides}
use Rattle.merkle_base.specs.Digests.{digest_at}
use Rattle.merkle_base.specs.Root.{list_root}
use Rattle.merkle_root_theory.specs.Expression.{Input}
use Rattle.merkle_root_theory.specs.Collision.{Collision, Collides}
use Rattle.merkle_root_theory.specs.RootString.{ByteLaws}
use Rattle.merkle_root_theory.specs.Plan.{Plan, siblings, plan_digest, tree_digest}
use Rattle.merkle_base.specs.declared.family.Bagging.{Bagging}
use Rattle.merkle_root_theory.specs.Outside.{layout, folded_prefix, single_before, single_after, folded_suffix}
use Rattle.merkle_root_theory.specs.Layouts.{laid_out}
use Rattle.merkle_root_theory.specs.Check.{in_range, root_of, all_inputs, list_expression, RangeInput, range_expression, range_inputs}
use Rattle.merkle_base.specs.Scheme.{Scheme}
use Rattle.merkle_base.specs.Places.{peaks_of, wholly_before}

-- the trees that overlap the range a..b
abbrev pub overlapping : ℕ → ℕ → List Tree → List Tree
overlapping a b ts = filter (λ t. nat_lt (first_leaf t) b && nat_lt a (end_leaf t)) ts

-- the trees whose leaves are all at location b or after it
abbrev pub wholly_after : ℕ → List Tree → List Tree
wholly_after b ts = filter (λ t. nat_le b (first_leaf t)) ts

-- the peaks and folds of peaks whose digests a proof of a..b begins with
abbrev pub range_parts : Bagging → ℕ → ℕ → ℕ → List Tree → List Plan
range_parts bagging k a b ts = layout bagging k (wholly_before a ts) (overlapping a b ts) (wholly_after b ts)

-- the path siblings of a range a..b: the maximal nodes outside it below the peaks that overlap it
abbrev pub range_siblings : ℕ → ℕ → List Tree → List Tree
range_siblings a b ts = flat_map (siblings (in_range a b)) (overlapping a b ts)

-- a list's leaf digests by location
abbrev pub leaf_of : {D : Type 0} → Hashing D → List D → ℕ → D
leaf_of h xs i = get_or xs i h.empty

-- what a proof of a..b of n leaves has in its layout, of what `at` gives for each node; f: what two make together
abbrev pub range_laid_out : {D E : Type 0} → Scheme D → (E → E → E) → (Tree → E) → (n k a b : ℕ) → List E
range_laid_out s f at n k a b =
    let ts = peaks_of s.rule n in
    let before = wholly_before a ts in
    let after = wholly_after b ts in
    let met = length before + length (overlapping a b ts) in
    laid_out f (map at (folded_prefix s.bagging k before))
    (map at (single_before s.bagging k before ++ single_after s.bagging k met after))
    (map at (folded_suffix s.bagging k met after)) (map at (range_siblings a b ts))

-- the digests of a proof of a..b
abbrev pub range_digests : {D : Type 0} → Scheme D → List D → ℕ → ℕ → ℕ → List D
range_digests s xs k a b = range_laid_out s s.hashing.fold (digest_at s.hashing xs) (length xs) k a b

-- the digests of a proof of a..b of a list, by the parts of its plan
abbrev pub plan_digests : {D : Type 0} → Scheme D → List D → ℕ → ℕ → ℕ → List D
plan_digests s xs k a b =
    map (plan_digest s.hashing (leaf_of s.hashing xs)) (range_parts s.bagging k a b (peaks_of s.rule (length xs)))
    ++ map (tree_digest s.hashing (leaf_of s.hashing xs)) (range_siblings a b (peaks_of s.rule (length xs)))

-- the location after the last element of an input
abbrev pub end_of : {D : Type 0} → RangeInput D → ℕ
end_of r = r.start + length r.elements

-- how many digests a proof of the input's range has
abbrev pub digest_count : {D : Type 0} → Scheme D → RangeInput D → ℕ
digest_count s r = length (range_laid_out s (λ t u. t) (λ (t : Tree). t) r.leaves r.inactive r.start (end_of r))

-- an input with elements is accepted against a root
pub record AcceptsNonempty {D : Type 0} (s : Scheme D) (r : RangeInput D) (root : D) : Type 0 where
  pub nonempty : 0 < length r.elements
  pub within : end_of r ≤ r.leaves
  pub leaves : r.leaves ≤ s.max_leaves
  pub inactive : r.inactive ≤ length (peaks_of s.rule r.leaves)
  pub counts : length r.digests
      ≡ length (range_parts s.bagging r.inactive r.start (end_of r) (peaks_of s.rule r.leaves))
      + length (range_siblings r.start (end_of r) (peaks_of s.rule r.leaves))
  pub root_is : root_of s r.leaves r.inactive (range_expression s r) ≡ root

-- r is the empty proof with no elements, from location 0 on
pub record IsEmptyInput {D : Type 0} (r : RangeInput D) : Type 0 where
  pub elements : r.elements ≡ []
  pub start : r.start ≡ 0
  pub leaves : r.leaves ≡ 0
  pub inactive : r.inactive ≡ 0
  pub digests : r.digests ≡ []

-- an input is accepted against a root: with elements, or the empty one
abbrev pub Accepts : {D : Type 0} → Scheme D → RangeInput D → D → Type 0
Accepts s r root = AcceptsNonempty s r root ⊎ (IsEmptyInput r × (root_of s 0 0 None ≡ root))

-- P holds for each list and number of inactive peaks with this root
abbrev pub ForRootOf : {D : Type 0} → Scheme D → D → (List D → ℕ → Type 0) → Type 0
ForRootOf {D} s root P =
    (xs : List D) (k : ℕ) → length xs ≤ s.max_leaves → k ≤ length (peaks_of s.rule (length xs)) → list_root s xs k ≡ root → P xs k

-- the honest input of a range of a list
abbrev pub honest_input : {D : Type 0} → Scheme D → List D → ℕ → ℕ → ℕ → RangeInput D
honest_input s xs k a b = record { leaves = length xs; inactive = k; digests = range_digests s xs k a b; start = a; elements = take (b - a) (drop a xs) }

-- r is the honest input of its range, which is within the list and has elements unless the list is empty
abbrev pub IsHonestRange : {D : Type 0} → Scheme D → List D → ℕ → RangeInput D → Type 0
IsHonestRange s xs k r = (end_of r ≤ length xs) × ((0 < length r.elements) ⊎ (xs ≡ [])) × (r ≡ honest_input s xs k r.start (end_of r))

-- r is the honest input, with elements, of its range of the list
pub record IsHonestNonempty {D : Type 0} (s : Scheme D) (xs : List D) (k : ℕ) (r : RangeInput D) : Type 0 where
  pub nonempty : 0 < length r.elements
  pub within : end_of r ≤ length xs
  pub leaves : r.leaves ≡ length xs
  pub inactive : r.inactive ≡ k
  pub digests : r.digests ≡ range_digests s xs k r.start (end_of r)
  pub elements : r.elements ≡ take (length r.elements) (drop r.start xs)

-- r is the honest input of its range of the list: with elements, or the empty input of the empty list
abbrev pub IsHonestByCases : {D : Type 0} → Scheme D → List D → ℕ → RangeInput D → Type 0
IsHonestByCases s xs k r = IsHonestNonempty s xs k r ⊎ (IsEmptyInput r × (xs ≡ []))

-- the root of a list for k inactive peaks, by the plan of its peaks
abbrev pub plan_root : {D : Type 0} → Scheme D → List D → ℕ → D
plan_root s xs k = root_of s (length xs) k (list_expression s (leaf_of s.hashing xs) (length xs) k)

-- all that is hashed for a list
abbrev pub list_inputs : {D : Type 0} → Scheme D → List D → ℕ → List (Input D)
list_inputs s xs k = all_inputs s (length xs) k (list_expression s (leaf_of s.hashing xs) (length xs) k)

-- the laws that the family, the hasher and its digests keep
pub record IsLawfulScheme {D : Type 0} (s : Scheme D) (size max_nodes : ℕ) : Type 0 where
  pub laws : EqDecides s.hashing
  pub bytes : ByteLaws s.hashing size
  pub lawful : IsLawful s.rule s.max_leaves max_nodes

-- what a range check hashes for r and what is hashed for the list collide
abbrev pub RangeCollides : {D : Type 0} → Scheme D → RangeInput D → List D → ℕ → Type 0
RangeCollides {D = D} s r xs k = (c : Collision D) × Collides s.hashing (range_inputs s r) (list_inputs s xs k) c

-- each honest input of a list is accepted against the list's root
abbrev pub HonestIsAccepted : Type 0 → Type 0
HonestIsAccepted D = (s : Scheme D) (size max_nodes : ℕ) → IsLawfulScheme s size max_nodes
    → (xs : List D) (k : ℕ) → length xs ≤ s.max_leaves → k ≤ length (peaks_of s.rule (length xs)) → (r : RangeInput D)
    → IsHonestRange s xs k r → Accepts s r (plan_root s xs k)

-- each input that is accepted against a list's root is honest, or collides with the list
abbrev pub RangeSound : Type 0 → Type 0
RangeSound D = (s : Scheme D) (size max_nodes : ℕ) → IsLawfulScheme s size max_nodes
    → (xs : List D) (k : ℕ) → length xs ≤ s.max_leaves → k ≤ length (peaks_of s.rule (length xs)) → (r : RangeInput D)
    → Accepts s r (plan_root s xs k) → IsHonestRange s xs k r ⊎ RangeCollides s r xs k
