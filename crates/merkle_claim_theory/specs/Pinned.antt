-- The pinned check: a range check with the peaks over the leaves before it.
use Rattle.std.specs.Prelude.{◌≡◌, ℕ, ◌↔◌, ◌⊎◌, ◌≤◌, ◌<◌, ◌-◌, List, [], length, map, take, get_or, None, Ok, Option, option_map}
use Rattle.merkle_base.specs.Digests.{digest_at, peak_digests}
use Rattle.merkle_base.specs.Tree.{position}
use Rattle.merkle_root_theory.specs.Expression.{Expression}
use Rattle.merkle_root_theory.specs.Collision.{Collision, Collides}
use Rattle.merkle_root_theory.specs.Plan.{Plan, root_plan}
use Rattle.merkle_claim_theory.specs.PinnedClaim.{pinned_of}
use Rattle.merkle_root_theory.specs.Check.{in_range, root_of, all_inputs, RangeInput}
use Rattle.merkle_base.specs.Scheme.{Scheme}
use Rattle.merkle_base.specs.Places.{peaks_of}
use Rattle.merkle_root_theory.specs.Range.{end_of, digest_count, list_inputs, plan_root, IsLawfulScheme, IsEmptyInput, IsHonestRange}
use Rattle.merkle_root_theory.specs.Reconstruction.{reconstructed}
use Rattle.merkle_base.specs.Table.{digest_for}
use Rattle.merkle_claim_theory.specs.Multiproof.{AllHolds}

-- the positions of the pins: the peaks over the leaves before start
abbrev pub pin_positions : {D : Type 0} → Scheme D → ℕ → List ℕ
pin_positions s start = map position (peaks_of s.rule start)

-- what a check with pins computes of a plan
abbrev pub pinned_on : {D : Type 0} → Scheme D → RangeInput D → List D → Plan → Expression D
pinned_on s r pins p = pinned_of s.hashing (digest_for (pin_positions s r.start) pins) (in_range 0 r.start)
    (in_range r.start (end_of r)) (λ i. get_or r.elements (i - r.start) s.hashing.empty) p r.digests

-- what a check with pins computes, if there are peaks
abbrev pub pinned_expression : {D : Type 0} → Scheme D → RangeInput D → List D → Option (Expression D)
pinned_expression s r pins = option_map (pinned_on s r pins) (root_plan s.bagging r.inactive (peaks_of s.rule r.leaves))

-- a range input with pins that is accepted, with elements
pub record AcceptsPinnedSome {D : Type 0} (s : Scheme D) (r : RangeInput D) (pins : List D) (root : D) : Type 0 where
  pub nonempty : 0 < length r.elements
  pub within : end_of r ≤ r.leaves
  pub leaves : r.leaves ≤ s.max_leaves
  pub inactive : r.inactive ≤ length (peaks_of s.rule r.leaves)
  pub counts : length r.digests ≡ digest_count s r
  pub pinned : length pins ≡ length (peaks_of s.rule r.start)
  pub rebuilt : AllHolds s (pinned_expression s r pins)
  pub root_is : root_of s r.leaves r.inactive (pinned_expression s r pins) ≡ root

-- a range input with pins that is accepted: with elements, or the empty one
abbrev pub AcceptsPinnedCases : {D : Type 0} → Scheme D → RangeInput D → List D → D → Type 0
AcceptsPinnedCases s r pins root = AcceptsPinnedSome s r pins root ⊎ ((IsEmptyInput r × (pins ≡ [])) × (root_of s 0 0 None ≡ root))

-- an accepted range input with pins: the range check accepts it, there is a pin for each peak over the leaves before the range, and the
-- pins give each digest of the proof that lies before it
abbrev pub AcceptsPinned : {D : Type 0} → Scheme D → RangeInput D → List D → D → Type 0
AcceptsPinned s r pins root =
    (reconstructed s r ≡ Ok root) × (length pins ≡ length (peaks_of s.rule r.start)) × AllHolds s (pinned_expression s r pins)

-- the peak digests of the first leaves of a list
abbrev pub honest_pins : {D : Type 0} → Scheme D → List D → ℕ → List D
honest_pins s xs start = peak_digests s.hashing s.rule (take start xs)

-- an honest range input with honest pins
abbrev pub IsHonestPinned : {D : Type 0} → Scheme D → List D → ℕ → RangeInput D → List D → Type 0
IsHonestPinned s xs k r pins = IsHonestRange s xs k r × (pins ≡ honest_pins s xs r.start)

-- a collision of a pinned input with the list
abbrev pub PinnedCollides : {D : Type 0} → Scheme D → RangeInput D → List D → List D → ℕ → Type 0
PinnedCollides {D = D} s r pins xs k =
    (c : Collision D) × Collides s.hashing (all_inputs s r.leaves r.inactive (pinned_expression s r pins)) (list_inputs s xs k) c

-- the range inputs with pins that are accepted are so by one of the two cases, with elements or empty
abbrev pub PinnedByCases : Type 0 → Type 0
PinnedByCases D = (s : Scheme D) (r : RangeInput D) (pins : List D) (root : D) → AcceptsPinnedCases s r pins root ↔ AcceptsPinned s r pins root

-- the honest range inputs with honest pins are accepted
abbrev pub HonestPinnedIsAccepted : Type 0 → Type 0
HonestPinnedIsAccepted D = (s : Scheme D) (size max_nodes : ℕ) → IsLawfulScheme s size max_nodes
    → (xs : List D) (k : ℕ) → length xs ≤ s.max_leaves → k ≤ length (peaks_of s.rule (length xs)) → (r : RangeInput D) (pins : List D)
    → IsHonestPinned s xs k r pins → AcceptsPinnedCases s r pins (plan_root s xs k)

-- an accepted range input with pins is honest, and its pins are, or it collides with the list
abbrev pub AcceptedPinnedIsHonest : Type 0 → Type 0
AcceptedPinnedIsHonest D = (s : Scheme D) (size max_nodes : ℕ) → IsLawfulScheme s size max_nodes
    → (xs : List D) (k : ℕ) → length xs ≤ s.max_leaves → k ≤ length (peaks_of s.rule (length xs)) → (r : RangeInput D) (pins : List D)
    → AcceptsPinnedCases s r pins (plan_root s xs k) → IsHonestPinned s xs k r pins ⊎ PinnedCollides s r pins xs k

-- the honest pins are the list's digests at the peaks over its first leaves
abbrev pub PinsAreOldPeaks : Type 0 → Type 0
PinsAreOldPeaks D = (s : Scheme D) (xs : List D) (start : ℕ) → start ≤ length xs
    → honest_pins s xs start ≡ map (digest_at s.hashing xs) (peaks_of s.rule start)
