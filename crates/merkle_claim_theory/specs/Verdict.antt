-- Verdicts of audits against a list, and the range check as a test.
use Rattle.std.specs.Prelude.{◌≡◌, ℕ, Bool, ◌&&◌, ◌||◌, ◌≤◌, nat_le, nat_lt, nat_eq, ◌+◌, List, length, None, MatchOption, Decides, ◌<◌, map}
use Rattle.merkle_base.specs.Hashing.{EqDecides}
use Rattle.merkle_root_theory.specs.Expression.{Input}
use Rattle.merkle_claim_theory.specs.FirstCollision.{first_collision, IsFirstCollision}
use Rattle.merkle_root_theory.specs.Check.{root_of, all_inputs, RangeInput, range_expression, range_inputs}
use Rattle.merkle_base.specs.Scheme.{Scheme}
use Rattle.merkle_base.specs.Places.{peaks_of}
use Rattle.merkle_root_theory.specs.Range.{end_of, range_parts, range_siblings, list_inputs, plan_root, IsLawfulScheme, Accepts, IsHonestNonempty, IsHonestRange}
use Rattle.merkle_claim_theory.specs.Order.{Distinct}
use Rattle.merkle_root_theory.specs.Extract.{extracted}
use Rattle.merkle_claim_theory.specs.Multiproof.{MultiInput, multi_expression, AcceptsMultiCases, IsHonestMultiSome, IsHonestMulti}
use Rattle.merkle_claim_theory.specs.Pinned.{honest_pins, pinned_expression, AcceptsPinnedCases, IsHonestPinned}

-- all that is hashed for a multi input
abbrev pub multi_inputs : {D : Type 0} → Scheme D → MultiInput D → List (Input D)
multi_inputs s r = all_inputs s r.leaves r.inactive (multi_expression s r)

-- all that is hashed for a range input with pins
abbrev pub pinned_inputs : {D : Type 0} → Scheme D → RangeInput D → List D → List (Input D)
pinned_inputs s r pins = all_inputs s r.leaves r.inactive (pinned_expression s r pins)

-- accepted inputs are honest where no collision is found, and what is found is the first; and an honest range input has none
pub record Verdicts (D : Type 0) : Type 0 where
  pub range : (s : Scheme D) (size max_nodes : ℕ) → IsLawfulScheme s size max_nodes
      → (xs : List D) (k : ℕ) → length xs ≤ s.max_leaves → k ≤ length (peaks_of s.rule (length xs))
      → (r : RangeInput D) → Accepts s r (plan_root s xs k)
      → MatchOption (first_collision s.hashing (range_inputs s r) (list_inputs s xs k)) (IsHonestRange s xs k r)
      (λ c. IsFirstCollision s.hashing (range_inputs s r) (list_inputs s xs k) c)
  pub multi : (s : Scheme D) (size max_nodes : ℕ) → IsLawfulScheme s size max_nodes
      → (xs : List D) (k : ℕ) → length xs ≤ s.max_leaves → k ≤ length (peaks_of s.rule (length xs))
      → (r : MultiInput D) → AcceptsMultiCases s r (plan_root s xs k)
      → MatchOption (first_collision s.hashing (multi_inputs s r) (list_inputs s xs k)) (IsHonestMulti s xs k r)
      (λ c. IsFirstCollision s.hashing (multi_inputs s r) (list_inputs s xs k) c)
  pub pinned : (s : Scheme D) (size max_nodes : ℕ) → IsLawfulScheme s size max_nodes
      → (xs : List D) (k : ℕ) → length xs ≤ s.max_leaves → k ≤ length (peaks_of s.rule (length xs))
      → (r : RangeInput D) (pins : List D) → AcceptsPinnedCases s r pins (plan_root s xs k)
      → MatchOption (first_collision s.hashing (pinned_inputs s r pins) (list_inputs s xs k)) (IsHonestPinned s xs k r pins)
      (λ c. IsFirstCollision s.hashing (pinned_inputs s r pins) (list_inputs s xs k) c)
  -- an honest range input has no collision
  pub clear : (s : Scheme D) → EqDecides s.hashing → (xs : List D) (k : ℕ) (r : RangeInput D) → IsHonestNonempty s xs k r
      → first_collision s.hashing (range_inputs s r) (list_inputs s xs k) ≡ None

-- the range check as a test
abbrev pub range_check : {D : Type 0} → Scheme D → RangeInput D → D → Bool
range_check s r root =
    (nat_lt 0 (length r.elements)
    && (nat_le (end_of r) r.leaves
    && (nat_le r.leaves s.max_leaves
    && (nat_le r.inactive (length (peaks_of s.rule r.leaves))
    && (nat_eq (length r.digests)
    (length (range_parts s.bagging r.inactive r.start (end_of r) (peaks_of s.rule r.leaves))
    + length (range_siblings r.start (end_of r) (peaks_of s.rule r.leaves)))
    && s.hashing.same (root_of s r.leaves r.inactive (range_expression s r)) root)))))
    || (nat_eq (length r.elements) 0
    && (nat_eq r.start 0
    && (nat_eq r.leaves 0
    && (nat_eq r.inactive 0
    && (nat_eq (length r.digests) 0
    && s.hashing.same (root_of s 0 0 None) root)))))

-- the range check as a test answers yes exactly of what is accepted
abbrev pub CheckDecides : Type 0 → Type 0
CheckDecides D = (s : Scheme D) → EqDecides s.hashing → (r : RangeInput D) (root : D) → Decides (range_check s r root) (Accepts s r root)

-- no position stands twice among the extracted pairs
abbrev pub ExtractsOnce : Type 0 → Type 0
ExtractsOnce D = (s : Scheme D) (r : RangeInput D) → 0 < length r.elements → end_of r ≤ r.leaves → Distinct (map (λ x. x.0) (extracted s r))

-- an honest input of scattered leaves has no collision with its list
abbrev pub HonestMultiHasNoCollision : Type 0 → Type 0
HonestMultiHasNoCollision D = (s : Scheme D) → EqDecides s.hashing → (xs : List D) (k : ℕ) (r : MultiInput D) → IsHonestMultiSome s xs k r
    → first_collision s.hashing (multi_inputs s r) (list_inputs s xs k) ≡ None

-- an honest range input with honest pins has no collision with its list
abbrev pub HonestPinnedHasNoCollision : Type 0 → Type 0
HonestPinnedHasNoCollision D = (s : Scheme D) → EqDecides s.hashing
    → (xs : List D) (k : ℕ) (r : RangeInput D) (pins : List D) → IsHonestNonempty s xs k r → pins ≡ honest_pins s xs r.start
    → first_collision s.hashing (pinned_inputs s r pins) (list_inputs s xs k) ≡ None
