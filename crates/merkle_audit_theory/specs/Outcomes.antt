-- What an audit says, and when it is right.
use Rattle.std.specs.Prelude.{◌≡◌, ◌↔◌, ℕ, Bool, true, false, ◌≤◌, List, length, Option, Some, None, IsTrue, Ok, MatchOption}
use Rattle.merkle_base.specs.Hashing.{Hashing, EqDecides}
use Rattle.merkle_base.specs.Places.{peaks_of}
use Rattle.merkle_base.specs.Root.{list_root}
use Rattle.merkle_base.specs.Scheme.{Scheme}
use Rattle.merkle_base.specs.Digests.{peak_digests}
use Rattle.merkle_root_theory.specs.Expression.{Node, Input}
use Rattle.merkle_root_theory.specs.Collision.{Collision, Collides}
use Rattle.merkle_root_theory.specs.Check.{RangeInput, range_inputs, SharesLeaves}
use Rattle.merkle_root_theory.specs.Range.{list_inputs, IsLawfulScheme, Accepts, IsHonestRange}
use Rattle.merkle_root_theory.specs.Reconstruction.{reconstructed}
use Rattle.merkle_claim_theory.specs.FirstCollision.{first_collision, IsFirstCollision}
use Rattle.merkle_audit_theory.specs.Located.{node_inputs}
use Rattle.merkle_claim_theory.specs.Multiproof.{MultiInput, AcceptsMulti, IsHonestMulti}
use Rattle.merkle_claim_theory.specs.Pinned.{AcceptsPinned, IsHonestPinned}
use Rattle.merkle_claim_theory.specs.Verdict.{multi_inputs, pinned_inputs}

-- what an audit says: the check says no, or there is no collision, or this is the first
pub data Outcome (D : Type 0) : Type 0 where
  rejected clear : Outcome D
  collision : Collision D → Outcome D

-- the outcome of an audit, by what the check says and what the search for the first collision finds
abbrev pub outcome_of : {D : Type 0} → Bool → Option (Collision D) → Outcome D
outcome_of false found = rejected
outcome_of true None = clear
outcome_of true (Some c) = collision c

-- A: the check accepts; P: the input is honest. Rejected exactly if it doesn't accept, clear exactly if the input is honest,
-- and else the first collision
abbrev pub IsOutcome : {D : Type 0} → Type 0 → Type 0 → Hashing D → List (Input D) → List (Input D) → Outcome D → Type 0
IsOutcome A P h xs ys rejected = (A → ⊥) × (P → ⊥)
IsOutcome {D} A P h xs ys clear = A × P × ((c : Collision D) → Collides h xs ys c → ⊥)
IsOutcome A P h xs ys (collision c) = A × (P → ⊥) × IsFirstCollision h xs ys c

-- A: both checks accept; P: what follows where there is no collision
abbrev pub IsPairOutcome : {D : Type 0} → Type 0 → Type 0 → Hashing D → List (Input D) → List (Input D) → Outcome D → Type 0
IsPairOutcome A P h xs ys rejected = A → ⊥
IsPairOutcome {D} A P h xs ys clear = A × P × ((c : Collision D) → Collides h xs ys c → ⊥)
IsPairOutcome A P h xs ys (collision c) = A × IsFirstCollision h xs ys c

-- two range inputs accepted against one root have a first collision, or share their counts and the leaf digests at locations that both
-- prove
abbrev pub AcceptedPairs : Type 0 → Type 0
AcceptedPairs D = (s : Scheme D) (size max_nodes : ℕ) → IsLawfulScheme s size max_nodes → (root : D) (r q : RangeInput D) → Accepts s r root → Accepts s q root
    → MatchOption (first_collision s.hashing (range_inputs s r) (range_inputs s q))
    (SharesLeaves s.hashing r q)
    (λ c. IsFirstCollision s.hashing (range_inputs s r) (range_inputs s q) c)

-- the audit of a range against a list
abbrev pub AuditsRanges : Type 0 → Type 0
AuditsRanges D = (s : Scheme D) (size max_nodes : ℕ) → IsLawfulScheme s size max_nodes
    → (xs : List D) (k : ℕ) → length xs ≤ s.max_leaves → k ≤ length (peaks_of s.rule (length xs)) → (r : RangeInput D)
    → (said : Bool) → IsTrue said ↔ (reconstructed s r ≡ Ok (list_root s xs k))
    → IsOutcome (reconstructed s r ≡ Ok (list_root s xs k)) (IsHonestRange s xs k r) s.hashing (range_inputs s r) (list_inputs s xs k)
    (outcome_of said (first_collision s.hashing (range_inputs s r) (list_inputs s xs k)))

-- the audit of scattered leaves against a list
abbrev pub AuditsMultis : Type 0 → Type 0
AuditsMultis D = (s : Scheme D) (size max_nodes : ℕ) → IsLawfulScheme s size max_nodes
    → (xs : List D) (k : ℕ) → length xs ≤ s.max_leaves → k ≤ length (peaks_of s.rule (length xs)) → (r : MultiInput D)
    → (said : Bool) → IsTrue said ↔ AcceptsMulti s r (list_root s xs k)
    → IsOutcome (AcceptsMulti s r (list_root s xs k)) (IsHonestMulti s xs k r) s.hashing (multi_inputs s r) (list_inputs s xs k)
    (outcome_of said (first_collision s.hashing (multi_inputs s r) (list_inputs s xs k)))

-- the audit of a range with pins against a list
abbrev pub AuditsPins : Type 0 → Type 0
AuditsPins D = (s : Scheme D) (size max_nodes : ℕ) → IsLawfulScheme s size max_nodes
    → (xs : List D) (k : ℕ) → length xs ≤ s.max_leaves → k ≤ length (peaks_of s.rule (length xs)) → (r : RangeInput D) (pins : List D)
    → (said : Bool) → IsTrue said ↔ AcceptsPinned s r pins (list_root s xs k)
    → IsOutcome (AcceptsPinned s r pins (list_root s xs k)) (IsHonestPinned s xs k r pins) s.hashing (pinned_inputs s r pins) (list_inputs s xs k)
    (outcome_of said (first_collision s.hashing (pinned_inputs s r pins) (list_inputs s xs k)))

-- the audit of two range inputs against any root, of a list or of none: where there is no collision they have one leaf count, one inactive
-- count, and one leaf digest at each location that both prove
abbrev pub AuditsPairs : Type 0 → Type 0
AuditsPairs D = (s : Scheme D) (size max_nodes : ℕ) → IsLawfulScheme s size max_nodes → (root : D) (r q : RangeInput D)
    → (said : Bool) → IsTrue said ↔ ((reconstructed s r ≡ Ok root) × (reconstructed s q ≡ Ok root))
    → IsPairOutcome ((reconstructed s r ≡ Ok root) × (reconstructed s q ≡ Ok root)) (SharesLeaves s.hashing r q) s.hashing (range_inputs s r) (range_inputs s q)
    (outcome_of said (first_collision s.hashing (range_inputs s r) (range_inputs s q)))

-- the audit of a list that is claimed and one that is listed: they have one length and the same peak digests, or not; they are equal, or
-- collide first at a node
abbrev pub AuditsLists : Type 0 → Type 0
AuditsLists D = (h : Hashing D) → EqDecides h → (rule : List ℕ → List ℕ) (X Z : List D)
    → (said : Bool) → IsTrue said ↔ ((length X ≡ length Z) × (peak_digests h rule X ≡ peak_digests h rule Z))
    → IsOutcome ((length X ≡ length Z) × (peak_digests h rule X ≡ peak_digests h rule Z)) (X ≡ Z) h (node_inputs h rule X) (node_inputs h rule Z)
    (outcome_of said (first_collision h (node_inputs h rule X) (node_inputs h rule Z)))

-- each collision of what two lists' forests hash is at a node
abbrev pub ListsCollideAtNodes : Type 0 → Type 0
ListsCollideAtNodes D = (h : Hashing D) (rule : List ℕ → List ℕ) (X Z : List D)
    → (c : Collision D) → Collides h (node_inputs h rule X) (node_inputs h rule Z) c → (p : ℕ) × (c.place ≡ Node p)
