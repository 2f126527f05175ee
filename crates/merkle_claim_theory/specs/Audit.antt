-- The verdicts of audits.
use Rattle.std.specs.Prelude.{◌≡◌, ℕ, ◌<◌, ◌^◌, MatchOption, None, flat_map}
use Rattle.merkle_claim_theory.specs.Order.{Distinct, node_places}
use Rattle.merkle_base.specs.Hashing.{EqDecides}
use Rattle.merkle_root_theory.specs.Check.{root_of, all_inputs, list_expression, RangeInput, AcceptsByPlan, range_inputs, IsHonestByPlan, SharesLeaves, CoversEachLeaf}
use Rattle.merkle_base.specs.Scheme.{Scheme}
use Rattle.merkle_base.specs.Places.{peaks_of}
use Rattle.merkle_claim_theory.specs.FirstCollision.{first_collision, IsFirstCollision}
use Rattle.merkle_root_theory.specs.RootString.{ByteLaws}

-- an accepted range input has no collision only if it is honest, and what the search finds is the first collision
abbrev pub AuditsRange : Type 0 → Type 0
AuditsRange D = (s : Scheme D) (size : ℕ) → EqDecides s.hashing → ByteLaws s.hashing size → CoversEachLeaf (peaks_of s.rule)
    → (X : ℕ → D) (n k : ℕ) → n < 2 ^ 64 → k < 2 ^ 64 → (r : RangeInput D) → AcceptsByPlan s r (root_of s n k (list_expression s X n k))
    → MatchOption (first_collision s.hashing (range_inputs s r) (all_inputs s n k (list_expression s X n k)))
    (IsHonestByPlan s X n k r)
    (λ c. IsFirstCollision s.hashing (range_inputs s r) (all_inputs s n k (list_expression s X n k)) c)

-- two range inputs accepted against one root have no collision only if they share counts and leaves, and what the search finds is the first
abbrev pub AuditsPair : Type 0 → Type 0
AuditsPair D = (s : Scheme D) (size : ℕ) → EqDecides s.hashing → ByteLaws s.hashing size → CoversEachLeaf (peaks_of s.rule)
    → (root : D) (r q : RangeInput D) → AcceptsByPlan s r root → AcceptsByPlan s q root
    → MatchOption (first_collision s.hashing (range_inputs s r) (range_inputs s q))
    (SharesLeaves s.hashing r q)
    (λ c. IsFirstCollision s.hashing (range_inputs s r) (range_inputs s q) c)

-- an honest range input has no collision with its list, the root's string counted
abbrev pub HonestHasNoCollision : Type 0 → Type 0
HonestHasNoCollision D = (s : Scheme D) → EqDecides s.hashing → (X : ℕ → D) (n k : ℕ) → Distinct (flat_map node_places (peaks_of s.rule n))
    → (r : RangeInput D) → IsHonestByPlan s X n k r
    → first_collision s.hashing (range_inputs s r) (all_inputs s n k (list_expression s X n k)) ≡ None
