-- The verdicts follow from the search for the first collision and from what an acceptance shows.
use Rattle.std.proofs.Common.{Option, Some, None, MatchOption, ◌⊎◌, inl, inr, List}
use Rattle.merkle_claim_theory.specs.Audit.{AuditsRange, AuditsPair}
use Rattle.merkle_root_theory.specs.Check.{all_inputs, list_expression, range_expression}
use Rattle.merkle_root_theory.specs.Collision.{Collision, Collides}
use Rattle.merkle_root_theory.specs.Expression.{Input}
use Rattle.merkle_base.specs.Hashing.{Hashing}
use Rattle.merkle_claim_theory.specs.FirstCollision.{first_collision, IsFirstCollision}
use Rattle.merkle_root_theory.proofs.ListChecks.{no_other_range, pair_consistent}
use Rattle.merkle_claim_theory.proofs.FirstCollisions.{finds_first}

pub none_shows : {A : Type 0} {P P' : Type 0} (Q : A → Type 0) (o : Option A) → (P → P') → MatchOption o P Q → MatchOption o P' Q
none_shows Q None f m = f m
none_shows Q (Some x) f m = m

pub no_collision : {D P : Type 0} (h : Hashing D) (xs ys : List (Input D)) → P ⊎ ((c : Collision D) × Collides h xs ys c) → ((c : Collision D) → Collides h xs ys c → ⊥) → P
no_collision h xs ys (inl p) none = p
no_collision h xs ys (inr c) none = absurd (none c.0 c.1)

pub audits_range : {D : Type 0} → AuditsRange D
audits_range s size laws bytes covers X n k a b r ok =
    let xs = all_inputs s r.leaves r.inactive (range_expression s r) in
    let ys = all_inputs s n k (list_expression s X n k) in
    none_shows (λ c. IsFirstCollision s.hashing xs ys c) (first_collision s.hashing xs ys)
    (no_collision s.hashing xs ys (no_other_range s size laws bytes covers X n k a b r ok)) (finds_first s.hashing laws xs ys)

pub audits_pair : {D : Type 0} → AuditsPair D
audits_pair s size laws bytes covers root r q ok ok' =
    let xs = all_inputs s r.leaves r.inactive (range_expression s r) in
    let ys = all_inputs s q.leaves q.inactive (range_expression s q) in
    none_shows (λ c. IsFirstCollision s.hashing xs ys c) (first_collision s.hashing xs ys)
    (no_collision s.hashing xs ys (pair_consistent s size laws bytes covers root r q ok ok')) (finds_first s.hashing laws xs ys)
