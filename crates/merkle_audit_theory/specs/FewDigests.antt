-- How many digests a proof of scattered leaves has at most.
use Rattle.std.specs.Prelude.{◌≡◌, ℕ, ◌*◌, ◌<◌, ◌≤◌, List, length}
use Rattle.std.specs.List.{AllByRecursion}
use Rattle.merkle_base.specs.Scheme.{Scheme}
use Rattle.merkle_claim_theory.specs.Multiproof.{multi_positions}

-- up to `max_leaves` leaves, at most 122 positions for each location
abbrev pub FewPositions : Type 0 → (List ℕ → List ℕ) → ℕ → Type 0
FewPositions D rule max_leaves = (s : Scheme D) → s.rule ≡ rule → s.max_leaves ≡ max_leaves → (n : ℕ) → n ≤ max_leaves
    → (locations : List ℕ) → AllByRecursion (λ i. i < n) locations → length (multi_positions s.rule n locations) ≤ 122 * length locations
