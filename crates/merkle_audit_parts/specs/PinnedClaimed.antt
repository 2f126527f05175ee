-- What is hashed for an accepted range input with pins, as an audit takes it from the store of the proof and from the pins.
use Rattle.std.specs.Prelude.{◌≡◌, ℕ, List, ◌++◌, map, Option, Some, None}
use Rattle.std.specs.List.{AllByRecursion}
use Rattle.std.specs.Option.{unwrap_or}
use Rattle.merkle_base.specs.Hashing.{Hashing}
use Rattle.merkle_base.specs.Places.{peaks_of}
use Rattle.merkle_base.specs.Scheme.{Scheme}
use Rattle.merkle_base.specs.Table.{digest_for}
use Rattle.merkle_base.specs.Tree.{Tree}
use Rattle.merkle_root_theory.specs.Check.{RangeInput}
use Rattle.merkle_root_theory.specs.Expression.{Input}
use Rattle.merkle_claim_theory.specs.Verdict.{pinned_inputs}
use Rattle.merkle_store_theory.specs.StoreProof.{found_at}
use Rattle.merkle_pins_theory.specs.PinnedNodes.{pinned_children, SeesDown}
use Rattle.merkle_audit_theory.specs.Searches.{input_at}
use Rattle.merkle_audit_theory.specs.Tiers.{AreOfTier}
use Rattle.merkle_audit_parts.specs.declared.pin_nodes.PinnedNodes.{PinnedNodes}
use Rattle.merkle_walks.specs.declared.top.Top.{Top}
use Rattle.merkle_walks.specs.Hashed.{fold_at, top_of}

-- the digest of a node that the range check has, or `none` where it has none
abbrev pub digest_given : {F D P Q : Type 0} → D → PinnedNodes F D P Q → ℕ → D
digest_given none s p = elim s.store [ Some v ↦ unwrap_or (found_at v.pairs p) none | None ↦ none ]

-- the pin at a position
abbrev pub pin_in : {F D P Q : Type 0} → PinnedNodes F D P Q → ℕ → Option D
pin_in s p = digest_for s.positions.items s.pins.items p

-- the digests of a node's children, if a check with pins hashes them
abbrev pub pinned_pair : {F D P Q : Type 0} → Hashing D → D → PinnedNodes F D P Q → Tree → Option (D × D)
pinned_pair h none s t = pinned_children h (pin_in s) s.start s.end (digest_given none s) t

-- what is hashed for an accepted range input with pins: first the string of the root and the folds, then the nodes of each peak
pub record IsPinnedClaim {F D P Q : Type 0} (none : D) (s : Scheme D) (r : RangeInput D) (pins : List D) (t : Top F D) (n : PinnedNodes F D P Q) : Type 0 where
  pub nodes : List (Input D)
  pub parts : pinned_inputs s r pins ≡ top_of t ++ nodes
  pub above : AreOfTier 1 (map fold_at t.folds.items)
  pub below : AreOfTier 2 nodes
  pub sees : AllByRecursion (λ u. SeesDown (pinned_pair s.hashing none n) (input_at (pinned_inputs s r pins)) u) (peaks_of s.rule r.leaves)
