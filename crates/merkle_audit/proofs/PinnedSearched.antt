-- What the search of an accepted range input with pins finds is the first collision, and what the audit says of it.
use Rattle.std.proofs.Common.{◌≡◌, ◌≢◌, ℕ, ◌≤◌, true, false, List, ◌++◌, map, flat_map, length, refl, ap, sym, ◌∙◌, subst, Option, Some}
use Rattle.std.proofs.lemmas.Bool.{false≢true}
use Rattle.std.specs.List.{AllByRecursion}
use Rattle.merkle_base.specs.Digests.{peak_digests}
use Rattle.merkle_base.specs.Places.{peaks_of}
use Rattle.merkle_base.specs.Root.{list_root}
use Rattle.merkle_base.specs.Scheme.{Scheme}
use Rattle.merkle_base.proofs.Lists.{cons_tail}
use Rattle.merkle_batch_theory.specs.Records.{MerkleizedModel}
use Rattle.merkle_root_theory.specs.Check.{RangeInput}
use Rattle.merkle_root_theory.specs.Collision.{Collision}
use Rattle.merkle_root_theory.specs.Expression.{Place, Root, Bytes, Input}
use Rattle.merkle_root_theory.specs.Range.{list_inputs, IsLawfulScheme}
use Rattle.merkle_claim_theory.specs.FirstCollision.{or_else, first_collision}
use Rattle.merkle_claim_theory.specs.Order.{node_places}
use Rattle.merkle_claim_theory.specs.Pinned.{AcceptsPinned, IsHonestPinned}
use Rattle.merkle_claim_theory.specs.Verdict.{pinned_inputs}
use Rattle.merkle_audit_theory.specs.Differences.{is_difference, first_difference}
use Rattle.merkle_audit_theory.specs.Folds.{top_inputs}
use Rattle.merkle_audit_theory.specs.Located.{node_inputs}
use Rattle.merkle_audit_theory.specs.Outcomes.{outcome_of, IsOutcome}
use Rattle.merkle_pins_theory.specs.PinnedNodes.{SeesDown}
use Rattle.merkle_audit_theory.specs.Searches.{input_at, looked_up}
use Rattle.merkle_audit_theory.specs.Seen.{children_of, Sees}
use Rattle.merkle_audit_theory.specs.Tiers.{AreOfTier}
use Rattle.merkle_audit_theory.proofs.Audited.{audits_pins}
use Rattle.merkle_audit_theory.proofs.PeakInputs.{inputs_by_peaks}
use Rattle.merkle_audit_theory.proofs.RootSearches.{pinned_searched}
use Rattle.merkle_audit_theory.proofs.TieredInputs.{fold_tier, node_tier}
use Rattle.merkle_audit_parts.specs.declared.pin_nodes.PinnedNodes.{PinnedNodes}
use Rattle.merkle_walks.specs.declared.top.Top.{Top}
use Rattle.merkle_walks.specs.Hashed.{fold_at, top_of}
use Rattle.merkle_audit_parts.specs.Listed.{digest_in, IsOfList}
use Rattle.merkle_audit_parts.specs.PinnedClaimed.{pinned_pair, IsPinnedClaim}
use Rattle.merkle_audit_parts.proofs.Lists.{batch_sees}

module _ {F D P Q : Type 0} (s : Scheme D) (size max_nodes : ℕ) (sound : IsLawfulScheme s size max_nodes) (none : D)
    (X : List D) (k : ℕ) (few : length X ≤ s.max_leaves) (low : k ≤ length (peaks_of s.rule (length X))) (r : RangeInput D) (pins : List D) (ok : AcceptsPinned s r pins (list_root s X k))
    (c : Top F D) (n : PinnedNodes F D P Q) (claim : IsPinnedClaim none s r pins c n) (b : MerkleizedModel D) (of : IsOfList s.hashing s.rule b X)
    (t : Top F D) (top_is : top_of t ≡ top_inputs s (length X) k (peak_digests s.hashing s.rule X)) where
  listed_above : AreOfTier 1 (map fold_at t.folds.items)
  listed_above = subst (λ fs. AreOfTier 1 fs) (sym (cons_tail _ _ _ _ top_is)) (fold_tier s.hashing s.bagging k (peak_digests s.hashing s.rule X))

  -- what a search below the peaks says, by what stands at their nodes
  abbrev pub SaysUnder : Option (Collision D) → Type 0
  SaysUnder o = (f g : Place → Option (Input D)) → AllByRecursion (λ t. SeesDown (pinned_pair s.hashing none n) f t) (peaks_of s.rule (length X))
      → AllByRecursion (λ t. Sees (children_of (digest_in none b)) g t) (peaks_of s.rule (length X))
      → o ≡ looked_up (is_difference s.hashing) (flat_map node_places (peaks_of s.rule (length X))) f g

  pub pinned_found : (o under : Option (Collision D)) → (c.root.items ≢ t.root.items → o ≡ Some (record { place = Root; claimed = Bytes c.root.items; listed = Bytes t.root.items }))
      → (c.root.items ≡ t.root.items → o ≡ or_else (first_difference s.hashing (map fold_at c.folds.items) (map fold_at t.folds.items)) under)
      → SaysUnder under → o ≡ first_collision s.hashing (pinned_inputs s r pins) (list_inputs s X k)
  pinned_found o under apart same says =
      pinned_searched s size max_nodes sound X k few low r pins ok c.root.items t.root.items
      (map fold_at c.folds.items) claim.nodes (map fold_at t.folds.items) (node_inputs s.hashing s.rule X)
      claim.parts (inputs_by_peaks.list s X k ∙ ap (λ z. z ++ node_inputs s.hashing s.rule X) (sym top_is))
      claim.above claim.below listed_above (node_tier s.hashing s.rule X) o apart
      (λ e m. same e
      ∙ ap (or_else (first_difference s.hashing (map fold_at c.folds.items) (map fold_at t.folds.items)))
      (says (input_at (pinned_inputs s r pins)) (input_at (list_inputs s X k))
      (subst (λ l. AllByRecursion (λ u. SeesDown (pinned_pair s.hashing none n) (input_at (pinned_inputs s r pins)) u) (peaks_of s.rule l)) m claim.sees)
      (batch_sees s X k none b of)))

module _ {D : Type 0} (s : Scheme D) (size max_nodes : ℕ) (sound : IsLawfulScheme s size max_nodes) (X : List D) (k : ℕ)
    (few : length X ≤ s.max_leaves) (low : k ≤ length (peaks_of s.rule (length X))) (r : RangeInput D) (pins : List D) where
  abbrev Leads : Type 0
  Leads = AcceptsPinned s r pins (list_root s X k)

  pub pinned_no : (Leads → ⊥) → (Leads → ⊥) × (IsHonestPinned s X k r pins → ⊥)
  pinned_no n = audits_pins s size max_nodes sound X k few low r pins false ((λ f. absurd (false≢true f)), (λ a. absurd (n a)))

  pub pinned_yes : Leads → (o : Option (Collision D)) → o ≡ first_collision s.hashing (pinned_inputs s r pins) (list_inputs s X k)
      → IsOutcome (AcceptsPinned s r pins (list_root s X k)) (IsHonestPinned s X k r pins) s.hashing (pinned_inputs s r pins) (list_inputs s X k) (outcome_of true o)
  pinned_yes a o e = subst (λ z. IsOutcome Leads (IsHonestPinned s X k r pins) s.hashing (pinned_inputs s r pins) (list_inputs s X k) (outcome_of true z)) (sym e)
      (audits_pins s size max_nodes sound X k few low r pins true ((λ _. a), (λ _. refl)))
