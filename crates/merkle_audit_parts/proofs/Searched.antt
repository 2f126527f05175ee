-- What the search of an accepted input finds is the first collision.
use Rattle.std.proofs.Common.{◌≡◌, ◌≢◌, ℕ, ◌≤◌, List, ◌++◌, map, flat_map, length, ap, sym, ◌∙◌, subst, Option, Some, Ok}
use Rattle.std.specs.List.{AllByRecursion}
use Rattle.merkle_base.specs.Digests.{peak_digests}
use Rattle.merkle_base.specs.Places.{peaks_of}
use Rattle.merkle_base.specs.Root.{list_root}
use Rattle.merkle_base.specs.Scheme.{Scheme}
use Rattle.merkle_base.specs.Tree.{Tree}
use Rattle.merkle_base.proofs.Lists.{cons_tail}
use Rattle.merkle_batch_theory.specs.Records.{MerkleizedModel}
use Rattle.merkle_root_theory.specs.Check.{RangeInput, range_inputs}
use Rattle.merkle_root_theory.specs.Collision.{Collision}
use Rattle.merkle_root_theory.specs.Expression.{Place, Root, Bytes, Input}
use Rattle.merkle_root_theory.specs.Range.{list_inputs, IsLawfulScheme}
use Rattle.merkle_root_theory.specs.Reconstruction.{reconstructed}
use Rattle.merkle_claim_theory.specs.FirstCollision.{or_else, first_collision}
use Rattle.merkle_claim_theory.specs.Order.{node_places}
use Rattle.merkle_audit_theory.specs.Differences.{is_difference, first_difference}
use Rattle.merkle_audit_theory.specs.Folds.{top_inputs}
use Rattle.merkle_audit_theory.specs.Located.{node_inputs}
use Rattle.merkle_audit_theory.specs.Searches.{input_at, looked_up}
use Rattle.merkle_audit_theory.specs.Seen.{children_of, Sees}
use Rattle.merkle_audit_theory.specs.Tiers.{AreOfTier}
use Rattle.merkle_audit_theory.proofs.PeakInputs.{inputs_by_peaks}
use Rattle.merkle_audit_theory.proofs.RootSearches.{range_searched, pair_searched}
use Rattle.merkle_audit_theory.proofs.TieredInputs.{fold_tier, node_tier}
use Rattle.merkle_audit_parts.specs.declared.claim.Claim.{Claim}
use Rattle.merkle_walks.specs.declared.top.Top.{Top}
use Rattle.merkle_audit_parts.specs.Claimed.{range_pair, IsClaim}
use Rattle.merkle_walks.specs.Hashed.{fold_at, top_of}
use Rattle.merkle_audit_parts.specs.Listed.{digest_in, IsOfList}
use Rattle.merkle_audit_parts.proofs.Lists.{batch_sees}

-- what a search below the roots says, by what stands at the nodes of some peaks
abbrev pub SaysBelow : {F D : Type 0} → Scheme D → Top F D → Top F D → (Tree → Option (D × D)) → (Tree → Option (D × D)) → List Tree → Option (Collision D) → Type 0
SaysBelow {D = D} s x y e e' ts o = (f g : Place → Option (Input D)) → AllByRecursion (λ t. Sees e f t) ts → AllByRecursion (λ t. Sees e' g t) ts
    → o ≡ or_else (first_difference s.hashing (map fold_at x.folds.items) (map fold_at y.folds.items)) (looked_up (is_difference s.hashing) (flat_map node_places ts) f g)

module _ {F D P Q : Type 0} (s : Scheme D) (size max_nodes : ℕ) (sound : IsLawfulScheme s size max_nodes) (none : D) where
  module _ (X : List D) (k : ℕ) (few : length X ≤ s.max_leaves) (low : k ≤ length (peaks_of s.rule (length X))) (r : RangeInput D) (ok : reconstructed s r ≡ Ok (list_root s X k))
      (c : Claim F D P Q) (claim : IsClaim none s r c) (b : MerkleizedModel D) (of : IsOfList s.hashing s.rule b X)
      (t : Top F D) (top_is : top_of t ≡ top_inputs s (length X) k (peak_digests s.hashing s.rule X)) where
    listed_above : AreOfTier 1 (map fold_at t.folds.items)
    listed_above = subst (λ fs. AreOfTier 1 fs) (sym (cons_tail _ _ _ _ top_is)) (fold_tier s.hashing s.bagging k (peak_digests s.hashing s.rule X))

    pub range_found : (o : Option (Collision D)) → (c.top.root.items ≢ t.root.items → o ≡ Some (record { place = Root; claimed = Bytes c.top.root.items; listed = Bytes t.root.items }))
        → (c.top.root.items ≡ t.root.items → SaysBelow s c.top t (range_pair none c.nodes) (children_of (digest_in none b)) (peaks_of s.rule (length X)) o)
        → o ≡ first_collision s.hashing (range_inputs s r) (list_inputs s X k)
    range_found o apart same =
        range_searched s size max_nodes sound X k few low r ok c.top.root.items t.root.items
        (map fold_at c.top.folds.items) claim.nodes (map fold_at t.folds.items) (node_inputs s.hashing s.rule X)
        claim.parts (inputs_by_peaks.list s X k ∙ ap (λ z. z ++ node_inputs s.hashing s.rule X) (sym top_is))
        claim.above claim.below listed_above (node_tier s.hashing s.rule X) o apart
        (λ e n. same e (input_at (range_inputs s r)) (input_at (list_inputs s X k))
        (subst (λ m. AllByRecursion (λ u. Sees (range_pair none c.nodes) (input_at (range_inputs s r)) u) (peaks_of s.rule m)) n claim.sees)
        (batch_sees s X k none b of))

  module _ (root : D) (r q : RangeInput D) (ok : reconstructed s r ≡ Ok root) (ok' : reconstructed s q ≡ Ok root)
      (c d : Claim F D P Q) (claim : IsClaim none s r c) (claim' : IsClaim none s q d) where
    pub pair_found : (o : Option (Collision D)) → (c.top.root.items ≢ d.top.root.items → o ≡ Some (record { place = Root; claimed = Bytes c.top.root.items; listed = Bytes d.top.root.items }))
        → (c.top.root.items ≡ d.top.root.items → SaysBelow s c.top d.top (range_pair none c.nodes) (range_pair none d.nodes) (peaks_of s.rule q.leaves) o)
        → o ≡ first_collision s.hashing (range_inputs s r) (range_inputs s q)
    pair_found o apart same =
        pair_searched s size max_nodes sound root r q ok ok' c.top.root.items d.top.root.items
        (map fold_at c.top.folds.items) claim.nodes (map fold_at d.top.folds.items) claim'.nodes claim.parts claim'.parts
        claim.above claim.below claim'.above claim'.below o apart
        (λ e n. same e (input_at (range_inputs s r)) (input_at (range_inputs s q))
        (subst (λ m. AllByRecursion (λ u. Sees (range_pair none c.nodes) (input_at (range_inputs s r)) u) (peaks_of s.rule m)) n claim.sees) claim'.sees)
