-- What the search of an accepted input of scattered leaves finds is the first collision.
use Rattle.std.proofs.Common.{◌≡◌, ◌≢◌, ℕ, ◌≤◌, List, ◌∷◌, ◌++◌, map, flat_map, length, ap, ap₂, sym, ◌∙◌, subst, Option, Some, unwrap_or}
use Rattle.std.specs.List.{AllByRecursion}
use Rattle.merkle_base.specs.Digests.{peak_digests}
use Rattle.merkle_base.specs.Hashing.{Hashing}
use Rattle.merkle_base.specs.Places.{peaks_of}
use Rattle.merkle_base.specs.Root.{list_root, folded, root_string}
use Rattle.merkle_base.specs.Scheme.{Scheme}
use Rattle.merkle_base.specs.Table.{digest_for}
use Rattle.merkle_base.specs.Tree.{Tree}
use Rattle.merkle_base.proofs.Lists.{cons_tail}
use Rattle.merkle_batch_theory.specs.Records.{MerkleizedModel}
use Rattle.merkle_root_theory.specs.Collision.{Collision}
use Rattle.merkle_root_theory.specs.Expression.{Place, Root, Bytes, Input, Expression, value, visited}
use Rattle.merkle_root_theory.specs.Plan.{peak}
use Rattle.merkle_root_theory.specs.Range.{list_inputs, IsLawfulScheme}
use Rattle.merkle_claim_theory.specs.FirstCollision.{or_else, first_collision}
use Rattle.merkle_claim_theory.specs.MultiClaim.{multi_tree}
use Rattle.merkle_claim_theory.specs.Multiproof.{MultiInput, multi_positions, locations_in, leaves_in, multi_on, AcceptsMulti}
use Rattle.merkle_claim_theory.specs.Order.{node_places}
use Rattle.merkle_claim_theory.specs.Verdict.{multi_inputs}
use Rattle.merkle_audit_theory.specs.Differences.{is_difference, first_difference}
use Rattle.merkle_audit_theory.specs.Folds.{numbered_inputs, top_inputs, multi_digest}
use Rattle.merkle_audit_theory.specs.Located.{node_inputs}
use Rattle.merkle_audit_theory.specs.Searches.{input_at, looked_up}
use Rattle.merkle_audit_theory.specs.Seen.{children_of}
use Rattle.merkle_audit_theory.specs.Tiers.{AreOfTier}
use Rattle.merkle_audit_theory.proofs.PeakInputs.{inputs_by_peaks}
use Rattle.merkle_audit_theory.proofs.RootSearches.{multi_searched}
use Rattle.merkle_audit_theory.proofs.TieredInputs.{fold_tier, multi_tier, node_tier}
use Rattle.merkle_walk_theory.specs.Compared.{found_among, Lists}
use Rattle.merkle_walk_theory.specs.Walked.{multi_claims}
use Rattle.merkle_walks.specs.declared.scattered.LeafProof.{LeafProof}
use Rattle.merkle_walks.specs.declared.top.Top.{Top}
use Rattle.merkle_walks.specs.Chosen.{is_among, digest_given, claims_given}
use Rattle.merkle_walks.specs.Hashed.{fold_at, top_of}
use Rattle.merkle_audit_parts.specs.Listed.{digest_in, IsOfList}
use Rattle.merkle_audit_parts.proofs.Lists.{batch_lists}
use Rattle.merkle_walks.proofs.Tops.{numbered_whole}

-- ---- what is given is the input
module _ {F D : Type 0} (s : Scheme D) (r : MultiInput D) (h : Hashing D) (h_is : h ≡ s.hashing) (given : LeafProof F D)
    (positions : given.positions.now ≡ multi_positions s.rule r.leaves (locations_in r))
    (digests : given.digests.now ≡ r.digests) (locations : given.locations.now ≡ locations_in r) (leaves : given.leaves.now ≡ leaves_in r) where
  abbrev told : List ℕ
  told = multi_positions s.rule r.leaves (locations_in r)

  abbrev claim_by : Hashing D → (ps : List ℕ) (ds : List D) (is : List ℕ) (ls : List D) → Tree → Expression D
  claim_by z ps ds is ls t = multi_tree z (digest_for ps ds) (is_among is) (λ i. unwrap_or (digest_for is ls i) z.empty) t

  abbrev digests_by : Hashing D → (ps : List ℕ) (ds : List D) (is : List ℕ) (ls : List D) → List Tree → List D
  digests_by z ps ds is ls ts = map (λ t. value z (claim_by z ps ds is ls t)) ts

  pub all_same : (ts : List Tree) → map (digest_given h given) ts ≡ map (multi_digest s r) ts
  all_same ts =
      ap (λ z. digests_by z given.positions.now given.digests.now given.locations.now given.leaves.now ts) h_is
      ∙ ap₂ (λ ps ds. digests_by s.hashing ps ds given.locations.now given.leaves.now ts) positions digests
      ∙ ap₂ (λ is ls. digests_by s.hashing told r.digests is ls ts) locations leaves

  -- so a walk finds the same
  module _ (f : Tree → Option (D × D)) where
    abbrev found_by : Hashing D → (ps : List ℕ) (ds : List D) (is : List ℕ) (ls : List D) → Option (Collision D)
    found_by z ps ds is ls = found_among z f (map (λ t. (t, claim_by z ps ds is ls t)) (peaks_of s.rule r.leaves))

    pub found_same : found_among h f (claims_given h given (peaks_of s.rule r.leaves)) ≡ found_among s.hashing f (multi_claims s r)
    found_same =
        ap (λ z. found_by z given.positions.now given.digests.now given.locations.now given.leaves.now) h_is
        ∙ ap₂ (λ ps ds. found_by s.hashing ps ds given.locations.now given.leaves.now) positions digests
        ∙ ap₂ (λ is ls. found_by s.hashing told r.digests is ls) locations leaves

-- ---- above the peaks
pub top_of_peaks : {F D : Type 0} (s : Scheme D) (n k : ℕ) (all ds : List D) (t : Top F D) → all ≡ ds
    → t.root.items ≡ root_string s.hashing s.domain s.bagging n k (folded s.hashing.fold s.bagging k all) → map fold_at t.folds.items ≡ numbered_inputs s.hashing s.bagging k k 1 all
    → top_of t ≡ top_inputs s n k ds
top_of_peaks s n k all ds t given x y =
    ap₂ (λ b fs. record { place = Root; argument = Bytes b } ∷ fs)
    (x ∙ ap (λ es. root_string s.hashing s.domain s.bagging n k (folded s.hashing.fold s.bagging k es)) given)
    (y ∙ ap (λ es. numbered_inputs s.hashing s.bagging k k 1 es) given ∙ numbered_whole s.hashing s.bagging k ds)

-- ---- the first collision
module _ {F D : Type 0} (s : Scheme D) (size max_nodes : ℕ) (sound : IsLawfulScheme s size max_nodes) (none : D) (X : List D) (k : ℕ)
    (few : length X ≤ s.max_leaves) (low : k ≤ length (peaks_of s.rule (length X)))
    (r : MultiInput D) (ok : AcceptsMulti s r (list_root s X k)) (x : Top F D) (claimed_is : top_of x ≡ top_inputs s r.leaves r.inactive (map (multi_digest s r) (peaks_of s.rule r.leaves)))
    (b : MerkleizedModel D) (of : IsOfList s.hashing s.rule b X) (y : Top F D) (listed_is : top_of y ≡ top_inputs s (length X) k (peak_digests s.hashing s.rule X)) where
  -- what a search below the peaks says, by what is listed at their nodes
  abbrev pub SaysUnder : Option (Collision D) → Type 0
  SaysUnder o = (g : Place → Option (Input D)) → AllByRecursion (Lists (children_of (digest_in none b)) g) (peaks_of s.rule r.leaves)
      → o ≡ looked_up (is_difference s.hashing) (flat_map node_places (peaks_of s.rule r.leaves)) (input_at (multi_inputs s r)) g

  abbrev lows : List (Input D)
  lows = flat_map (λ t. visited s.hashing (multi_on s r (peak t))) (peaks_of s.rule r.leaves)

  lows_tier : AreOfTier 2 lows
  lows_tier = multi_tier s.hashing (digest_for (multi_positions s.rule r.leaves (locations_in r)) r.digests) (is_among (locations_in r))
      (λ i. unwrap_or (digest_for (locations_in r) (leaves_in r) i) s.hashing.empty) (peaks_of s.rule r.leaves)

  pub multi_found : (o under : Option (Collision D)) → (x.root.items ≢ y.root.items → o ≡ Some (record { place = Root; claimed = Bytes x.root.items; listed = Bytes y.root.items }))
      → (x.root.items ≡ y.root.items → o ≡ or_else (first_difference s.hashing (map fold_at x.folds.items) (map fold_at y.folds.items)) under)
      → SaysUnder under → o ≡ first_collision s.hashing (multi_inputs s r) (list_inputs s X k)
  multi_found o under apart same says =
      multi_searched s size max_nodes sound X k few low r ok x.root.items y.root.items
      (map fold_at x.folds.items) lows (map fold_at y.folds.items) (node_inputs s.hashing s.rule X)
      (inputs_by_peaks.multi s r ∙ ap (λ z. z ++ lows) (sym claimed_is)) (inputs_by_peaks.list s X k ∙ ap (λ z. z ++ node_inputs s.hashing s.rule X) (sym listed_is))
      (subst (λ fs. AreOfTier 1 fs) (sym (cons_tail _ _ _ _ claimed_is)) (fold_tier s.hashing s.bagging r.inactive (map (multi_digest s r) (peaks_of s.rule r.leaves)))) lows_tier
      (subst (λ fs. AreOfTier 1 fs) (sym (cons_tail _ _ _ _ listed_is)) (fold_tier s.hashing s.bagging k (peak_digests s.hashing s.rule X))) (node_tier s.hashing s.rule X) o apart
      (λ e n. same e
      ∙ ap (or_else (first_difference s.hashing (map fold_at x.folds.items) (map fold_at y.folds.items)))
      (says (input_at (list_inputs s X k))
      (subst (λ m. AllByRecursion (Lists (children_of (digest_in none b)) (input_at (list_inputs s X k))) (peaks_of s.rule m)) (sym n) (batch_lists s X k none b of))
      ∙ ap (λ m. looked_up (is_difference s.hashing) (flat_map node_places (peaks_of s.rule m)) (input_at (multi_inputs s r)) (input_at (list_inputs s X k))) n))
