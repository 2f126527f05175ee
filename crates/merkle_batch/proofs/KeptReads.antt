-- What the proof of leaves at or after the boundary reads is held.
use Rattle.std.proofs.Common.{inl, inr, ◌≡◌, ◌≢◌, ◌<◌, ℕ, ◌≤◌, List, [], ◌∷◌, ◌++◌, length, map, flat_map, Bool, true, cond, Option, Some, None, slice_get, refl, sym, ◌∙◌, subst, arith, leb, ltb}
use Rattle.std.specs.Prelude.{◌||◌}
use Rattle.std.specs.List.{AllByRecursion}
use Rattle.std.proofs.lemmas.Bool.{leb-true, and_parts, or_cases}
use Rattle.merkle_base.specs.Tree.{Tree, leaf, join, position, IsUnder, IsBuilt}
use Rattle.merkle_base.specs.Forest.{forest}
use Rattle.merkle_base.specs.Hashing.{Hashing}
use Rattle.merkle_base.specs.Places.{peaks_of, wholly_before}
use Rattle.merkle_base.specs.declared.error.Error.{Error}
use Rattle.merkle_base.specs.declared.error.Error.TheVariants.{OutOfMemory}
use Rattle.merkle_base.specs.declared.family.Bagging.{Bagging}
use Rattle.merkle_base.proofs.Nodes.{all_append}
use Rattle.merkle_root_theory.specs.Plan.{siblings, tree_meets}
use Rattle.merkle_root_theory.specs.Check.{in_range}
use Rattle.merkle_root_theory.specs.Range.{overlapping, wholly_after, range_siblings}
use Rattle.merkle_proof.specs.RangePlans.{IsBuildRefusal, IsFirstMissing}
use Rattle.merkle_root_theory.specs.Reads.{nodes_read, reading_order}
use Rattle.merkle_proof.proofs.BuiltDigests.{reads_at}
use Rattle.merkle_root_theory.proofs.Extraction.{all_filter}
use Rattle.merkle_proof.proofs.ReadingOrder.{all_reading_order}
use Rattle.merkle_batch_theory.specs.Contents.{is_kept}
use Rattle.merkle_draft.proofs.NodePositions.{position_of_node}
use Rattle.merkle_proof.proofs.RefusedProofs.{is_memory}
use Rattle.merkle_base.proofs.Reversed.{get_reversed}
use Rattle.merkle_batch_theory.proofs.NeededNodes.{sibling_kept, peaks_kept}
use Rattle.merkle_base.proofs.Cases.{by_test}
use Rattle.merkle_base.proofs.Lists.{all_from_get}
use Rattle.merkle_base.proofs.PeakLists.{peaks_built}

met_leaf : (c : ℕ → Bool) (t : Tree) → tree_meets c t ≡ true → (q k : ℕ) × IsUnder (leaf q k) t × (c k ≡ true)
met_leaf c (leaf q k) e = (q, k, refl, e)
met_leaf c (join p l r) e = elim (or_cases (tree_meets c l) (tree_meets c r) e) [
  | inl x ↦ (let w = met_leaf c l x in (w.0, w.1, inr (inl w.2), w.3))
  | inr x ↦ (let w = met_leaf c r x in (w.0, w.1, inr (inr w.2), w.3))
]

module _ (rule : List ℕ → List ℕ) (boundary n : ℕ) (within : boundary ≤ n) where
  abbrev IsKeptTree : Tree → Type 0
  IsKeptTree t = is_kept rule boundary (position t) ≡ true

  module _ (c : ℕ → Bool) (above : (k : ℕ) → c k ≡ true → boundary ≤ k) where
    siblings_kept : (t : Tree) → IsBuilt (forest rule n).nodes t → IsKeptTree t → AllByRecursion IsKeptTree (siblings c t)
    siblings_kept (leaf p i) w k = by_test (λ b. AllByRecursion IsKeptTree (cond b [] (leaf p i ∷ []))) (c i) (λ _. tt) (λ _. (k, tt))
    siblings_kept (join p l r) w k =
        by_test (λ b. AllByRecursion IsKeptTree (cond b (siblings c l ++ siblings c r) (join p l r ∷ []))) (tree_meets c l || tree_meets c r)
        (λ met. let under = met_leaf c (join p l r) met in
        let both = sibling_kept rule boundary n p under.0 under.1 l r within w.0 under.2 (above under.1 under.3) in
        all_append IsKeptTree (siblings c l) (siblings c r) (siblings_kept l w.4 both.0) (siblings_kept r w.5 both.1))
        (λ _. (k, tt))

    all_siblings_kept : (ts : List Tree) → AllByRecursion (IsBuilt (forest rule n).nodes) ts → AllByRecursion IsKeptTree ts → AllByRecursion IsKeptTree (flat_map (siblings c) ts)
    all_siblings_kept [] w k = tt
    all_siblings_kept (t ∷ ts) w k = all_append IsKeptTree (siblings c t) (flat_map (siblings c) ts) (siblings_kept t w.0 k.0) (all_siblings_kept ts w.1 k.1)

  peaks_all_kept : AllByRecursion IsKeptTree (peaks_of rule n)
  peaks_all_kept = all_from_get IsKeptTree (peaks_of rule n) (λ i t e. let j = get_reversed (forest rule n).peaks i t e in peaks_kept rule boundary n j.0 t within j.1)

  pub reads_kept : (a b : ℕ) → boundary ≤ a → AllByRecursion IsKeptTree (nodes_read rule n a b)
  reads_kept a b low =
      let ts = peaks_of rule n in
      all_append IsKeptTree (wholly_before a ts) (wholly_after b ts ++ range_siblings a b ts) (all_filter IsKeptTree _ ts peaks_all_kept)
      (all_append IsKeptTree (wholly_after b ts) (range_siblings a b ts) (all_filter IsKeptTree _ ts peaks_all_kept)
      (all_siblings_kept (in_range a b) (λ k e. let f : a ≤ k = leb-true a k (and_parts (leb a k) (ltb k b) e).0 in omega (arith, f, low))
      (overlapping a b ts) (all_filter (IsBuilt (forest rule n).nodes) _ ts (peaks_built rule n)) (all_filter IsKeptTree _ ts peaks_all_kept)))

  pub position_kept : (ts : List Tree) → AllByRecursion IsKeptTree ts → (done rest : List ℕ) (p : ℕ) → map position ts ≡ done ++ p ∷ rest → is_kept rule boundary p ≡ true
  position_kept [] k [] rest p e = absurd (cc)
  position_kept [] k (d ∷ done) rest p e = absurd (cc)
  position_kept (t ∷ ts) k [] rest p e = let same : position t ≡ p = cc in subst (λ q. is_kept rule boundary q ≡ true) same k.0
  position_kept (t ∷ ts) k (d ∷ done) rest p e = let more : map position ts ≡ done ++ p ∷ rest = cc in position_kept ts k.1 done rest p more

-- nodes of n leaves are answered wherever the boundary keeps them
abbrev pub IsAnsweredWhereKept : {D : Type 0} → (rule : List ℕ → List ℕ) → (boundary n : ℕ) → (ℕ → Option D) → Type 0
IsAnsweredWhereKept {D} rule boundary n node = (p : ℕ) (t : Tree) → slice_get (forest rule n).nodes p ≡ Some t → is_kept rule boundary p ≡ true → (d : D) × (node p ≡ Some d)

module _ {D : Type 0} (h : Hashing D) (rule : List ℕ → List ℕ) (boundary n : ℕ) (within : boundary ≤ n) (node : ℕ → Option D) (answered : IsAnsweredWhereKept rule boundary n node) where
  -- then nothing that such a proof reads is missing
  none_missing : (bagging : Bagging) (k a b p : ℕ) → boundary ≤ a → IsFirstMissing (λ q r. r ≡ node q) (map position (reading_order bagging k rule n a b)) p → ⊥
  none_missing bagging k a b p low missing =
      let order = reading_order bagging k rule n a b in
      let at = all_reading_order (λ u. slice_get (forest rule n).nodes (position u) ≡ Some u) bagging k rule n a b (reads_at rule n a b) in
      let all_kept = all_reading_order (λ u. is_kept rule boundary (position u) ≡ true) bagging k rule n a b (reads_kept rule boundary n within a b low) in
      let t = position_of_node rule n order at missing.before missing.after p missing.split in
      let kept = position_kept rule boundary n within order all_kept missing.before missing.after p missing.split in
      let d = answered p t.0 t.1 kept in
      let none : Some d.0 ≡ None = sym d.1 ∙ sym missing.missing in absurd (cc)

  -- and the proof of leaves at or after the boundary is refused for want of memory alone
  pub only_memory : {F : Type 0} (bagging : Bagging) (a b k : ℕ) → boundary ≤ a → k ≤ length (peaks_of rule n) → (e : Error F)
      → (e ≢ OutOfMemory → IsBuildRefusal bagging rule (record { leaves = n; start = a; end = b }) k (λ p r. r ≡ node p) e) → e ≡ OutOfMemory
  only_memory bagging a b k low few e refused = elim (is_memory e) [
    | inr is ↦ is
    | inl other ↦ absurd (elim (refused other) [
      | inl x ↦ (let no : length (peaks_of rule n) < k = x.0 in omega (arith, no, few))
      | inr x ↦ none_missing bagging k a b x.1.0 low x.1.2
    ])
  ]
