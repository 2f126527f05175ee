-- What is hashed for an accepted range input with pins, from the digests that its store has and from the pins.
use Rattle.std.proofs.Common.{◌≡◌, ◌≢◌, ◌⊎◌, inl, inr, Result, Ok, Err, ℕ, ◌+◌, ◌-◌, ◌≤◌, List, [], ◌∷◌, ◌++◌, map, flat_map, take, drop, length, ap, ap₂}
use Rattle.std.proofs.Common.{sym, ◌∙◌, subst, ⊎_elim, arith, min, Option, Some, None, append_assoc}
use Rattle.std.proofs.lemmas.List.{length-take}
use Rattle.std.specs.List.{AllByRecursion}
use Rattle.std.specs.Option.{unwrap_or}
use Rattle.merkle_base.specs.Places.{peaks_of, wholly_before}
use Rattle.merkle_base.specs.Root.{folded, root_string}
use Rattle.merkle_base.specs.Scheme.{Scheme}
use Rattle.merkle_base.specs.Table.{digest_for}
use Rattle.merkle_base.specs.Tree.{Tree}
use Rattle.merkle_base.specs.declared.error.Error.{Error}
use Rattle.merkle_base.specs.declared.error.Error.TheVariants.{Empty, OutOfMemory}
use Rattle.merkle_base.specs.declared.family.Bagging.{Bagging}
use Rattle.merkle_base.specs.declared.family.Bagging.TheVariants.{ForwardFold, BackwardFold}
use Rattle.merkle_root_theory.specs.Check.{RangeInput, in_range, chosen, leaf_given, all_inputs}
use Rattle.merkle_root_theory.specs.Collision.{Member}
use Rattle.merkle_root_theory.specs.Expression.{Root, Bytes, visited}
use Rattle.merkle_root_theory.specs.Extract.{extracted}
use Rattle.merkle_root_theory.specs.Layouts.{count_before, count_after}
use Rattle.merkle_root_theory.specs.Outside.{folded_prefix, single_before, single_after, folded_suffix}
use Rattle.merkle_root_theory.specs.Range.{end_of, overlapping, wholly_after, AcceptsNonempty, IsEmptyInput}
use Rattle.merkle_root_theory.specs.Reconstruction.{reconstructed}
use Rattle.merkle_root_theory.specs.Walk.{peak_values}
use Rattle.merkle_root_theory.proofs.HonestInputs.{no_peaks_of}
use Rattle.merkle_root_theory.proofs.Reconstruction.{leads_is_accepted}
use Rattle.merkle_range.specs.Extracting.{IsExtractionRefusal}
use Rattle.merkle_root_theory.proofs.LayoutCounts.{length-fold_all, length-bag_all, length-single_before}
use Rattle.merkle_claim_theory.specs.Pinned.{pin_positions, pinned_on, AcceptsPinned, AcceptsPinnedSome}
use Rattle.merkle_claim_theory.specs.PinnedClaim.{pin_tree}
use Rattle.merkle_claim_theory.specs.Rebuilt.{rebuilt_node, pin_at}
use Rattle.merkle_claim_theory.specs.Verdict.{pinned_inputs}
use Rattle.merkle_claim_theory.proofs.AcceptedInputs.{pinned_cases}
use Rattle.merkle_store_theory.specs.StoreProof.{found_at}
use Rattle.merkle_store_theory.specs.StoreValue.{store_of}
use Rattle.merkle_audit_theory.specs.Folds.{numbered_inputs, fold_inputs}
use Rattle.merkle_pins_theory.specs.PinnedFolds.{pinned_over_inputs}
use Rattle.merkle_pins_theory.specs.PinnedNodes.{pinned_value, pinned_children, SeesDown}
use Rattle.merkle_audit_theory.specs.Searches.{input_at}
use Rattle.merkle_audit_theory.specs.Tiers.{AreOfTier}
use Rattle.merkle_audit_theory.proofs.ClaimParts.{node_told}
use Rattle.merkle_audit_theory.proofs.HonestClear.{no_expression}
use Rattle.merkle_pins_theory.proofs.PinnedInputs.{pinned_by_peaks}
use Rattle.merkle_pins_theory.proofs.PinnedNodes.{pinned_sees}
use Rattle.merkle_pins_theory.proofs.PinnedParts.{pinned_digests}
use Rattle.merkle_pins_theory.proofs.PinnedTiers.{pins_tier, pinned_over_tier}
use Rattle.merkle_audit_theory.proofs.TieredInputs.{tiers_joined, fold_tier}
use Rattle.merkle_audit_parts.specs.declared.pin_nodes.PinnedNodes.{PinnedNodes}
use Rattle.merkle_walks.specs.declared.top.Top.{Top}
use Rattle.merkle_walks.specs.Hashed.{fold_at}
use Rattle.merkle_audit_parts.specs.PinnedClaimed.{digest_given, pin_in, pinned_pair, IsPinnedClaim}
use Rattle.merkle_walks.proofs.Tops.{numbered_whole}
use Rattle.merkle_audit_parts.proofs.Verdicts.{one_ok}

-- the digests given before the range, and those after it, by numbers of peaks
module _ {D : Type 0} (s : Scheme D) (r : RangeInput D) (folded alone count single suffix : ℕ)
    (e1 : folded ≡ length (folded_prefix s.bagging r.inactive (wholly_before r.start (peaks_of s.rule r.leaves))))
    (e2 : alone ≡ length (single_before s.bagging r.inactive (wholly_before r.start (peaks_of s.rule r.leaves))))
    (e3 : count ≡ length (overlapping r.start (end_of r) (peaks_of s.rule r.leaves)))
    (e4 : single ≡ length (single_after s.bagging r.inactive
    (length (wholly_before r.start (peaks_of s.rule r.leaves)) + length (overlapping r.start (end_of r) (peaks_of s.rule r.leaves)))
    (wholly_after (end_of r) (peaks_of s.rule r.leaves))))
    (e5 : suffix ≡ length (folded_suffix s.bagging r.inactive
    (length (wholly_before r.start (peaks_of s.rule r.leaves)) + length (overlapping r.start (end_of r) (peaks_of s.rule r.leaves)))
    (wholly_after (end_of r) (peaks_of s.rule r.leaves)))) where
  abbrev b : List Tree
  b = wholly_before r.start (peaks_of s.rule r.leaves)

  abbrev o : List Tree
  o = overlapping r.start (end_of r) (peaks_of s.rule r.leaves)

  abbrev a : List Tree
  a = wholly_after (end_of r) (peaks_of s.rule r.leaves)

  pub front_is : min folded 1 + alone ≡ count_before s.bagging r.inactive b
  front_is = omega (arith, e1, e2, length-fold_all (folded_prefix s.bagging r.inactive b))

  pub back_is : single + min suffix 1 ≡ count_after s.bagging r.inactive (length b + length o) a
  back_is = omega (arith, e4, e5, length-bag_all ((length b + length o) + (r.inactive - (length b + length o))) (folded_suffix s.bagging r.inactive (length b + length o) a))

  pub first_is : (folded + alone) + count ≡ length b + length o
  first_is = omega (arith, e1, e2, e3, length-single_before s.bagging r.inactive b, prefix_within s.bagging r.inactive b)
    where
      prefix_within : (bagging : Bagging) (k : ℕ) (us : List Tree) → length (folded_prefix bagging k us) ≤ length us
      prefix_within ForwardFold k us = omega arith
      prefix_within BackwardFold k us = omega (arith, length-take k us)

module _ {F D P Q : Type 0} (s : Scheme D) (r : RangeInput D) (pins : List D) (root : D) (none : D) (ok : AcceptsNonempty s r root) (all_ok : AcceptsPinned s r pins root)
    (n : PinnedNodes F D P Q) (stored : n.store ≡ Some (store_of s r root)) (first : n.start ≡ r.start) (last : n.end ≡ end_of r)
    (placed : n.positions.items ≡ pin_positions s r.start) (pinned : n.pins.items ≡ pins) where
  -- with elements
  pub some_ok : AcceptsPinnedSome s r pins root
  some_ok = ⊎_elim (λ w. w) (λ w. absurd (omega (arith, ok.nonempty, ap length w.0.0.elements))) ((pinned_cases s r pins root).1 all_ok)

  -- what the store has at a node
  pub given : (p : ℕ) (d : D) → Member (extracted s r) (p, d) → digest_given none n p ≡ d
  given p d m = ap (λ o. elim o [ Some v ↦ unwrap_or (found_at v.pairs p) none | None ↦ none ]) stored ∙ node_told s r ok.nonempty ok.within none p d m

  abbrev before : List Tree
  before = wholly_before r.start (peaks_of s.rule r.leaves)

  abbrev over : List Tree
  over = overlapping r.start (end_of r) (peaks_of s.rule r.leaves)

  abbrev after : List Tree
  after = wholly_after (end_of r) (peaks_of s.rule r.leaves)

  abbrev i : ℕ
  i = count_before s.bagging r.inactive before

  abbrev j : ℕ
  j = count_after s.bagging r.inactive (length before + length over) after

  abbrev all : List D
  all = map (rebuilt_node s.hashing (pin_at s r.start pins)) before ++ (peak_values s.hashing (chosen r) (leaf_given s.hashing r) over (drop (i + j) r.digests) ++ take j (drop i r.digests))

  -- the pins that it has
  pins_are : ◌≡◌ {A = ℕ → Option D} (λ p. digest_for n.positions.items n.pins.items p) (λ p. digest_for (pin_positions s r.start) pins p)
  pins_are = ap₂ (λ ps ds p. digest_for ps ds p) placed pinned

  -- the digests that are folded
  pub all_are : (front back count : ℕ) → front ≡ count_before s.bagging r.inactive (wholly_before r.start (peaks_of s.rule r.leaves))
      → back ≡ count_after s.bagging r.inactive
      (length (wholly_before r.start (peaks_of s.rule r.leaves)) + length (overlapping r.start (end_of r) (peaks_of s.rule r.leaves)))
      (wholly_after (end_of r) (peaks_of s.rule r.leaves))
      → count ≡ length (wholly_before r.start (peaks_of s.rule r.leaves)) + length (overlapping r.start (end_of r) (peaks_of s.rule r.leaves))
      → map (pinned_value s.hashing (pin_in n) n.start (digest_given none n)) (take count (peaks_of s.rule r.leaves)) ++ take back (drop front r.digests) ≡ all
  all_are front back count f k c =
      let g = digest_given none n in
      ap₂ (λ ds es. ds ++ es)
      (ap₂ (λ b m. map (pinned_value s.hashing b m g) (take count (peaks_of s.rule r.leaves))) pins_are first ∙ pinned_digests s r ok.nonempty (pin_at s r.start pins) g given count c)
      (ap₂ (λ x y. take x (drop y r.digests)) k f)
      ∙ append_assoc (map (rebuilt_node s.hashing (pin_at s r.start pins)) before) (peak_values s.hashing (chosen r) (leaf_given s.hashing r) over (drop (i + j) r.digests)) (take j (drop i r.digests))

  pub pinned_claim_is : (t : Top F D) (ds : List D) → ds ≡ all
      → t.root.items ≡ root_string s.hashing s.domain s.bagging r.leaves r.inactive (folded s.hashing.fold s.bagging r.inactive ds)
      → map fold_at t.folds.items ≡ numbered_inputs s.hashing s.bagging r.inactive r.inactive 1 ds
      → IsPinnedClaim none s r pins t n
  pinned_claim_is t ds all_is string folds =
      let b = pin_at s r.start pins in
      let w = in_range 0 r.start in
      let rest = drop (i + j) r.digests in
      let us = flat_map (λ t. visited s.hashing (pin_tree s.hashing b t)) before in
      let vs = pinned_over_inputs s.hashing b w (chosen r) (leaf_given s.hashing r) over rest in
      let string' = string ∙ ap (λ l. root_string s.hashing s.domain s.bagging r.leaves r.inactive (folded s.hashing.fold s.bagging r.inactive l)) all_is in
      let folds' : map fold_at t.folds.items ≡ fold_inputs s.hashing s.bagging r.inactive all = folds
      ∙ numbered_whole s.hashing s.bagging r.inactive ds ∙ ap (fold_inputs s.hashing s.bagging r.inactive) all_is in
      let g = digest_given none n in
      record {
        nodes = us ++ vs;
        parts = pinned_by_peaks s r pins root some_ok ∙ sym (ap₂ (λ l fs. record { place = Root; argument = Bytes l } ∷ fs ++ (us ++ vs)) string' folds');
        above = subst (λ fs. AreOfTier 1 fs) (sym folds') (fold_tier s.hashing s.bagging r.inactive all);
        below = tiers_joined 2 us vs (pins_tier s.hashing b before) (pinned_over_tier s.hashing b w (chosen r) (leaf_given s.hashing r) over rest);
        sees = subst (λ c. AllByRecursion (λ u. SeesDown (pinned_children s.hashing c n.start n.end g) (input_at (pinned_inputs s r pins)) u) (peaks_of s.rule r.leaves)) (sym pins_are)
            (subst (λ i. AllByRecursion (λ u. SeesDown (pinned_children s.hashing b i n.end g) (input_at (pinned_inputs s r pins)) u) (peaks_of s.rule r.leaves)) (sym first)
            (subst (λ j. AllByRecursion (λ u. SeesDown (pinned_children s.hashing b r.start j g) (input_at (pinned_inputs s r pins)) u) (peaks_of s.rule r.leaves)) (sym last)
            (pinned_sees s r pins root some_ok g given)));
      }

-- ---- without elements
module _ {F D P Q : Type 0} (s : Scheme D) (none : D) where
  pub empty_pinned : (t : Top F D) (n : PinnedNodes F D P Q) → t.root.items ≡ root_string s.hashing s.domain s.bagging 0 0 None → map fold_at t.folds.items ≡ []
      → (r : RangeInput D) (pins : List D) → IsEmptyInput r → IsPinnedClaim none s r pins t n
  empty_pinned t n string folds r pins e =
      let no_peaks : peaks_of s.rule r.leaves ≡ [] = ap (λ m. peaks_of s.rule m) e.leaves ∙ no_peaks_of s.rule in
      let alone : pinned_inputs s r pins ≡ all_inputs s 0 0 None =
      ap (λ x. all_inputs s r.leaves r.inactive x) (no_expression s (pinned_on s r pins) r.leaves r.inactive e.leaves) ∙ ap₂ (λ n k. all_inputs s n k None) e.leaves e.inactive in
      record {
        nodes = [];
        parts = alone ∙ sym (ap₂ (λ b fs. record { place = Root; argument = Bytes b } ∷ fs ++ []) string folds);
        above = subst (λ fs. AreOfTier 1 fs) (sym folds) tt;
        below = tt;
        sees = subst (λ ts. AllByRecursion (λ u. SeesDown (pinned_pair s.hashing none n) (input_at (pinned_inputs s r pins)) u) ts) (sym no_peaks) tt;
      }

-- a store is refused for an accepted input only where there are no elements
pub refused_empty : {F D E : Type 0} (s : Scheme D) (r : RangeInput D) (pins : List D) (root : D) (e : Error F) (es : List E) → AcceptsPinned s r pins root → e ≢ OutOfMemory
    → (e ≢ OutOfMemory → IsExtractionRefusal s r root e ⊎ ((reconstructed s r ≡ Ok root) × (es ≡ []) × (e ≡ Empty))) → (es ≡ []) × (e ≡ Empty)
refused_empty s r pins root e es ok n f = elim (f n) [
  | inl (inl w) ↦ absurd (err_ok w.0 root (sym w.1 ∙ ok.0))
  | inl (inr w) ↦ absurd (w.2 (one_ok w.0 root (sym w.1 ∙ ok.0)))
  | inr w ↦ (w.1, w.2)
]
  where
    err_ok : {A B : Type 0} (a : A) (b : B) → ◌≡◌ {A = Result B A} (Err a) (Ok b) → ⊥
    err_ok a b e = cc

-- and then it is the empty input
pub empty_accepted : {D : Type 0} (s : Scheme D) (r : RangeInput D) (pins : List D) (root : D) → AcceptsPinned s r pins root → length r.elements ≡ 0 → IsEmptyInput r
empty_accepted s r pins root ok none = elim ((leads_is_accepted s r root).0 ok.0) [ inl a ↦ absurd (omega (arith, a.nonempty, none)) | inr a ↦ a.0 ]
