-- What is hashed for an accepted input, from the digests that its store has.
use Rattle.std.proofs.Common.{◌≡◌, ◌≢◌, ◌⊎◌, inl, inr, Ok, Bool, true, false, IsTrue, nat_eq, ℕ, suc, pred, ◌<◌, ◌≤◌, ◌+◌, ◌-◌, List, [], ◌∷◌, ◌++◌, map, take}
use Rattle.std.proofs.Common.{drop, length, length-append, refl, ap, ap₂, sym, ◌∙◌, subst, arith, min, max, zero, Option, Some, None}
use Rattle.std.proofs.lemmas.Bool.{eqb-false, false≢true}
use Rattle.std.proofs.lemmas.List.{length-map, length-take}
use Rattle.std.specs.Prelude.{not}
use Rattle.std.specs.List.{AllByRecursion}
use Rattle.std.specs.Option.{unwrap_or, IfNone}
use Rattle.merkle_base.specs.Places.{peaks_of, wholly_before}
use Rattle.merkle_base.specs.Root.{folded, root_string}
use Rattle.merkle_base.specs.Scheme.{Scheme}
use Rattle.merkle_base.specs.Tree.{Tree}
use Rattle.merkle_base.specs.declared.error.Error.{Error}
use Rattle.merkle_base.specs.declared.error.Error.TheVariants.{Empty, InvalidProof, RootMismatch, OutOfMemory}
use Rattle.merkle_base.specs.declared.family.Bagging.{Bagging}
use Rattle.merkle_base.specs.declared.family.Bagging.TheVariants.{ForwardFold, BackwardFold}
use Rattle.merkle_hasher.specs.Subtrees.{subtree_of}
use Rattle.merkle_root_theory.specs.Check.{RangeInput, chosen, leaf_given, range_inputs}
use Rattle.merkle_root_theory.specs.Collision.{Member}
use Rattle.merkle_root_theory.specs.Expression.{Root, Bytes}
use Rattle.merkle_root_theory.specs.Extract.{extracted}
use Rattle.merkle_root_theory.specs.Layouts.{count_before, count_after, count_inactive}
use Rattle.merkle_root_theory.specs.Outside.{folded_prefix, single_before, single_after, folded_suffix}
use Rattle.merkle_root_theory.specs.Range.{end_of, overlapping, range_siblings, wholly_after, AcceptsNonempty, IsEmptyInput}
use Rattle.merkle_root_theory.specs.Reads.{nodes_read}
use Rattle.merkle_root_theory.specs.Reconstruction.{reconstructed}
use Rattle.merkle_root_theory.specs.Walk.{peak_values}
use Rattle.merkle_root_theory.proofs.HonestInputs.{no_peaks_of}
use Rattle.merkle_root_theory.proofs.LayoutCounts.{length-fold_all, length-bag_all, length-single_before, length-folded_suffix, length-layout}
use Rattle.merkle_root_theory.proofs.PeakGroups.{length-peaks_of}
use Rattle.merkle_root_theory.proofs.Reconstruction.{leads_is_accepted}
use Rattle.merkle_range.specs.Extracting.{IsExtractionRefusal}
use Rattle.merkle_proof.specs.RangePlans.{LeafRange, IsRefusal}
use Rattle.merkle_store_theory.specs.StoreProof.{found_at}
use Rattle.merkle_store_theory.specs.StoreValue.{store_of}
use Rattle.merkle_audit_theory.specs.Folds.{numbered_inputs, over_inputs}
use Rattle.merkle_audit_theory.specs.Searches.{input_at}
use Rattle.merkle_audit_theory.specs.Seen.{met_children, Sees}
use Rattle.merkle_audit_theory.specs.Tiers.{AreOfTier}
use Rattle.merkle_audit_theory.proofs.Audited.{empty_inputs}
use Rattle.merkle_audit_theory.proofs.ClaimParts.{node_told}
use Rattle.merkle_audit_theory.proofs.RangeInputs.{range_by_peaks}
use Rattle.merkle_audit_theory.proofs.SeenNodes.{range_sees}
use Rattle.merkle_audit_theory.proofs.TieredInputs.{numbered_tier, over_tier}
use Rattle.merkle_audit_parts.specs.declared.claim.Claim.{Claim}
use Rattle.merkle_audit_parts.specs.declared.claim.RangeNodes.{RangeNodes}
use Rattle.merkle_audit_parts.specs.Claimed.{digest_in_claim, range_pair, IsClaim}
use Rattle.merkle_walks.specs.Hashed.{fold_at}

-- ---- with elements
module _ {F D P Q : Type 0} (s : Scheme D) (r : RangeInput D) (root : D) (none : D) (ok : AcceptsNonempty s r root) (n : RangeNodes F D P Q) (stored : n.store ≡ Some (store_of s r root)) where
  -- what the store has at a node
  pub told : (p : ℕ) (d : D) → Member (extracted s r) (p, d) → digest_in_claim none n p ≡ d
  told p d m = ap (λ o. elim o [ Some v ↦ unwrap_or (found_at v.pairs p) none | None ↦ none ]) stored ∙ node_told s r ok.nonempty ok.within none p d m

  abbrev before : ℕ
  before = count_before s.bagging r.inactive (wholly_before r.start (peaks_of s.rule r.leaves))

  abbrev after : ℕ
  after = count_after s.bagging r.inactive
      (length (wholly_before r.start (peaks_of s.rule r.leaves)) + length (overlapping r.start (end_of r) (peaks_of s.rule r.leaves)))
      (wholly_after (end_of r) (peaks_of s.rule r.leaves))

  -- the digests that are folded to the root
  abbrev pub folded_digests : List D
  folded_digests = take before r.digests
      ++ (peak_values s.hashing (chosen r) (leaf_given s.hashing r) (overlapping r.start (end_of r) (peaks_of s.rule r.leaves))
      (drop (before + after) r.digests) ++ take after (drop before r.digests))

  pub claim_is : (c : Claim F D P Q) → c.nodes ≡ n → n.start ≡ r.start → n.end ≡ end_of r → (apart number : ℕ) (all : List D)
      → apart ≡ count_inactive s.bagging r.inactive (wholly_before r.start (peaks_of s.rule r.leaves))
      → number ≡ suc (pred (length (folded_prefix s.bagging r.inactive (wholly_before r.start (peaks_of s.rule r.leaves)))))
      → all ≡ folded_digests
      → c.top.root.items ≡ root_string s.hashing s.domain s.bagging r.leaves r.inactive (folded s.hashing.fold s.bagging apart all)
      → map fold_at c.top.folds.items ≡ numbered_inputs s.hashing s.bagging r.inactive apart number all
      → c.peaks.items ≡ map subtree_of (peaks_of s.rule r.leaves)
      → IsClaim none s r c
  claim_is c of first last apart number all apart_is number_is all_is string folds peaks =
      let over = over_inputs s.hashing (chosen r) (leaf_given s.hashing r) (overlapping r.start (end_of r) (peaks_of s.rule r.leaves)) (drop (before + after) r.digests) in
      let string' : c.top.root.items
      ≡ root_string s.hashing s.domain s.bagging r.leaves r.inactive
      (folded s.hashing.fold s.bagging (count_inactive s.bagging r.inactive (wholly_before r.start (peaks_of s.rule r.leaves))) folded_digests) =
      string ∙ ap₂ (λ j l. root_string s.hashing s.domain s.bagging r.leaves r.inactive (folded s.hashing.fold s.bagging j l)) apart_is all_is in
      let folds' : map fold_at c.top.folds.items
      ≡ numbered_inputs s.hashing s.bagging r.inactive (count_inactive s.bagging r.inactive (wholly_before r.start (peaks_of s.rule r.leaves)))
      (suc (pred (length (folded_prefix s.bagging r.inactive (wholly_before r.start (peaks_of s.rule r.leaves)))))) folded_digests =
      folds ∙ ap₂ (λ j m. numbered_inputs s.hashing s.bagging r.inactive j m all) apart_is number_is
      ∙ ap (λ l. numbered_inputs s.hashing s.bagging r.inactive
      (count_inactive s.bagging r.inactive (wholly_before r.start (peaks_of s.rule r.leaves)))
      (suc (pred (length (folded_prefix s.bagging r.inactive (wholly_before r.start (peaks_of s.rule r.leaves)))))) l) all_is in
      record {
        nodes = over;
        parts = range_by_peaks s r root ok ∙ sym (ap₂ (λ b fs. record { place = Root; argument = Bytes b } ∷ fs ++ over) string' folds');
        above = subst (λ fs. AreOfTier 1 fs) (sym folds) (numbered_tier s.hashing s.bagging r.inactive apart number all);
        below = over_tier s.hashing (chosen r) (leaf_given s.hashing r) (overlapping r.start (end_of r) (peaks_of s.rule r.leaves)) (drop (before + after) r.digests);
        bounded = ok.leaves;
        peaks = peaks;
        sees = subst (λ (m : RangeNodes F D P Q). AllByRecursion (λ t. Sees (range_pair none m) (input_at (range_inputs s r)) t) (peaks_of s.rule r.leaves)) (sym of)
            (subst (λ i. AllByRecursion (λ t. Sees (met_children i n.end (digest_in_claim none n)) (input_at (range_inputs s r)) t) (peaks_of s.rule r.leaves)) (sym first)
            (subst (λ j. AllByRecursion (λ t. Sees (met_children r.start j (digest_in_claim none n)) (input_at (range_inputs s r)) t) (peaks_of s.rule r.leaves)) (sym last)
            (range_sees s r ok.nonempty ok.within (digest_in_claim none n) told)));
      }

-- ---- the parts fit
module _ {D : Type 0} (s : Scheme D) (r : RangeInput D) (root : D) (ok : AcceptsNonempty s r root) (folded alone count single suffix : ℕ)
    (e1 : folded ≡ length (folded_prefix s.bagging r.inactive (wholly_before r.start (peaks_of s.rule r.leaves))))
    (e2 : alone ≡ length (single_before s.bagging r.inactive (wholly_before r.start (peaks_of s.rule r.leaves))))
    (e3 : count ≡ length (overlapping r.start (end_of r) (peaks_of s.rule r.leaves)))
    (e4 : single ≡ length (single_after s.bagging r.inactive
    (length (wholly_before r.start (peaks_of s.rule r.leaves)) + length (overlapping r.start (end_of r) (peaks_of s.rule r.leaves)))
    (wholly_after (end_of r) (peaks_of s.rule r.leaves))))
    (e5 : suffix ≡ length (folded_suffix s.bagging r.inactive
    (length (wholly_before r.start (peaks_of s.rule r.leaves)) + length (overlapping r.start (end_of r) (peaks_of s.rule r.leaves)))
    (wholly_after (end_of r) (peaks_of s.rule r.leaves)))) where
  abbrev b : List Tree
  b = wholly_before r.start (peaks_of s.rule r.leaves)

  abbrev o : List Tree
  o = overlapping r.start (end_of r) (peaks_of s.rule r.leaves)

  abbrev a : List Tree
  a = wholly_after (end_of r) (peaks_of s.rule r.leaves)

  pub digests_fit : (min folded 1 + alone) + (single + min suffix 1) ≤ length r.digests
  digests_fit = omega (
    arith,
    e1,
    e2,
    e4,
    e5,
    ok.counts,
    length-layout s.bagging r.inactive b o a,
    length-fold_all (folded_prefix s.bagging r.inactive b),
    length-bag_all ((length b + length o) + (r.inactive - (length b + length o))) (folded_suffix s.bagging r.inactive (length b + length o) a),
  )

  -- as many digests as nodes are read, but for those that are folded with another one
  pub digests_counted : length r.digests ≡ (length (nodes_read s.rule r.leaves r.start (end_of r)) - (folded - 1)) - (suffix - 1)
  digests_counted = omega (
    arith,
    e1,
    e2,
    e4,
    e5,
    ok.counts,
    length-layout s.bagging r.inactive b o a,
    length-fold_all (folded_prefix s.bagging r.inactive b),
    length-bag_all ((length b + length o) + (r.inactive - (length b + length o))) (folded_suffix s.bagging r.inactive (length b + length o) a),
    length-single_before s.bagging r.inactive b,
    prefix_within s.bagging r.inactive b,
    length-folded_suffix s.bagging r.inactive (length b + length o) a,
    after_within s.bagging r.inactive (length b + length o) a,
    length-append b (a ++ range_siblings r.start (end_of r) (peaks_of s.rule r.leaves)),
    length-append a (range_siblings r.start (end_of r) (peaks_of s.rule r.leaves)),
  )
    where
      prefix_within : (bagging : Bagging) (k : ℕ) (us : List Tree) → length (folded_prefix bagging k us) ≤ length us
      prefix_within ForwardFold k us = omega arith
      prefix_within BackwardFold k us = omega (arith, length-take k us)

      after_within : (bagging : Bagging) (k met : ℕ) (us : List Tree) → length (single_after bagging k met us) ≤ length us
      after_within ForwardFold k met us = omega arith
      after_within BackwardFold k met us = omega (arith, length-take (k - met) us)

  pub all_fit : ((folded + alone) + count) + (single + suffix) ≤ length (peaks_of s.rule r.leaves)
  all_fit = omega (
    arith,
    e1,
    e2,
    e3,
    e4,
    e5,
    length-single_before s.bagging r.inactive b,
    prefix_within s.bagging r.inactive b,
    length-folded_suffix s.bagging r.inactive (length b + length o) a,
    after_within s.bagging r.inactive (length b + length o) a,
    length-peaks_of s.rule r.leaves r.start (end_of r) (omega (arith, ok.nonempty)),
  )
    where
      prefix_within : (bagging : Bagging) (k : ℕ) (us : List Tree) → length (folded_prefix bagging k us) ≤ length us
      prefix_within ForwardFold k us = omega arith
      prefix_within BackwardFold k us = omega (arith, length-take k us)

      after_within : (bagging : Bagging) (k met : ℕ) (us : List Tree) → length (single_after bagging k met us) ≤ length us
      after_within ForwardFold k met us = omega arith
      after_within BackwardFold k met us = omega (arith, length-take (k - met) us)

  pub peaks_fit : (folded + alone) + count ≤ length (peaks_of s.rule r.leaves)
  peaks_fit = omega (
    arith,
    e1,
    e2,
    e3,
    length-single_before s.bagging r.inactive b,
    prefix_within s.bagging r.inactive b,
    length-peaks_of s.rule r.leaves r.start (end_of r) (omega (arith, ok.nonempty)),
  )
    where
      prefix_within : (bagging : Bagging) (k : ℕ) (us : List Tree) → length (folded_prefix bagging k us) ≤ length us
      prefix_within ForwardFold k us = omega arith
      prefix_within BackwardFold k us = omega (arith, length-take k us)

-- ---- what a plan of the range says
module _ {A D : Type 0} (s : Scheme D) (r : RangeInput D) (rule : List ℕ → List ℕ) (bagging : Bagging) (p : LeafRange) (rule_is : rule ≡ s.rule) (bagging_is : bagging ≡ s.bagging)
    (leaves_is : p.leaves ≡ r.leaves) (start_is : p.start ≡ r.start) (end_is : p.end ≡ end_of r) where
  pub part_is : (f : (List ℕ → List ℕ) → Bagging → (n a b : ℕ) → A) → f rule bagging p.leaves p.start p.end ≡ f s.rule s.bagging r.leaves r.start (end_of r)
  part_is f =
      ap (λ q. f q bagging p.leaves p.start p.end) rule_is ∙ ap (λ b. f s.rule b p.leaves p.start p.end) bagging_is ∙ ap (λ n. f s.rule s.bagging n p.start p.end) leaves_is
      ∙ ap (λ a. f s.rule s.bagging r.leaves a p.end) start_is ∙ ap (λ b. f s.rule s.bagging r.leaves r.start b) end_is

pub one_more : (n : ℕ) → max n 1 ≡ suc (pred n)
one_more zero = omega arith
one_more (suc n) = omega arith

-- the parts are no more than these
pub short : {A B : Type 0} (f : B → A) (n m o q : ℕ) (xs : List A) (ys : List B) → length (take n xs ++ (map f (take m ys) ++ take o (drop q xs))) ≤ n + (m + o)
short f n m o q xs ys = omega (
  arith,
  length-append (take n xs) (map f (take m ys) ++ take o (drop q xs)),
  length-append (map f (take m ys)) (take o (drop q xs)),
  length-map (take m ys) f,
  length-take n xs,
  length-take m ys,
  length-take o (drop q xs),
)

-- ---- refusals
pub only_memory : {F : Type 0} (e : Error F) → ((e ≡ OutOfMemory → ⊥) → ⊥) → e ≡ OutOfMemory
only_memory OutOfMemory f = refl
only_memory _ f = absurd (f (λ q. cc))

pub no_refusal : {F : Type 0} (max_leaves n a b : ℕ) (e : Error F) → a < b → b ≤ n → n ≤ max_leaves → IsRefusal max_leaves n a b e → ⊥
no_refusal max_leaves n a b e some within fits (inl w) = omega (arith, w.0, some)
no_refusal max_leaves n a b e some within fits (inr (inl w)) = omega (arith, w.1, within)
no_refusal max_leaves n a b e some within fits (inr (inr w)) = omega (arith, w.2, fits)

-- an input with elements that leads to a root is accepted
pub led_nonempty : {D : Type 0} (s : Scheme D) (r : RangeInput D) (d : D) → 0 < length r.elements → reconstructed s r ≡ Ok d → AcceptsNonempty s r d
led_nonempty s r d some led = elim ((leads_is_accepted s r d).0 led) [
  | inl ok ↦ ok
  | inr w ↦ absurd (let none : length r.elements ≡ 0 = ap length w.0.elements in omega (arith, none, some))
]

-- what holds where there is nothing, and what follows from it
pub none_then : {A : Type 0} (o : Option A) (P Q : Type 0) → IfNone o P → (P → Q) → IfNone o Q
none_then None P Q w f = f w
none_then (Some a) P Q w f = w

-- an input that leads to a root ends within the greatest leaf count
pub led_within : {D : Type 0} (s : Scheme D) (r : RangeInput D) (d : D) → reconstructed s r ≡ Ok d → end_of r ≤ s.max_leaves
led_within s r d led = elim ((leads_is_accepted s r d).0 led) [
  | inl a ↦ omega (arith, a.within, a.leaves)
  | inr a ↦ omega (arith, a.0.start, ap length a.0.elements)
]

-- two numbers that a test tells apart
pub told_apart : (a b : ℕ) → IsTrue (not (nat_eq a b)) → a ≡ b → ⊥
told_apart a b t e = eqb-false a b (not_true (nat_eq a b) t) e
  where
    not_true : (b : Bool) → not b ≡ true → b ≡ false
    not_true true e = absurd (false≢true e)
    not_true false e = refl

-- a store is refused as empty only where the check accepts no elements
pub empty_led : {F D E : Type 0} (s : Scheme D) (r : RangeInput D) (root : D) (e : Error F) (es : List E) → e ≡ Empty
    → (e ≢ OutOfMemory → IsExtractionRefusal s r root e ⊎ ((reconstructed s r ≡ Ok root) × (es ≡ []) × (e ≡ Empty))) → (reconstructed s r ≡ Ok root) × (es ≡ [])
empty_led s r root e es is f = elim (f (λ q. empty≢memory (sym is ∙ q))) [
  | inl (inl w) ↦ absurd (empty≢invalid (sym is ∙ w.2))
  | inl (inr w) ↦ absurd (empty≢mismatch (sym is ∙ w.3))
  | inr w ↦ (w.0, w.1)
]
  where
    empty≢memory : {F : Type 0} → ◌≡◌ {A = Error F} Empty OutOfMemory → ⊥
    empty≢memory e = cc

    empty≢invalid : {F : Type 0} → ◌≡◌ {A = Error F} Empty InvalidProof → ⊥
    empty≢invalid e = cc

    empty≢mismatch : {F : Type 0} → ◌≡◌ {A = Error F} Empty RootMismatch → ⊥
    empty≢mismatch e = cc

-- ---- without elements
module _ {F D P Q : Type 0} (s : Scheme D) (none : D) where
  pub empty_is : (c : Claim F D P Q) → c.top.root.items ≡ root_string s.hashing s.domain s.bagging 0 0 None → map fold_at c.top.folds.items ≡ []
      → c.peaks.items ≡ [] → (r : RangeInput D) → IsEmptyInput r → IsClaim none s r c
  empty_is c string folds peaks r e =
      let no_peaks : peaks_of s.rule r.leaves ≡ [] = ap (λ m. peaks_of s.rule m) e.leaves ∙ no_peaks_of s.rule in
      record {
        nodes = [];
        parts = empty_inputs s r e ∙ sym (ap₂ (λ b fs. record { place = Root; argument = Bytes b } ∷ fs ++ []) string folds);
        above = subst (λ fs. AreOfTier 1 fs) (sym folds) tt;
        below = tt;
        bounded = omega (arith, e.leaves);
        peaks = peaks ∙ sym (ap (map subtree_of) no_peaks);
        sees = subst (λ ts. AllByRecursion (λ t. Sees (range_pair none c.nodes) (input_at (range_inputs s r)) t) ts) (sym no_peaks) tt;
      }
