-- What a check of scattered leaves accepts, by what it computes of the peaks.
use Rattle.std.proofs.Common.{◌≡◌, ◌≢◌, ◌↔◌, ℕ, ◌<◌, ◌≤◌, List, [], ◌∷◌, length, map, Option, Ok, option_map, inl, inr, refl, ap, ap₂, sym, ◌∙◌, subst, ⊎_elim, arith}
use Rattle.std.specs.List.{AllByRecursion}
use Rattle.std.specs.Borrow.{Bor}
use Rattle.std.proofs.lemmas.List.{length-map}
use Rattle.merkle_base.specs.Hashing.{Hashing}
use Rattle.merkle_base.specs.Places.{peaks_of}
use Rattle.merkle_base.specs.Root.{root_string, peaks_root}
use Rattle.merkle_base.specs.Scheme.{Scheme}
use Rattle.merkle_base.specs.Tree.{Tree}
use Rattle.merkle_root_theory.specs.Check.{root_of}
use Rattle.merkle_root_theory.specs.Expression.{value, Holds}
use Rattle.merkle_root_theory.specs.Plan.{Plan, peak, folding}
use Rattle.merkle_root_theory.specs.Reconstruction.{reconstructed}
use Rattle.merkle_root_theory.proofs.ListRoots.{folded_values}
use Rattle.merkle_root_theory.proofs.Reconstruction.{leads_is_accepted}
use Rattle.merkle_claim_theory.specs.Multiproof.{MultiInput, multi_positions, locations_in, multi_on, multi_expression, AllHolds, AcceptsMultiCases, AcceptsMultiSome}
use Rattle.merkle_base.specs.Table.{digest_for}
use Rattle.merkle_claim_theory.proofs.ListedDigests.{EachPeak, each_of, of_each, plan_for}
use Rattle.merkle_scattered.specs.Confirmed.{EachHolds, node_checked, nodes_checked, locations_of}
use Rattle.merkle_range.specs.Input.{range_input}
use Rattle.merkle_proof.specs.Input.{by_location, element_leaves, located_input}
use Rattle.merkle_scattered.specs.MultiPositions.{AreLocations}

-- the locations of elements, which their leaf digests don't change
pub locations_given : {D : Type 0} (h : Hashing D) (rule : List ℕ → List ℕ) (es : List (Bor (List ℕ) × ℕ)) → locations_of (element_leaves h rule es) ≡ map (λ e. e.1) es
locations_given h rule [] = refl
locations_given h rule (e ∷ es) = ap (λ is. e.1 ∷ is) (locations_given h rule es)

-- the locations of leaves, which are given with them
pub locations_by : {D : Type 0} (ls : List (D × ℕ)) → locations_of (by_location ls) ≡ map (λ l. l.1) ls
locations_by [] = refl
locations_by (l ∷ ls) = ap (λ is. l.1 ∷ is) (locations_by ls)

-- leaves are within the limit that their locations keep
pub within_limit : {A : Type 0} {m n : ℕ} (es : List (A × ℕ)) → AreLocations m n (map (λ e. e.1) es) → AllByRecursion (λ e. e.1 ≤ m) es
within_limit {A = A} {m = m} {n = n} es at = each_below es at.below
  where
    each_below : (es : List (A × ℕ)) → AllByRecursion (λ i. i < n) (map (λ e. e.1) es) → AllByRecursion (λ e. e.1 ≤ m) es
    each_below [] below = tt
    each_below (e ∷ es) below = (omega (arith, at.leaves, below.0), each_below es below.1)

-- what a check that tells digests at positions finds of the peaks
abbrev pub PeaksAre : {D : Type 0} → Hashing D → List ℕ → List D → List (ℕ × D) → List Tree → List D → Type 0
PeaksAre h ps ds es ts found = EachHolds h (digest_for ps ds) es ts × (found ≡ nodes_checked h (digest_for ps ds) es ts)

pub some_by : {D : Type 0} (ls : List (D × ℕ)) → 0 < length ls → 0 < length (by_location ls)
some_by [] l = absurd (omega (arith, l))
some_by (k ∷ ls) l = omega arith

pub some_given : {D : Type 0} (h : Hashing D) (rule : List ℕ → List ℕ) (es : List (Bor (List ℕ) × ℕ)) → 0 < length es → 0 < length (element_leaves h rule es)
some_given h rule [] l = absurd (omega (arith, l))
some_given h rule (e ∷ es) l = omega arith

module _ {D : Type 0} (s : Scheme D) (r : MultiInput D) where
  -- the digest that the proof tells at a position
  abbrev pub told_in : ℕ → Option D
  told_in = digest_for (multi_positions s.rule r.leaves (locations_in r)) r.digests

  abbrev peaks : List Tree
  peaks = peaks_of s.rule r.leaves

  abbrev pub EachIn : Type 0
  EachIn = EachHolds s.hashing told_in r.elements peaks

  holds_each : (p : Plan) → Holds s.hashing (multi_on s r p) → EachPeak (λ t. Holds s.hashing (node_checked s.hashing told_in r.elements t)) p
  holds_each (peak t) w = w
  holds_each (folding place l q) w = (holds_each l w.0, holds_each q w.1)

  each_holds : (p : Plan) → EachPeak (λ t. Holds s.hashing (node_checked s.hashing told_in r.elements t)) p → Holds s.hashing (multi_on s r p)
  each_holds (peak t) w = w
  each_holds (folding place l q) w = (each_holds l w.0, each_holds q w.1)

  -- there are leaves if there are locations
  pub some_located_given : 0 < length (locations_in r) → 0 < length r.elements
  some_located_given l = omega (arith, l, length-map r.elements (λ e. e.0))

  module _ (some : 0 < length r.elements) (root : D) where
    accepted_some : AcceptsMultiCases s r root → AcceptsMultiSome s r root
    accepted_some (inl w) = w
    accepted_some (inr w) = absurd (omega (arith, some, ap length w.0.elements))

    some_leaves : (is : List ℕ) → 0 < length is → AllByRecursion (λ i. i < r.leaves) is → 0 < r.leaves
    some_leaves [] l b = absurd (omega (arith, l))
    some_leaves (i ∷ is) l b = omega (arith, b.0)

    some_located : 0 < length (locations_in r)
    some_located = omega (arith, some, length-map r.elements (λ e. e.0))

    -- what is known of an accepted input
    pub accepted_locations : AcceptsMultiCases s r root → AreLocations s.max_leaves r.leaves (locations_in r)
    accepted_locations ok = let w = accepted_some ok in record { nonempty = some_located; ascend = w.ascend; below = w.below; leaves = w.leaves }

    pub accepted_count : AcceptsMultiCases s r root → length (multi_positions s.rule r.leaves (locations_in r)) ≡ length r.digests
    accepted_count ok = sym (accepted_some ok).counts

    -- none is accepted of which no positions are read
    pub never_read : (locations : List ℕ) → locations_in r ≡ locations
        → (AreLocations s.max_leaves r.leaves locations → length (multi_positions s.rule r.leaves locations) ≢ length r.digests) → AcceptsMultiCases s r root → ⊥
    never_read locations same none ok =
        none (subst (AreLocations s.max_leaves r.leaves) same (accepted_locations ok))
        (ap (λ is. length (multi_positions s.rule r.leaves is)) (sym same) ∙ accepted_count ok)

    pub accepted_each : AcceptsMultiCases s r root → EachIn
    accepted_each ok =
        let w = accepted_some ok in
        let p = plan_for s r.leaves r.inactive (some_leaves (locations_in r) some_located w.below) in
        each_of (λ t. Holds s.hashing (node_checked s.hashing told_in r.elements t)) s.bagging r.inactive peaks p.0 p.1
        (holds_each p.0 (subst (λ o. AllHolds s (option_map (multi_on s r) o)) p.1 w.redundant))

    -- the peaks lead to the root that is claimed
    root_computed : peaks_root s r.leaves r.inactive r.inactive (nodes_checked s.hashing told_in r.elements peaks) ≡ root_of s r.leaves r.inactive (multi_expression s r)
    root_computed = ap (λ o. s.hashing.hash (root_string s.hashing s.domain s.bagging r.leaves r.inactive o)) (folded_values s.hashing (multi_on s r) (λ place l q. refl) s.bagging r.inactive peaks)

    module _ (ds : List D) (computed : D) (ds_are : ds ≡ nodes_checked s.hashing told_in r.elements peaks) (computed_is : computed ≡ peaks_root s r.leaves r.inactive r.inactive ds) where
      root_is : computed ≡ root_of s r.leaves r.inactive (multi_expression s r)
      root_is = computed_is ∙ ap (peaks_root s r.leaves r.inactive r.inactive) ds_are ∙ root_computed

      pub accepted_root : AcceptsMultiCases s r root → computed ≡ root
      accepted_root ok = root_is ∙ (accepted_some ok).root_is

      pub accepts : AreLocations s.max_leaves r.leaves (locations_in r) → length (multi_positions s.rule r.leaves (locations_in r)) ≡ length r.digests
          → EachIn → r.inactive ≤ length ds → computed ≡ root → AcceptsMultiCases s r root
      accepts at count each low e =
          let p = plan_for s r.leaves r.inactive (some_leaves (locations_in r) some_located at.below) in
          inl (record {
            nonempty = some;
            ascend = at.ascend;
            below = at.below;
            leaves = at.leaves;
            inactive = omega (arith, low, ap length ds_are, length-map peaks (λ t. value s.hashing (node_checked s.hashing told_in r.elements t)));
            counts = sym count;
            redundant = subst (λ o. AllHolds s (option_map (multi_on s r) o)) (sym p.1)
                (each_holds p.0 (of_each (λ t. Holds s.hashing (node_checked s.hashing told_in r.elements t)) s.bagging r.inactive peaks p.0 p.1 each));
            root_is = sym root_is ∙ e;
          })

-- without elements the inputs that are accepted are those of a range
pub empty_accepted : {D : Type 0} (s : Scheme D) (leaves inactive : ℕ) (digests : List D) (root : D)
    → (reconstructed s (range_input s leaves inactive digests 0 []) ≡ Ok root) ↔ AcceptsMultiCases s (located_input leaves inactive digests []) root
empty_accepted s leaves inactive digests root =
    let r = range_input s leaves inactive digests 0 [] in
    let w = leads_is_accepted s r root in (
      λ e. ⊎_elim (λ v. absurd (omega (arith, v.nonempty))) (λ v. inr (record { elements = refl; leaves = v.0.leaves; inactive = v.0.inactive; digests = v.0.digests }, v.1)) (w.0 e),
      λ ok. w.1 (⊎_elim (λ v. absurd (omega (arith, v.nonempty))) (λ v. inr (record { elements = refl; start = refl; leaves = v.0.leaves; inactive = v.0.inactive; digests = v.0.digests }, v.1)) ok),
    )

-- an input is known by the parts of its proof
pub same_located_input : {D : Type 0} (located : List (ℕ × D)) (n m k j : ℕ) (ds fs : List D) → n ≡ m → k ≡ j → ds ≡ fs → located_input n k ds located ≡ located_input m j fs located
same_located_input located n m k j ds fs p q r = ap₂ (λ x y. located_input x y ds located) p q ∙ ap (λ z. located_input m j z located) r
