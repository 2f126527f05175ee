-- Why locations of leaves are refused, and what is known of those that aren't.
use Rattle.std.proofs.Common.{◌≡◌, ℕ, suc, Bool, true, false, ◌+◌, ◌≤◌, ◌<◌, List, [], ◌∷◌, ◌++◌, length, drop, get_or, nat_eq, nat_lt, nat_le, Option, None}
use Rattle.std.proofs.Common.{Some, refl, ap, sym, ◌∙◌, subst, arith, add-one, drop-cons, drop_of_length-le}
use Rattle.std.specs.List.{AllByRecursion}
use Rattle.std.proofs.lemmas.Bool.{lt-leb, le-ltb, ltb-false, leb-false, ne_eqb, eqb-false}
use Rattle.std.proofs.lemmas.Bool.Decides.{nat_tests}
use Rattle.merkle_base.specs.Cases.{first_case}
use Rattle.merkle_base.specs.declared.error.Error.{Error}
use Rattle.merkle_base.specs.declared.error.Error.TheVariants.{RangeOutOfBounds, LocationOverflow, DuplicateLocation, UnsortedLocation}
use Rattle.merkle_base.proofs.FirstCases.{first_case-true, first_case-false, first_case-none}
use Rattle.merkle_forest_theory.specs.Ascending.{AscendsFrom}
use Rattle.merkle_scattered.specs.MultiPositions.{AreLocations, location_refusals, later_refusals, multi_refusals}

-- the first case of a table is that of a longer one
pub case_before : {A : Type 0} (cs more : List (Bool × A)) (a : A) → first_case cs ≡ Some a → first_case (cs ++ more) ≡ Some a
case_before [] more a e = absurd (let f : ◌≡◌ {A = Option _} None (Some a) = e in cc)
case_before ((true, b) ∷ cs) more a e = e
case_before ((false, b) ∷ cs) more a e = case_before cs more a e

module _ (F : Type 0) (m n : ℕ) where
  -- a leaf isn't refused
  pub location_passed : (i : ℕ) (more : List (Bool × Error F)) → i < m → i < n → first_case (location_refusals m n i ++ more) ≡ first_case more
  location_passed i more a b =
      first_case-false (nat_le m i) (LocationOverflow i) ((nat_le n i, RangeOutOfBounds (i + 1)) ∷ more) (lt-leb m i a) ∙ first_case-false (nat_le n i) (RangeOutOfBounds (i + 1)) more (lt-leb n i b)

  module _ (before i : ℕ) (is : List ℕ) where
    abbrev unsorted : List (Bool × Error F)
    unsorted = (nat_lt i before, UnsortedLocation i) ∷ location_refusals m n i ++ later_refusals m n i is

    abbrev refusal : Option (Error F)
    refusal = first_case (later_refusals m n before (i ∷ is))

    pub refusal-duplicate : i ≡ before → refusal ≡ Some (DuplicateLocation i)
    refusal-duplicate e = first_case-true (nat_eq i before) (DuplicateLocation i) unsorted (grind (arith, nat_tests))

    pub refusal-unsorted : i < before → refusal ≡ Some (UnsortedLocation i)
    refusal-unsorted l =
        first_case-false (nat_eq i before) (DuplicateLocation i) unsorted (ne_eqb i before (λ e. absurd (omega (arith, l, e))))
        ∙ first_case-true (nat_lt i before) (UnsortedLocation i) (location_refusals m n i ++ later_refusals m n i is) (grind (arith, nat_tests))

    -- past the one before it is refused as a location alone
    later_sorted : before < i → refusal ≡ first_case (location_refusals m n i ++ later_refusals m n i is)
    later_sorted l =
        first_case-false (nat_eq i before) (DuplicateLocation i) unsorted (ne_eqb i before (λ e. absurd (omega (arith, l, e))))
        ∙ first_case-false (nat_lt i before) (UnsortedLocation i) (location_refusals m n i ++ later_refusals m n i is) (le-ltb i before (omega (arith, l)))

    pub refusal-location : before < i → (e : Error F) → first_case (location_refusals m n i) ≡ Some e → refusal ≡ Some e
    refusal-location l e is_refused = later_sorted l ∙ case_before (location_refusals m n i) (later_refusals m n i is) e is_refused

    pub later_passed : before < i → i < m → i < n → refusal ≡ first_case (later_refusals m n i is)
    later_passed l a b = later_sorted l ∙ location_passed i (later_refusals m n i is) a b

  -- locations of which none is refused
  later_none : (before : ℕ) (is : List ℕ) → first_case (later_refusals {F = F} m n before is) ≡ None → AscendsFrom (suc before) is × AllByRecursion (λ i. i < n) is
  later_none before [] e = (tt, tt)
  later_none before (i ∷ is) e =
      let others : List (Bool × Error F) = later_refusals m n i is in
      let fresh = first_case-none (nat_eq i before) (DuplicateLocation i) ((nat_lt i before, UnsortedLocation i) ∷ location_refusals m n i ++ others) e in
      let sorted = first_case-none (nat_lt i before) (UnsortedLocation i) (location_refusals m n i ++ others) fresh.1 in
      let valid = first_case-none (nat_le m i) (LocationOverflow i) ((nat_le n i, RangeOutOfBounds (i + 1)) ∷ others) sorted.1 in
      let within = first_case-none (nat_le n i) (RangeOutOfBounds (i + 1)) others valid.1 in
      let more = later_none i is within.1 in
      let past : before ≤ i = ltb-false i before sorted.0 in
      let other : (before ≡ i) → ⊥ = λ q. eqb-false i before fresh.0 (sym q) in
      ((strictly before i past other, more.0), (leb-false n i within.0, more.1))
    where
      strictly : (a b : ℕ) → a ≤ b → (a ≡ b → ⊥) → suc a ≤ b
      strictly a b l d = grind arith

  -- the first of some locations and the others
  module _ (first : ℕ) (others locations : List ℕ) (at : locations ≡ first ∷ others) where
    pub refusal-first : (e : Error F) → first_case (location_refusals m n first) ≡ Some e → first_case (multi_refusals m n locations) ≡ Some e
    refusal-first e is_refused =
        ap (λ ls. first_case (multi_refusals m n ls)) at ∙ case_before (location_refusals m n first) ((nat_lt m n, LocationOverflow n) ∷ later_refusals m n first others) e is_refused

    after_first : first < m → first < n → first_case (multi_refusals {F = F} m n locations) ≡ first_case ((nat_lt m n, LocationOverflow n) ∷ later_refusals m n first others)
    after_first a b = ap (λ ls. first_case (multi_refusals m n ls)) at ∙ location_passed first ((nat_lt m n, LocationOverflow n) ∷ later_refusals m n first others) a b

    pub refusal-leaves : first < m → first < n → m < n → first_case (multi_refusals {F = F} m n locations) ≡ Some (LocationOverflow n)
    refusal-leaves a b l = after_first a b ∙ first_case-true (nat_lt m n) (LocationOverflow n) (later_refusals m n first others) (grind (arith, nat_tests))

    pub after_leaves : first < m → first < n → n ≤ m → first_case (multi_refusals {F = F} m n locations) ≡ first_case (later_refusals m n first others)
    after_leaves a b l = after_first a b ∙ first_case-false (nat_lt m n) (LocationOverflow n) (later_refusals m n first others) (le-ltb m n l)

    pub all_found : first < n → n ≤ m → AscendsFrom (first + 1) others × AllByRecursion (λ i. i < n) others → AreLocations m n locations
    all_found b l w =
        subst (AreLocations m n) (sym at) (record { nonempty = omega arith; ascend = (omega arith, subst (λ (a : ℕ). AscendsFrom a others) (add-one first) w.0); below = (b, w.1); leaves = l })

  -- a loop over the locations after the first
  pub loop_refused : (first : ℕ) (others : List ℕ) (k before i : ℕ) (e : Error F)
      → first_case (later_refusals {F = F} m n first others) ≡ first_case (later_refusals m n before (drop k others)) → k < length others → i ≡ get_or others k i
      → ((is : List ℕ) → first_case (later_refusals m n before (i ∷ is)) ≡ Some e) → first_case (later_refusals m n first others) ≡ Some e
  loop_refused first others k before i e same l is h =
      same ∙ ap (λ ls. first_case (later_refusals m n before ls)) (drop-cons others k i l ∙ ap (λ j. j ∷ drop (suc k) others) (sym is)) ∙ h (drop (suc k) others)

  pub loop_passed : (first : ℕ) (others : List ℕ) (k before i : ℕ)
      → first_case (later_refusals {F = F} m n first others) ≡ first_case (later_refusals m n before (drop k others)) → k < length others → i ≡ get_or others k i
      → before < i → i < m → i < n → first_case (later_refusals {F = F} m n first others) ≡ first_case (later_refusals m n i (drop (k + 1) others))
  loop_passed first others k before i same l is a b c =
      same ∙ ap (λ ls. first_case (later_refusals m n before ls)) (drop-cons others k i l ∙ ap (λ j. j ∷ drop (suc k) others) (sym is)) ∙ later_passed before i (drop (suc k) others) a b c
      ∙ ap (λ j. first_case (later_refusals m n i (drop j others))) (sym (add-one k))

  pub loop_ends : (first : ℕ) (others : List ℕ) (k before : ℕ) → first_case (later_refusals {F = F} m n first others) ≡ first_case (later_refusals m n before (drop k others)) → length others ≤ k
      → AscendsFrom (first + 1) others × AllByRecursion (λ i. i < n) others
  loop_ends first others k before same l =
      let w = later_none first others (same ∙ ap (λ ls. first_case (later_refusals {F = F} m n before ls)) (drop_of_length-le others {i = k} l)) in
      (subst (λ (a : ℕ). AscendsFrom a others) (sym (add-one first)) w.0, w.1)

  -- some leaves that ascend are not refused
  none_later : (before : ℕ) (is : List ℕ) → n ≤ m → AscendsFrom (suc before) is → AllByRecursion (λ i. i < n) is → first_case (later_refusals {F = F} m n before is) ≡ None
  none_later before [] l u b = refl
  none_later before (i ∷ is) l u b = later_passed before i is (omega (arith, u.0)) (omega (arith, b.0, l)) b.0 ∙ none_later i is l u.1 b.1

  pub none_refused : (locations : List ℕ) → AreLocations m n locations → first_case (multi_refusals {F = F} m n locations) ≡ None
  none_refused [] w = absurd (omega (arith, w.nonempty))
  none_refused (i ∷ is) w =
      after_leaves i is (i ∷ is) refl (omega (arith, w.below.0, w.leaves)) w.below.0 w.leaves ∙ none_later i is w.leaves w.ascend.1 w.below.1

  pub refused_are_none : (locations : List ℕ) (e : Error F) → first_case (multi_refusals m n locations) ≡ Some e → AreLocations m n locations → ⊥
  refused_are_none locations e is_refused w = let f : ◌≡◌ {A = Option (Error F)} None (Some e) = sym (none_refused locations w) ∙ is_refused in cc
