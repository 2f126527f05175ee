-- A multi input is the honest one exactly if each of its parts is.
use Rattle.std.proofs.Common.{◌≡◌, ℕ, ◌≤◌, ◌<◌, List, [], ◌∷◌, length, map, inl, inr, refl, ap, ap₂, sym, ◌∙◌, subst, arith}
use Rattle.std.specs.List.{AllByRecursion}
use Rattle.merkle_base.specs.Forest.{forest}
use Rattle.merkle_base.specs.Places.{peaks_of}
use Rattle.merkle_base.specs.Scheme.{Scheme}
use Rattle.merkle_forest_theory.specs.Ascending.{AscendsFrom}
use Rattle.merkle_base.proofs.Lists.{cons_head, cons_tail}
use Rattle.merkle_root_theory.specs.Range.{leaf_of}
use Rattle.merkle_root_theory.proofs.HonestInputs.{none_inactive}
use Rattle.merkle_base.specs.Table.{digest_at_position}
use Rattle.merkle_claim_theory.specs.Multiproof.{MultiInput, locations_in, leaves_in, multi_positions, IsEmptyMulti, IsHonestMulti, IsHonestMultiSome, IsHonestMultiByCases}

-- numbers with a value at each: the numbers, and the values
pub map-first : {D : Type 0} (f : ℕ → D) (is : List ℕ) → map (λ (e : ℕ × D). e.0) (map (λ i. (i, f i)) is) ≡ is
map-first f [] = refl
map-first f (i ∷ is) = ap (λ (js : List ℕ). i ∷ js) (map-first f is)

pub map-second : {D : Type 0} (f : ℕ → D) (is : List ℕ) → map (λ (e : ℕ × D). e.1) (map (λ i. (i, f i)) is) ≡ map f is
map-second f [] = refl
map-second f (i ∷ is) = ap (λ ds. f i ∷ ds) (map-second f is)

pairs_are : {D : Type 0} (f : ℕ → D) (es : List (ℕ × D)) → map (λ (e : ℕ × D). e.1) es ≡ map f (map (λ (e : ℕ × D). e.0) es) → es ≡ map (λ i. (i, f i)) (map (λ (e : ℕ × D). e.0) es)
pairs_are f [] e = refl
pairs_are {D = D} f (x ∷ es) e = ap₂ (λ (d : D) (zs : List (ℕ × D)). (x.0, d) ∷ zs) (cons_head _ _ _ _ e) (pairs_are f es (cons_tail _ _ _ _ e))

none_below : (is : List ℕ) (n : ℕ) → n ≡ 0 → AllByRecursion (λ i. i < n) is → is ≡ []
none_below [] n none below = refl
none_below (i ∷ is) n none below = absurd (omega (arith, none, below.0))

no_positions : (rule : List ℕ → List ℕ) → multi_positions rule 0 [] ≡ []
unfolding forest
no_positions rule = refl

module _ {D : Type 0} (s : Scheme D) (xs : List D) (k : ℕ) where
  abbrev f : ℕ → D
  f = leaf_of s.hashing xs

  abbrev digests_for : List ℕ → List D
  digests_for is = map (digest_at_position s xs) (multi_positions s.rule (length xs) is)

  no_digests : (is : List ℕ) → is ≡ [] → xs ≡ [] → digests_for is ≡ []
  no_digests is no_places none =
      ap (map (digest_at_position s xs)) (ap₂ (λ (n : ℕ) (js : List ℕ). multi_positions s.rule n js) (ap length none) no_places ∙ no_positions s.rule)

  module _ (r : MultiInput D) where
    pub multi_of_some : IsHonestMultiSome s xs k r → IsHonestMulti s xs k r
    multi_of_some w =
        let elements : r.elements ≡ map (λ i. (i, f i)) (locations_in r) = pairs_are f r.elements w.elements in
        (w.ascend, w.below, inl w.nonempty, λ i. record { leaves = w.leaves i; inactive = w.inactive i; digests = w.digests i; elements = elements i })

    pub some_of_multi : 0 < length r.elements → IsHonestMulti s xs k r → IsHonestMultiSome s xs k r
    some_of_multi some h = record {
      nonempty = some;
      ascend = h.0;
      below = h.1;
      leaves = ap (λ (q : MultiInput D). q.leaves) h.3;
      inactive = ap (λ (q : MultiInput D). q.inactive) h.3;
      digests = ap (λ (q : MultiInput D). q.digests) h.3;
      elements = ap (λ (q : MultiInput D). leaves_in q) h.3 ∙ map-second f (locations_in r);
    }

    module _ (low : k ≤ length (peaks_of s.rule (length xs))) where
      multi_of_none : IsEmptyMulti r → xs ≡ [] → IsHonestMulti s xs k r
      multi_of_none w none =
          let places : locations_in r ≡ [] = ap (λ (es : List (ℕ × D)). map (λ (e : ℕ × D). e.0) es) w.elements in
          let leaves : r.leaves ≡ length xs = w.leaves ∙ sym (ap length none) in
          let inactive : r.inactive ≡ k = w.inactive ∙ sym (none_inactive s xs k low none) in
          let digests : r.digests ≡ digests_for (locations_in r) = w.digests ∙ sym (no_digests (locations_in r) places none) in
          let elements : r.elements ≡ map (λ i. (i, f i)) (locations_in r) = w.elements ∙ sym (ap (λ (is : List ℕ). map (λ i. (i, f i)) is) places) in (
            subst (AscendsFrom 0) (sym places) tt,
            subst (AllByRecursion (λ i. i < length xs)) (sym places) tt,
            inr none,
            λ i. record { leaves = leaves i; inactive = inactive i; digests = digests i; elements = elements i },
          )

      none_of_multi : xs ≡ [] → IsHonestMulti s xs k r → IsEmptyMulti r
      none_of_multi none h =
          let places : locations_in r ≡ [] = none_below (locations_in r) (length xs) (ap length none) h.1 in
          record {
            elements = ap (λ (q : MultiInput D). q.elements) h.3 ∙ ap (λ (is : List ℕ). map (λ i. (i, f i)) is) places;
            leaves = ap (λ (q : MultiInput D). q.leaves) h.3 ∙ ap length none;
            inactive = ap (λ (q : MultiInput D). q.inactive) h.3 ∙ none_inactive s xs k low none;
            digests = ap (λ (q : MultiInput D). q.digests) h.3 ∙ no_digests (locations_in r) places none;
          }

      pub multi_of_cases : IsHonestMultiByCases s xs k r → IsHonestMulti s xs k r
      multi_of_cases (inl w) = multi_of_some w
      multi_of_cases (inr w) = multi_of_none w.0 w.1

      pub cases_of_multi : IsHonestMulti s xs k r → IsHonestMultiByCases s xs k r
      cases_of_multi h = elim h.2 [ inl some ↦ inl (some_of_multi some h) | inr none ↦ inr (none_of_multi none h, none) ]
