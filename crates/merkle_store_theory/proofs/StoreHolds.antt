-- Where a store refuses nothing, it holds each node that it reads.
use Rattle.std.proofs.Common.{◌≡◌, ℕ, zero, suc, ◌+◌, ◌-◌, ◌≤◌, ◌<◌, ◌⊎◌, inl, inr, ⊎_elim, Bool, true, false, cond, nat_le, List, [], ◌∷◌, ◌++◌, refl, ap, ap₂}
use Rattle.std.proofs.Common.{sym, ◌∙◌, subst, arith, length, map, reverse, take, drop, Option, Some, None, slice_get, min, append-nil, length-append, le-leb}
use Rattle.std.proofs.Common.{lt-ltb}
use Rattle.std.specs.List.{AllByRecursion}
use Rattle.std.specs.Option.{option_map_or, option_or}
use Rattle.std.specs.Cmp.Lexicographic.{same_text}
use Rattle.std.proofs.lemmas.Bool.{lt-leb, and_parts, cases_lt}
use Rattle.std.proofs.lemmas.List.{reverse-reverse, take-append-drop, take-map, length-map, length-take}
use Rattle.std.proofs.Math.Seq.{take-length, drop-append_seam}
use Rattle.merkle_base.specs.Tree.{Tree, position, width, end_leaf}
use Rattle.merkle_base.specs.Places.{peaks_of, wholly_before}
use Rattle.merkle_base.specs.declared.family.Bagging.{Bagging}
use Rattle.merkle_base.specs.declared.family.Bagging.TheVariants.{ForwardFold, BackwardFold}
use Rattle.merkle_base.proofs.Cases.{by_test}
use Rattle.merkle_base.proofs.PeakLists.{Spans, all_reverse, filter_yes, filter_no, none_before, peaks_spans}
use Rattle.merkle_base.specs.Scheme.{Scheme}
use Rattle.merkle_batch_theory.proofs.OptionFacts.{both_none}
use Rattle.merkle_root_theory.specs.Outside.{folded_prefix}
use Rattle.merkle_root_theory.specs.Range.{range_siblings}
use Rattle.merkle_base.specs.Table.{digest_for}
use Rattle.merkle_store_theory.specs.StoreValue.{StoreValue}
use Rattle.merkle_store_theory.specs.StoreProof.{found_at, held_prefix, asked_prefix, asked_single, asked_suffix, suffix_front, prefix_refusal, first_reaching}
use Rattle.merkle_store_theory.specs.StoreProof.{suffix_lacking, suffix_refusal, first_lacking, ends_with}
use Rattle.merkle_store_theory.specs.StoreLaws.{AreHeld, AnsweredIsHeld, IsFirstReaching, ShorterIsRefused, ShorterIsNext}
use Rattle.merkle_store_theory.proofs.GroupedParts.{prefix_split}

module _ {D : Type 0} (v : StoreValue D) where
  abbrev found : Tree → Option D
  found t = digest_for (map (λ (x : ℕ × D). x.0) v.pairs) (map (λ (x : ℕ × D). x.1) v.pairs) (position t)

  held_all : (ts : List Tree) → first_lacking (found_at v.pairs) (map position ts) ≡ None → AreHeld v ts
  held_all [] e = tt
  held_all (t ∷ ts) e = by_found (found t) (held_all ts) refl
    where
      by_found : (o : Option D) → (first_lacking (found_at v.pairs) (map position ts) ≡ None → AreHeld v ts) → found t ≡ o → AreHeld v (t ∷ ts)
      by_found None others f = absurd (nothing (sym (ap (λ o. option_map_or (λ (d : D). first_lacking (found_at v.pairs) (map position ts)) o (Some (position t))) f) ∙ e))
        where
          nothing : Some (position t) ≡ None → ⊥
          nothing e = cc
      by_found (Some d) others f = ((d, f), others (sym (ap (λ o. option_map_or (λ (d : D). first_lacking (found_at v.pairs) (map position ts)) o (Some (position t))) f) ∙ e))

  held_back : (ts : List Tree) → first_lacking (found_at v.pairs) (map position (reverse ts)) ≡ None → AreHeld v ts
  held_back ts e = subst (AreHeld v) (reverse-reverse ts) (all_reverse (λ t. (d : D) × (found t ≡ Some d)) (reverse ts) (held_all (reverse ts) e))

  front_none : (n : ℕ) → AreHeld v (take n [])
  front_none zero = tt
  front_none (suc n) = tt

  suffix_held : (ps : List ℕ) (ts : List Tree) → v.suffix_peaks ≡ ps → suffix_lacking v ps ts ≡ None → AreHeld v (suffix_front v ts)
  suffix_held [] ts f e = subst (AreHeld v) (sym (ap (λ n. take n ts) all ∙ take-length ts)) (held_back ts e)
    where
      all : length ts - length v.suffix_peaks ≡ length ts
      all = omega (arith, ap length f)
  suffix_held (p ∷ ps) ts f e =
      by_test (λ b. cond b (first_lacking (found_at v.pairs) (map position (reverse (suffix_front v ts)))) (Some p) ≡ None
      → AreHeld v (suffix_front v ts)) (ends_with (map position ts) (p ∷ ps))
      (λ _ e. held_back (suffix_front v ts) e) (λ _ e. absurd (nothing e)) e
    where
      nothing : Some p ≡ None → ⊥
      nothing e = cc

  front_held : (ts : List Tree) → suffix_refusal v ts ≡ None → AreHeld v (suffix_front v ts)
  front_held [] e = front_none _
  front_held (t ∷ ts) e = suffix_held v.suffix_peaks (t ∷ ts) refl e

  -- ---- what it begins with and ends with
  ends_as : (ts : List Tree) (ps : List ℕ) → v.suffix_peaks ≡ ps → ends_with (map position ts) ps ≡ true → map position ts ≡ map position (suffix_front v ts) ++ v.suffix_peaks
  ends_as ts ps f e =
      let w = and_parts (nat_le (length ps) (length (map position ts))) _ e in
      let n = length (map position ts) - length ps in
      let last : drop n (map position ts) ≡ ps = same_text (drop n (map position ts)) ps (sym w.1) in
      let m : n ≡ length ts - length v.suffix_peaks = omega (arith, length-map ts position, ap length f) in
      sym (take-append-drop n (map position ts)) ∙ ap₂ ◌++◌ (take-map position n ts ∙ ap (λ z. map position (take z ts)) m) (last ∙ sym f)

  suffix_ends : (ps : List ℕ) (ts : List Tree) → v.suffix_peaks ≡ ps → suffix_lacking v ps ts ≡ None → map position ts ≡ map position (suffix_front v ts) ++ v.suffix_peaks
  suffix_ends [] ts f e =
      let all : length ts ≡ length ts - length v.suffix_peaks = omega (arith, ap length f) in
      sym (append-nil (map position ts)) ∙ ap₂ (λ y z. map position y ++ z) (sym (take-length ts) ∙ ap (λ n. take n ts) all) (sym f)
  suffix_ends (p ∷ ps) ts f e =
      by_test (λ b. ends_with (map position ts) (p ∷ ps) ≡ b
      → cond b (first_lacking (found_at v.pairs) (map position (reverse (suffix_front v ts)))) (Some p) ≡ None
      → map position ts ≡ map position (suffix_front v ts) ++ v.suffix_peaks) (ends_with (map position ts) (p ∷ ps))
      (λ _ g _. ends_as ts (p ∷ ps) f g) (λ _ _ e. absurd (nothing e)) refl e
    where
      nothing : Some p ≡ None → ⊥
      nothing e = cc

  front_ends : (ts : List Tree) → suffix_refusal v ts ≡ None → (ts ≡ []) ⊎ (map position ts ≡ map position (suffix_front v ts) ++ v.suffix_peaks)
  front_ends [] e = inl refl
  front_ends (t ∷ ts) e = inr (suffix_ends v.suffix_peaks (t ∷ ts) refl e)

-- ---- prefixes of different ranges
module _ (a : ℕ) where
  reach_or : (ts : List Tree) → AllByRecursion (λ t. end_leaf t ≤ a) ts ⊎ ((p : ℕ) × (first_reaching a ts ≡ Some p) × IsFirstReaching a ts p)
  reach_or [] = inl tt
  reach_or (t ∷ ts) = ⊎_elim (λ l. inr (
    position t,
    ap (λ b. cond b (first_reaching a ts) (Some (position t))) (lt-leb (end_leaf t) a l),
    record { before = []; node = t; after = ts; split = refl; wholly = tt; reaches = l; stands = refl },
  ))
      (λ l. ⊎_elim (λ w. inl (l, w)) (λ w. inr (
        w.0,
        ap (λ b. cond b (first_reaching a ts) (Some (position t))) (le-leb (end_leaf t) a l) ∙ w.1,
        record { before = t ∷ w.2.before; node = w.2.node; after = w.2.after; split = ap (λ z. t ∷ z) w.2.split; wholly = (l, w.2.wholly); reaches = w.2.reaches; stands = w.2.stands },
      )) (reach_or ts)) (cases_lt a (end_leaf t))

  -- of peaks before x, the first of which are before a, as many are before a
  counted : (x n : ℕ) (ts : List Tree) → AllByRecursion (λ t. end_leaf t ≤ a) (take n (wholly_before x ts)) → length (take n (wholly_before x ts)) ≤ length (wholly_before a ts)
  counted x zero ts w = omega arith
  counted x (suc n) [] w = omega arith
  counted x (suc n) (t ∷ ts) w =
      by_test (λ b. AllByRecursion (λ t. end_leaf t ≤ a) (take (suc n) (cond b (t ∷ wholly_before x ts) (wholly_before x ts)))
      → length (take (suc n) (cond b (t ∷ wholly_before x ts) (wholly_before x ts))) ≤ length (wholly_before a (t ∷ ts))) (nat_le (end_leaf t) x)
      (λ _ w. let r = counted x n ts w.1 in let e = ap length (filter_yes (λ u. nat_le (end_leaf u) a) t ts (le-leb (end_leaf t) a w.0)) in omega (arith, r, e))
      (λ _ w. let r = counted x (suc n) ts w in let e = longer (nat_le (end_leaf t) a) in omega (arith, r, e)) w
    where
      longer : (b : Bool) → length (wholly_before a ts) ≤ length (cond b (t ∷ wholly_before a ts) (wholly_before a ts))
      longer true = omega arith
      longer false = omega arith

-- where the folded prefix before a is shorter than that before x, a peak of the latter isn't before a
too_few : (bagging : Bagging) (k a x : ℕ) (ts : List Tree)
    → length (folded_prefix bagging k (wholly_before a ts)) < length (folded_prefix bagging k (wholly_before x ts))
    → AllByRecursion (λ t. end_leaf t ≤ a) (folded_prefix bagging k (wholly_before x ts)) → ⊥
too_few ForwardFold k a x ts l w =
    let whole = take-length (wholly_before x ts) in
    let c = counted a x (length (wholly_before x ts)) ts (subst (AllByRecursion (λ t. end_leaf t ≤ a)) (sym whole) w) in absurd (omega (arith, l, c, ap length whole))
too_few BackwardFold k a x ts l w = let c = counted a x k ts w in absurd (omega (arith, l, c, length-take k (wholly_before a ts), length-take k (wholly_before x ts)))

shorter_reaches : (bagging : Bagging) (k a x : ℕ) (ts : List Tree)
    → length (folded_prefix bagging k (wholly_before a ts)) < length (folded_prefix bagging k (wholly_before x ts))
    → first_reaching a (folded_prefix bagging k (wholly_before x ts)) ≡ None → ⊥
shorter_reaches bagging k a x ts l e = ⊎_elim (too_few bagging k a x ts l) (λ w. nothing w.0 (sym w.1 ∙ e)) (reach_or a (folded_prefix bagging k (wholly_before x ts)))
  where
    nothing : (p : ℕ) → Some p ≡ None → ⊥
    nothing p e = cc

-- peaks before a, of which there are no fewer than of those before x, begin with those
begin_so : (a x o n : ℕ) (ts : List Tree) → Spans o n ts → length (wholly_before x ts) ≤ length (wholly_before a ts) → (us : List Tree) × (wholly_before a ts ≡ wholly_before x ts ++ us)
begin_so a x o n [] c l = ([], refl)
begin_so a x o n (t ∷ ts) c l = ⊎_elim
    (λ y. (wholly_before a (t ∷ ts), sym (ap (λ z. z ++ wholly_before a (t ∷ ts)) (none_x y))))
    (λ y. ⊎_elim (λ z. absurd (omega (arith, l, ap length (none_a z), ap length (yes_x y))))
    (λ z. let w = begin_so a x (o + width t) n ts c.1 (omega (arith, l, ap length (yes_x y), ap length (yes_a z))) in
    (w.0, yes_a z ∙ ap (λ u. t ∷ u) w.1 ∙ ap (λ u. u ++ w.0) (sym (yes_x y)))) (cases_lt a (end_leaf t)))
    (cases_lt x (end_leaf t))
  where
    none_x : x < end_leaf t → wholly_before x (t ∷ ts) ≡ []
    none_x y = filter_no (λ u. nat_le (end_leaf u) x) t ts (lt-leb (end_leaf t) x y) ∙ none_before x (o + width t) n ts c.1 (omega (arith, c.0, y))

    none_a : a < end_leaf t → wholly_before a (t ∷ ts) ≡ []
    none_a y = filter_no (λ u. nat_le (end_leaf u) a) t ts (lt-leb (end_leaf t) a y) ∙ none_before a (o + width t) n ts c.1 (omega (arith, c.0, y))

    yes_x : end_leaf t ≤ x → wholly_before x (t ∷ ts) ≡ t ∷ wholly_before x ts
    yes_x y = filter_yes (λ u. nat_le (end_leaf u) x) t ts (le-leb (end_leaf t) x y)

    yes_a : end_leaf t ≤ a → wholly_before a (t ∷ ts) ≡ t ∷ wholly_before a ts
    yes_a y = filter_yes (λ u. nat_le (end_leaf u) a) t ts (le-leb (end_leaf t) a y)

-- one of two lists of them begins with the other
either_begins : (a x o n : ℕ) (ts : List Tree) → Spans o n ts → ((us : List Tree) × (wholly_before a ts ≡ wholly_before x ts ++ us))
    ⊎ ((us : List Tree) × (wholly_before x ts ≡ wholly_before a ts ++ us))
either_begins a x o n ts c = ⊎_elim (λ l. inr (begin_so x a o n ts c (omega (arith, l)))) (λ l. inl (begin_so a x o n ts c l)) (cases_lt (length (wholly_before a ts)) (length (wholly_before x ts)))

goes_on : (us ws vs : List Tree) → us ≡ ws ++ vs → us ≡ ws ++ drop (length ws) us
goes_on us ws vs e = e ∙ ap (λ z. ws ++ z) (sym (ap (drop (length ws)) e ∙ drop-append_seam ws vs))

same_long : (us ws vs : List Tree) → ws ≡ us ++ vs → length ws ≤ length us → us ≡ ws ++ []
same_long us ws [] e l = sym (append-nil ws ∙ e ∙ append-nil us)
same_long us ws (v ∷ vs) e l = absurd (omega (arith, l, ap length e, length-append us (v ∷ vs)))

prefix_begins : (bagging : Bagging) (k a x n : ℕ) (ts : List Tree) → Spans 0 n ts
    → prefix_refusal a (folded_prefix bagging k (wholly_before x ts)) (folded_prefix bagging k (wholly_before a ts)) ≡ None
    → (folded_prefix bagging k (wholly_before a ts) ≡ [])
    ⊎ (folded_prefix bagging k (wholly_before a ts) ≡ folded_prefix bagging k (wholly_before x ts)
    ++ drop (length (folded_prefix bagging k (wholly_before x ts))) (folded_prefix bagging k (wholly_before a ts)))
prefix_begins bagging k a x n ts c e = by_asked (folded_prefix bagging k (wholly_before a ts)) refl e
  where
    begins : (us : List Tree) → folded_prefix bagging k (wholly_before a ts) ≡ us → length (folded_prefix bagging k (wholly_before x ts)) ≤ length us
        → us ≡ (folded_prefix bagging k (wholly_before x ts)) ++ drop (length (folded_prefix bagging k (wholly_before x ts))) us
    begins us f l = ⊎_elim
        (λ w. goes_on us (folded_prefix bagging k (wholly_before x ts)) (folded_prefix bagging (k - length (wholly_before x ts)) w.0)
        (sym f ∙ ap (folded_prefix bagging k) w.1 ∙ prefix_split bagging k (wholly_before x ts) w.0))
        (λ w. goes_on us (folded_prefix bagging k (wholly_before x ts)) []
        (same_long us (folded_prefix bagging k (wholly_before x ts)) (folded_prefix bagging (k - length (wholly_before a ts)) w.0)
        (ap (folded_prefix bagging k) w.1 ∙ prefix_split bagging k (wholly_before a ts) w.0
        ∙ ap (λ z. z ++ folded_prefix bagging (k - length (wholly_before a ts)) w.0) f) l))
        (either_begins a x 0 n ts c)

    by_asked : (us : List Tree) → folded_prefix bagging k (wholly_before a ts) ≡ us
        → prefix_refusal a (folded_prefix bagging k (wholly_before x ts)) us ≡ None → (us ≡ [])
        ⊎ (us ≡ (folded_prefix bagging k (wholly_before x ts)) ++ drop (length (folded_prefix bagging k (wholly_before x ts))) us)
    by_asked [] f e = inl refl
    by_asked (u ∷ us) f e = inr (begins (u ∷ us) f (⊎_elim (λ l. absurd (unrefused l)) (λ l. l) (cases_lt (length (u ∷ us)) (length (folded_prefix bagging k (wholly_before x ts))))))
      where
        unrefused : length (u ∷ us) < length (folded_prefix bagging k (wholly_before x ts)) → ⊥
        unrefused l = shorter_reaches bagging k a x ts (subst (λ z. length z < length (folded_prefix bagging k (wholly_before x ts))) (sym f) l)
            (sym (ap (λ b. cond b (first_reaching a (folded_prefix bagging k (wholly_before x ts))) None)
            (lt-ltb (length (u ∷ us)) (length (folded_prefix bagging k (wholly_before x ts))) l)) ∙ e)

pub answered_is_held : {D : Type 0} → AnsweredIsHeld D
answered_is_held s v a b e =
    let one = prefix_refusal a (held_prefix s v) (asked_prefix s v a) in
    let two = first_lacking (found_at v.pairs) (map position (drop (length (held_prefix s v)) (asked_prefix s v a))) in
    let three = first_lacking (found_at v.pairs) (map position (asked_single s v a b)) in
    let four = suffix_refusal v (asked_suffix s v a b) in
    let five = first_lacking (found_at v.pairs) (map position (range_siblings a b (peaks_of s.rule v.leaves))) in
    let e1 = both_none one (option_or two (option_or three (option_or four five))) e in
    let e2 = both_none two (option_or three (option_or four five)) e1.1 in
    let e3 = both_none three (option_or four five) e2.1 in
    let e4 = both_none four five e3.1 in record {
      prefix = held_all v (drop (length (held_prefix s v)) (asked_prefix s v a)) e2.0;
      single = held_all v (asked_single s v a b) e3.0;
      suffix = front_held v (asked_suffix s v a b) e4.0;
      siblings = held_all v (range_siblings a b (peaks_of s.rule v.leaves)) e4.1;
      begins = prefix_begins v.bagging v.inactive a v.start v.leaves (peaks_of s.rule v.leaves) (peaks_spans s.rule v.leaves) e1.0;
      ends = front_ends v (asked_suffix s v a b) e4.0;
    }

-- what is refused after the prefix
abbrev others : {D : Type 0} → Scheme D → StoreValue D → (a b : ℕ) → Option ℕ
others s v a b =
    option_or (first_lacking (found_at v.pairs) (map position (drop (length (held_prefix s v)) (asked_prefix s v a))))
    (option_or (first_lacking (found_at v.pairs) (map position (asked_single s v a b)))
    (option_or (suffix_refusal v (asked_suffix s v a b))
    (first_lacking (found_at v.pairs) (map position (range_siblings a b (peaks_of s.rule v.leaves))))))

refused : (a : ℕ) (held us : List Tree) → 0 < length us → length us < length held → prefix_refusal a held us ≡ first_reaching a held
refused a held [] m l = absurd (omega (arith, m))
refused a held (u ∷ us) m l = ap (λ b. cond b (first_reaching a held) None) (lt-ltb (length (u ∷ us)) (length held) l)

pub shorter_is_refused : {D : Type 0} → ShorterIsRefused D
shorter_is_refused s v a b some less = ⊎_elim (λ w. absurd (too_few v.bagging v.inactive a v.start (peaks_of s.rule v.leaves) less w))
    (λ w. (w.0, ap (λ o. option_or o (others s v a b)) (refused a (held_prefix s v) (asked_prefix s v a) some less ∙ w.1), w.2)) (reach_or a (held_prefix s v))

-- peaks before x are the first ones
before_take : (x o n : ℕ) (ts : List Tree) → Spans o n ts → wholly_before x ts ≡ take (length (wholly_before x ts)) ts
before_take x o n [] c = refl
before_take x o n (t ∷ ts) c = ⊎_elim
    (λ y. none y ∙ ap (λ z. take (length z) (t ∷ ts)) (sym (none y)))
    (λ y. yes_so y ∙ ap (λ z. t ∷ z) (before_take x (o + width t) n ts c.1) ∙ ap (λ z. take (length z) (t ∷ ts)) (sym (yes_so y)))
    (cases_lt x (end_leaf t))
  where
    none : x < end_leaf t → wholly_before x (t ∷ ts) ≡ []
    none y = filter_no (λ u. nat_le (end_leaf u) x) t ts (lt-leb (end_leaf t) x y) ∙ none_before x (o + width t) n ts c.1 (omega (arith, c.0, y))

    yes_so : end_leaf t ≤ x → wholly_before x (t ∷ ts) ≡ t ∷ wholly_before x ts
    yes_so y = filter_yes (λ u. nat_le (end_leaf u) x) t ts (le-leb (end_leaf t) x y)

reach_at : (a o n j : ℕ) (ts : List Tree) → Spans o n ts → length (wholly_before a ts) < j → first_reaching a (take j ts) ≡ slice_get (map position ts) (length (wholly_before a ts))
reach_at a o n zero ts c l = absurd (omega (arith, l))
reach_at a o n (suc j) [] c l = refl
reach_at a o n (suc j) (t ∷ ts) c l = ⊎_elim
    (λ y. ap (λ b. cond b (first_reaching a (take j ts)) (Some (position t))) (lt-leb (end_leaf t) a y)
    ∙ ap (λ z. slice_get (map position (t ∷ ts)) (length z))
    (sym (filter_no (λ u. nat_le (end_leaf u) a) t ts (lt-leb (end_leaf t) a y) ∙ none_before a (o + width t) n ts c.1 (omega (arith, c.0, y)))))
    (λ y. ap (λ b. cond b (first_reaching a (take j ts)) (Some (position t))) (le-leb (end_leaf t) a y)
    ∙ reach_at a (o + width t) n j ts c.1 (omega (arith, l, ap length (yes_so y)))
    ∙ ap (λ z. slice_get (map position (t ∷ ts)) (length z)) (sym (yes_so y)))
    (cases_lt a (end_leaf t))
  where
    yes_so : end_leaf t ≤ a → wholly_before a (t ∷ ts) ≡ t ∷ wholly_before a ts
    yes_so y = filter_yes (λ u. nat_le (end_leaf u) a) t ts (le-leb (end_leaf t) a y)

take_take : (k n : ℕ) (ts : List Tree) → take k (take n ts) ≡ take (min k n) ts
take_take zero n ts = let e : 0 ≡ min 0 n = omega arith in ap (λ z. take z ts) e
take_take (suc k) zero ts = let e : 0 ≡ min (suc k) 0 = omega arith in ap (λ z. take z ts) e
take_take (suc k) (suc n) [] = let e : suc (min k n) ≡ min (suc k) (suc n) = omega arith in ap (λ z. take {A = Tree} z []) e
take_take (suc k) (suc n) (t ∷ ts) = let e : suc (min k n) ≡ min (suc k) (suc n) = omega arith in ap (λ z. t ∷ z) (take_take k n ts) ∙ ap (λ z. take z (t ∷ ts)) e

pub prefix_reach : (bagging : Bagging) (k a x n : ℕ) (ts : List Tree) → Spans 0 n ts → length (folded_prefix bagging k (wholly_before a ts)) < length (folded_prefix bagging k (wholly_before x ts))
    → first_reaching a (folded_prefix bagging k (wholly_before x ts)) ≡ slice_get (map position ts) (length (wholly_before a ts))
prefix_reach ForwardFold k a x n ts c l = ap (first_reaching a) (before_take x 0 n ts c) ∙ reach_at a 0 n (length (wholly_before x ts)) ts c l
prefix_reach BackwardFold k a x n ts c l =
    ap (λ z. first_reaching a (take k z)) (before_take x 0 n ts c) ∙ ap (first_reaching a) (take_take k (length (wholly_before x ts)) ts)
    ∙ reach_at a 0 n (min k (length (wholly_before x ts))) ts c (omega (arith, l, length-take k (wholly_before a ts), length-take k (wholly_before x ts)))

pub shorter_is_next : {D : Type 0} → ShorterIsNext D
shorter_is_next s v a b some less = ⊎_elim (λ w. absurd (too_few v.bagging v.inactive a v.start (peaks_of s.rule v.leaves) less w))
    (λ w. ap (λ o. option_or o (others s v a b)) (refused a (held_prefix s v) (asked_prefix s v a) some less ∙ w.1) ∙ sym w.1
    ∙ prefix_reach v.bagging v.inactive a v.start v.leaves (peaks_of s.rule v.leaves) (peaks_spans s.rule v.leaves) less) (reach_or a (held_prefix s v))
