-- A location range splits the peaks into those before it, those that overlap it and those after it.
use Rattle.std.proofs.Common.{◌≡◌, ℕ, Bool, true, false, cond, ◌&&◌, ◌||◌, nat_le, nat_lt, ◌+◌, ◌≤◌, ◌<◌, List, [], ◌∷◌, ◌++◌, ◌⊎◌, inl, inr, refl, ap, ap₂}
use Rattle.std.proofs.Common.{sym, ◌∙◌, subst, ⊎_elim, arith, flat_map, le-leb, lt-ltb, le-ltb, leb-true, ltb-true, length, length-append}
use Rattle.std.specs.List.{AllByRecursion}
use Rattle.std.proofs.lemmas.Bool.{lt-leb, or_right, and_parts, and_left, and_right, and_from, cases_lt}
use Rattle.merkle_base.specs.Tree.{Tree, leaf, join, first_leaf, width, IsBuilt, end_leaf}
use Rattle.merkle_base.proofs.PeakLists.{Spans, spans_end, filter_yes, filter_no, none_before, peaks_built, peaks_spans}
use Rattle.merkle_base.proofs.Nodes.{width_pos}
use Rattle.merkle_root_theory.specs.Plan.{root_plan, tree_meets, siblings}
use Rattle.merkle_root_theory.specs.Outside.{layout, Unmet, Met, HasLayout}
use Rattle.merkle_base.specs.Scheme.{Scheme}
use Rattle.merkle_base.specs.Places.{peaks_of, wholly_before}
use Rattle.merkle_root_theory.specs.Check.{in_range}
use Rattle.merkle_root_theory.specs.Range.{overlapping, wholly_after, range_parts, range_siblings}
use Rattle.merkle_base.proofs.Cases.{by_test}
use Rattle.merkle_root_theory.proofs.OutsideNodes.{outside_is_layout}

module _ (a b : ℕ) where
  abbrev is_before : Tree → Bool
  is_before t = nat_le (end_leaf t) a

  abbrev is_over : Tree → Bool
  is_over t = nat_lt (first_leaf t) b && nat_lt a (end_leaf t)

  abbrev is_after : Tree → Bool
  is_after t = nat_le b (first_leaf t)

  none_over : (o n : ℕ) (ts : List Tree) → Spans o n ts → b ≤ o → overlapping a b ts ≡ []
  none_over o n [] c l = refl
  none_over o n (t ∷ ts) c l = filter_no is_over t ts (and_left _ _ (le-ltb (first_leaf t) b (omega (arith, c.0)))) ∙ none_over (o + width t) n ts c.1 (omega arith)

  all_after : (o n : ℕ) (ts : List Tree) → Spans o n ts → b ≤ o → wholly_after b ts ≡ ts
  all_after o n [] c l = refl
  all_after o n (t ∷ ts) c l = filter_yes is_after t ts (le-leb b (first_leaf t) (omega (arith, c.0))) ∙ ap (λ z. t ∷ z) (all_after (o + width t) n ts c.1 (omega arith))

  pub none_after : (o n : ℕ) (ts : List Tree) → Spans o n ts → n ≤ b → wholly_after b ts ≡ []
  none_after o n [] c l = refl
  none_after o n (t ∷ ts) c l =
      filter_no is_after t ts (lt-leb b (first_leaf t) (omega (arith, c.0, l, width_pos t, spans_end (o + width t) n ts c.1))) ∙ none_after (o + width t) n ts c.1 l

  pub groups : (o n : ℕ) (ts : List Tree) → a < b → Spans o n ts → ts ≡ wholly_before a ts ++ (overlapping a b ts ++ wholly_after b ts)
  groups o n [] l c = refl
  groups o n (t ∷ ts) l c = ⊎_elim (λ y. ⊎_elim (over (groups (o + width t) n ts l c.1) y) after (cases_lt (first_leaf t) b)) (before (groups (o + width t) n ts l c.1)) (cases_lt a (end_leaf t))
    where
      pos : 0 < width t
      pos = width_pos t

      before : ts ≡ wholly_before a ts ++ (overlapping a b ts ++ wholly_after b ts) → end_leaf t ≤ a → t ∷ ts ≡ wholly_before a (t ∷ ts) ++ (overlapping a b (t ∷ ts) ++ wholly_after b (t ∷ ts))
      before e x = ap (λ z. t ∷ z) e
          ∙ sym (ap₂ ◌++◌ (filter_yes is_before t ts (le-leb (end_leaf t) a x))
          (ap₂ ◌++◌ (filter_no is_over t ts (and_right _ _ (le-ltb a (end_leaf t) x))) (filter_no is_after t ts (lt-leb b (first_leaf t) (omega (arith, pos, x))))))

      after : b ≤ first_leaf t → t ∷ ts ≡ wholly_before a (t ∷ ts) ++ (overlapping a b (t ∷ ts) ++ wholly_after b (t ∷ ts))
      after x = sym (ap₂ ◌++◌ (none_before a o n (t ∷ ts) c (omega (arith, c.0))) (ap₂ ◌++◌ (none_over o n (t ∷ ts) c (omega (arith, c.0))) (all_after o n (t ∷ ts) c (omega (arith, c.0)))))

      over : ts ≡ wholly_before a ts ++ (overlapping a b ts ++ wholly_after b ts) → a < end_leaf t → first_leaf t < b
          → t ∷ ts ≡ wholly_before a (t ∷ ts) ++ (overlapping a b (t ∷ ts) ++ wholly_after b (t ∷ ts))
      over e y x = ap (λ z. t ∷ z) (e ∙ ap (λ z. z ++ (overlapping a b ts ++ wholly_after b ts)) (none_before a (o + width t) n ts c.1 (omega (arith, c.0, y))))
          ∙ sym (ap₂ ◌++◌ (filter_no is_before t ts (lt-leb (end_leaf t) a y) ∙ none_before a (o + width t) n ts c.1 (omega (arith, c.0, y)))
          (ap₂ ◌++◌ (filter_yes is_over t ts (and_from _ _ (lt-ltb (first_leaf t) b x) (lt-ltb a (end_leaf t) y))) (filter_no is_after t ts (lt-leb b (first_leaf t) x))))

  -- some peak overlaps the range
  pub some_over : (o n : ℕ) (ts : List Tree) → a < b → Spans o n ts → o ≤ a → a < n → overlapping a b ts ≡ [] → ⊥
  some_over o n [] l c m x e = absurd (omega (arith, c))
  some_over o n (t ∷ ts) l c m x e = ⊎_elim
      (λ y. nothing (sym (filter_yes is_over t ts (and_from _ _ (lt-ltb (first_leaf t) b (omega (arith, c.0))) (lt-ltb a (end_leaf t) y))) ∙ e))
      (λ y. some_over (o + width t) n ts l c.1 (omega (arith, c.0, y)) x (sym (filter_no is_over t ts (and_right _ _ (le-ltb a (end_leaf t) y))) ∙ e)) (cases_lt a (end_leaf t))
    where
      nothing : t ∷ overlapping a b ts ≡ [] → ⊥
      nothing e = cc

  -- a tree is met by the range exactly if it overlaps it
  pub meets_not : (ns : List Tree) (t : Tree) → IsBuilt ns t → (end_leaf t ≤ a) ⊎ (b ≤ first_leaf t) → tree_meets (in_range a b) t ≡ false
  meets_not ns (leaf p i) h (inl x) = and_left _ _ (lt-leb a i (omega arith))
  meets_not ns (leaf p i) h (inr x) = and_right _ _ (le-ltb i b x)
  meets_not ns (join p l r) h (inl x) = ap₂ ◌||◌ (meets_not ns l h.4 (inl (omega (arith, h.3)))) (meets_not ns r h.5 (inl (omega (arith, h.3))))
  meets_not ns (join p l r) h (inr x) = ap₂ ◌||◌ (meets_not ns l h.4 (inr x)) (meets_not ns r h.5 (inr (omega (arith, h.3))))

  pub meets_yes : (ns : List Tree) (t : Tree) → IsBuilt ns t → first_leaf t < b → a < end_leaf t → a < b → tree_meets (in_range a b) t ≡ true
  meets_yes ns (leaf p i) h x y l = and_from _ _ (le-leb a i (omega arith)) (lt-ltb i b x)
  meets_yes ns (join p l r) h x y m = ⊎_elim
      (λ z. ap (λ w. w || tree_meets (in_range a b) r) (meets_yes ns l h.4 x z m))
      (λ z. or_right (tree_meets (in_range a b) l) _ (meets_yes ns r h.5 (omega (arith, h.3)) (omega (arith, h.3)) m)) (cases_lt a (end_leaf l))

  pub unmet_before : (ns : List Tree) (ts : List Tree) → AllByRecursion (IsBuilt ns) ts → Unmet (in_range a b) (wholly_before a ts)
  unmet_before ns [] h = tt
  unmet_before ns (t ∷ ts) h = by_test (λ z. is_before t ≡ z → Unmet (in_range a b) (cond z (t ∷ wholly_before a ts) (wholly_before a ts))) (is_before t)
      (λ _ e. (meets_not ns t h.0 (inl (leb-true (end_leaf t) a e)), unmet_before ns ts h.1)) (λ _ e. unmet_before ns ts h.1) refl

  pub unmet_after : (ns : List Tree) (ts : List Tree) → AllByRecursion (IsBuilt ns) ts → Unmet (in_range a b) (wholly_after b ts)
  unmet_after ns [] h = tt
  unmet_after ns (t ∷ ts) h = by_test (λ z. is_after t ≡ z → Unmet (in_range a b) (cond z (t ∷ wholly_after b ts) (wholly_after b ts))) (is_after t)
      (λ _ e. (meets_not ns t h.0 (inr (leb-true b (first_leaf t) e)), unmet_after ns ts h.1)) (λ _ e. unmet_after ns ts h.1) refl

  pub met_over : (ns : List Tree) (ts : List Tree) → a < b → AllByRecursion (IsBuilt ns) ts → Met (in_range a b) (overlapping a b ts)
  met_over ns [] l h = tt
  met_over ns (t ∷ ts) l h = by_test (λ z. is_over t ≡ z → Met (in_range a b) (cond z (t ∷ overlapping a b ts) (overlapping a b ts))) (is_over t)
      (λ _ e. let w = and_parts (nat_lt (first_leaf t) b) (nat_lt a (end_leaf t)) e in
      (meets_yes ns t h.0 (ltb-true (first_leaf t) b w.0) (ltb-true a (end_leaf t) w.1) l, met_over ns ts l h.1)) (λ _ e. met_over ns ts l h.1) refl

-- the parts outside a range are those of the table
pub range_layout : {D : Type 0} (s : Scheme D) (n k a b : ℕ) → a < b → b ≤ n
    → HasLayout (in_range a b) (range_parts s.bagging k a b (peaks_of s.rule n)) (range_siblings a b (peaks_of s.rule n)) (root_plan s.bagging k (peaks_of s.rule n))
range_layout s n k a b l m =
    let ts = peaks_of s.rule n in
    subst (λ z. HasLayout (in_range a b) (range_parts s.bagging k a b ts) (range_siblings a b ts) (root_plan s.bagging k z)) (sym (groups a b 0 n ts l (peaks_spans s.rule n)))
    (laid (wholly_before a ts) (overlapping a b ts) (wholly_after b ts) (some_over a b 0 n ts l (peaks_spans s.rule n) (omega arith) (omega arith))
    (unmet_before a b _ ts (peaks_built s.rule n)) (met_over a b _ ts l (peaks_built s.rule n)) (unmet_after a b _ ts (peaks_built s.rule n)))
  where
    laid : (before over after : List Tree) → (over ≡ [] → ⊥) → Unmet (in_range a b) before → Met (in_range a b) over → Unmet (in_range a b) after
        → HasLayout (in_range a b) (layout s.bagging k before over after) (flat_map (siblings (in_range a b)) over) (root_plan s.bagging k (before ++ (over ++ after)))
    laid before [] after x u v w = absurd (x refl)
    laid before (t ∷ over) after x u v w = outside_is_layout (in_range a b) s.bagging k before t over after u v w

-- each peak is in one group
pub length-peaks_of : (rule : List ℕ → List ℕ) (n a b : ℕ) → a < b
    → length (peaks_of rule n) ≡ length (wholly_before a (peaks_of rule n)) + (length (overlapping a b (peaks_of rule n)) + length (wholly_after b (peaks_of rule n)))
length-peaks_of rule n a b less =
    let ts = peaks_of rule n in let before = wholly_before a ts in let over = overlapping a b ts in let after = wholly_after b ts in
    ap length (groups a b 0 n ts less (peaks_spans rule n)) ∙ length-append before (over ++ after) ∙ ap (λ m. length before + m) (length-append over after)
