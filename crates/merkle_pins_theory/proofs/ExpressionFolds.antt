-- Expressions that are folded as the peaks of a root are.
use Rattle.std.proofs.Common.{◌≡◌, ℕ, suc, pred, ◌+◌, ◌-◌, false, not, cond, List, [], ◌∷◌, ◌++◌, refl, ap, ap₂, sym, ◌∙◌, arith, length, map, flat_map, filter}
use Rattle.std.proofs.Common.{take, drop, fold, Option, Some, None, option_map, append_assoc, append-nil, take-append-drop}
use Rattle.std.specs.List.{AllByRecursion}
use Rattle.std.specs.Option.{option_map_or}
use Rattle.std.proofs.lemmas.List.{take-map, drop-map}
use Rattle.std.proofs.lemmas.Grind.{flat_map-append}
use Rattle.std.proofs.lemmas.List.Elements.{filter-append}
use Rattle.merkle_base.specs.Hashing.{Hashing}
use Rattle.merkle_base.specs.Root.{right_fold, folded}
use Rattle.merkle_base.specs.declared.family.Bagging.{Bagging}
use Rattle.merkle_base.specs.declared.family.Bagging.TheVariants.{ForwardFold, BackwardFold}
use Rattle.merkle_base.proofs.RightFolds.{with_right_fold}
use Rattle.merkle_root_theory.specs.Expression.{Place, Join, PrefixFold, SuffixFold, Pair, Input, Expression, supplied, computed, cross_checked, hashed_at, value, visited, is_node}
use Rattle.merkle_root_theory.specs.Check.{inputs_of}
use Rattle.merkle_root_theory.proofs.Extraction.{all_take, all_drop}
use Rattle.merkle_audit_theory.specs.Folds.{left_inputs, right_value, right_inputs, joined_inputs, fold_inputs}

-- an expression without the digests that are told beside computed ones
abbrev pub plain : {D : Type 0} → Expression D → Expression D
plain (supplied d) = supplied d
plain (computed place l r) = computed place (plain l) (plain r)
plain (cross_checked d e) = plain e

-- folds further expressions into one, the first of them having number i
abbrev pub left_of : {D : Type 0} → Expression D → ℕ → List (Expression D) → Expression D
left_of acc i [] = acc
left_of acc i (e ∷ es) = left_of (computed (PrefixFold i) acc e) (suc i) es

-- the bag of an expression and those after it
abbrev pub right_of : {D : Type 0} → ℕ → Expression D → List (Expression D) → Expression D
right_of i e [] = e
right_of i e (f ∷ fs) = computed (SuffixFold i) e (right_of (suc i) f fs)

-- joins the bag of expressions to one, if there are any
abbrev pub with_of : {D : Type 0} → Expression D → ℕ → List (Expression D) → Expression D
with_of acc i [] = acc
with_of acc i (e ∷ es) = computed Join acc (right_of i e es)

-- folded as a root's peaks are
abbrev pub folded_of : {D : Type 0} → Bagging → ℕ → List (Expression D) → Option (Expression D)
folded_of bagging k [] = None
folded_of ForwardFold k (e ∷ es) = Some (left_of e 1 es)
folded_of BackwardFold k (e ∷ es) = Some (with_of (left_of e 1 (take (pred k) es)) (suc (pred k)) (drop (pred k) es))

module _ {D : Type 0} where
  pub left_of_append : (e : Expression D) (i j : ℕ) (xs ys : List (Expression D)) → j ≡ length xs → left_of e i (xs ++ ys) ≡ left_of (left_of e i xs) (i + j) ys
  left_of_append e i j [] ys q = ap (λ n. left_of e n ys) (let n : i ≡ i + j = omega (arith, q) in n)
  left_of_append e i j (x ∷ xs) ys q =
      left_of_append (computed (PrefixFold i) e x) (suc i) (pred j) xs ys (omega (arith, q))
      ∙ ap (λ n. left_of (left_of e i (x ∷ xs)) n ys) (let n : suc i + pred j ≡ i + j = omega (arith, q) in n)

module _ {D : Type 0} (h : Hashing D) where
  -- ---- what is told changes nothing
  pub plain_value : (e : Expression D) → value h (plain e) ≡ value h e
  plain_value (supplied d) = refl
  plain_value (computed place l r) = ap₂ (hashed_at h place) (plain_value l) (plain_value r)
  plain_value (cross_checked d e) = plain_value e

  pub plain_visited : (e : Expression D) → visited h (plain e) ≡ visited h e
  plain_visited (supplied d) = refl
  plain_visited (computed place l r) =
      let x : D → D → Input D = λ c d. record { place = place; argument = Pair c d } in
      ap₂ (λ c d. x c d ∷ (visited h (plain l) ++ visited h (plain r))) (plain_value l) (plain_value r)
      ∙ ap₂ (λ xs ys. x (value h l) (value h r) ∷ (xs ++ ys)) (plain_visited l) (plain_visited r)
  plain_visited (cross_checked d e) = plain_visited e

  -- ---- values
  left_value : (e : Expression D) (i : ℕ) (es : List (Expression D)) → value h (left_of e i es) ≡ fold h.fold (value h e) (map (value h) es)
  left_value e i [] = refl
  left_value e i (f ∷ fs) = left_value (computed (PrefixFold i) e f) (suc i) fs

  right_of_value : (i : ℕ) (e : Expression D) (es : List (Expression D)) → value h (right_of i e es) ≡ right_value h (value h e) (map (value h) es)
  right_of_value i e [] = refl
  right_of_value i e (f ∷ fs) = ap (h.fold (value h e)) (right_of_value (suc i) f fs)

  right_is : (d : D) (ds : List D) → right_fold h.fold (d ∷ ds) ≡ Some (right_value h d ds)
  right_is d [] = refl
  right_is d (e ∷ es) = ap (λ o. option_map_or (λ b. Some (h.fold d b)) o (Some d)) (right_is e es)

  with_value : (acc : Expression D) (i : ℕ) (es : List (Expression D)) → value h (with_of acc i es) ≡ with_right_fold h.fold (value h acc) (map (value h) es)
  with_value acc i [] = refl
  with_value acc i (e ∷ es) =
      ap (h.fold (value h acc)) (right_of_value i e es)
      ∙ sym (ap (λ o. option_map_or (h.fold (value h acc)) o (value h acc)) (right_is (value h e) (map (value h) es)))

  pub folded_value : (bagging : Bagging) (k : ℕ) (es : List (Expression D)) → folded h.fold bagging k (map (value h) es) ≡ option_map (value h) (folded_of bagging k es)
  folded_value bagging k [] = refl
  folded_value ForwardFold k (e ∷ es) = ap Some (sym (left_value e 1 es))
  folded_value BackwardFold k (e ∷ es) =
      let less : k - 1 ≡ pred k = omega arith in
      ap Some (ap (λ n. with_right_fold h.fold (fold h.fold (value h e) (take n (map (value h) es))) (drop n (map (value h) es))) less
      ∙ ap₂ (λ us vs. with_right_fold h.fold (fold h.fold (value h e) us) vs) (take-map (value h) (pred k) es) (drop-map (value h) (pred k) es)
      ∙ ap (λ z. with_right_fold h.fold z (map (value h) (drop (pred k) es))) (sym (left_value e 1 (take (pred k) es)))
      ∙ sym (with_value (left_of e 1 (take (pred k) es)) (suc (pred k)) (drop (pred k) es)))

  -- ---- what is hashed
  abbrev pub folds_of : List (Input D) → List (Input D)
  folds_of xs = filter (λ (i : Input D). not (is_node i.place)) xs

  abbrev pub nodes_of : List (Input D) → List (Input D)
  nodes_of xs = filter (λ (i : Input D). is_node i.place) xs

  -- nodes and nothing else
  abbrev pub AreNodes : List (Input D) → Type 0
  AreNodes xs = (folds_of xs ≡ []) × (nodes_of xs ≡ xs)

  abbrev HasNodes : Expression D → Type 0
  HasNodes e = AreNodes (visited h e)

  abbrev folds_in : Expression D → List (Input D)
  folds_in e = folds_of (visited h e)

  abbrev nodes_in : Expression D → List (Input D)
  nodes_in e = nodes_of (visited h e)

  both_at : (place : Place) (l r : Expression D) → is_node place ≡ false
      → (folds_in (computed place l r) ≡ record { place = place; argument = Pair (value h l) (value h r) } ∷ (folds_in l ++ folds_in r)) × (nodes_in (computed place l r) ≡ nodes_in l ++ nodes_in r)
  both_at place l r e =
      let x : Input D = record { place = place; argument = Pair (value h l) (value h r) } in
      let both = visited h l ++ visited h r in (
        ap (λ b. cond (not b) (x ∷ folds_of both) (folds_of both)) e ∙ ap (λ z. x ∷ z) (filter-append (λ (i : Input D). not (is_node i.place)) (visited h l) (visited h r)),
        ap (λ b. cond b (x ∷ nodes_of both) (nodes_of both)) e ∙ filter-append (λ (i : Input D). is_node i.place) (visited h l) (visited h r),
      )

  left_parts : (acc : Expression D) (i : ℕ) (es : List (Expression D)) → AllByRecursion HasNodes es
      → (folds_in (left_of acc i es) ≡ left_inputs h (value h acc) i (map (value h) es) ++ folds_in acc) × (nodes_in (left_of acc i es) ≡ nodes_in acc ++ flat_map (visited h) es)
  left_parts acc i [] o = (refl, sym (append-nil (nodes_in acc)))
  left_parts acc i (e ∷ es) o =
      let x : Input D = record { place = PrefixFold i; argument = Pair (value h acc) (value h e) } in
      let L = left_inputs h (h.fold (value h acc) (value h e)) (suc i) (map (value h) es) in
      let w = left_parts (computed (PrefixFold i) acc e) (suc i) es o.1 in
      let b = both_at (PrefixFold i) acc e refl in (
        w.0 ∙ ap (λ z. L ++ z) (b.0 ∙ ap (λ z. x ∷ (folds_in acc ++ z)) o.0.0 ∙ ap (λ z. x ∷ z) (append-nil (folds_in acc))) ∙ sym (append_assoc L (x ∷ []) (folds_in acc)),
        w.1 ∙ ap (λ z. z ++ flat_map (visited h) es) (b.1 ∙ ap (λ z. nodes_in acc ++ z) o.0.1) ∙ append_assoc (nodes_in acc) (visited h e) (flat_map (visited h) es),
      )

  right_parts : (i : ℕ) (e : Expression D) (es : List (Expression D)) → HasNodes e → AllByRecursion HasNodes es
      → (folds_in (right_of i e es) ≡ right_inputs h i (value h e) (map (value h) es)) × (nodes_in (right_of i e es) ≡ visited h e ++ flat_map (visited h) es)
  right_parts i e [] o a = (o.0, o.1 ∙ sym (append-nil (visited h e)))
  right_parts i e (f ∷ fs) o a =
      let w = right_parts (suc i) f fs a.0 a.1 in
      let b = both_at (SuffixFold i) e (right_of (suc i) f fs) refl in (
        b.0 ∙ ap₂ (λ v zs. record { place = SuffixFold i; argument = Pair (value h e) v } ∷ zs) (right_of_value (suc i) f fs) (ap₂ ◌++◌ o.0 w.0),
        b.1 ∙ ap₂ ◌++◌ o.1 w.1,
      )

  with_parts : (acc : Expression D) (i : ℕ) (es : List (Expression D)) → AllByRecursion HasNodes es
      → (folds_in (with_of acc i es) ≡ joined_inputs h (value h acc) (folds_in acc) i (map (value h) es)) × (nodes_in (with_of acc i es) ≡ nodes_in acc ++ flat_map (visited h) es)
  with_parts acc i [] o = (refl, sym (append-nil (nodes_in acc)))
  with_parts acc i (e ∷ es) o =
      let w = right_parts i e es o.0 o.1 in
      let b = both_at Join acc (right_of i e es) refl in (
        b.0 ∙ ap₂ (λ v zs. record { place = Join; argument = Pair (value h acc) v } ∷ (folds_in acc ++ zs)) (right_of_value i e es) w.0,
        b.1 ∙ ap (λ z. nodes_in acc ++ z) w.1,
      )

  -- first the folds, by the values, and then the nodes of each
  pub folded_inputs : (bagging : Bagging) (k : ℕ) (es : List (Expression D)) → AllByRecursion (λ (e : Expression D). AreNodes (visited h e)) es
      → inputs_of h (folded_of bagging k es) ≡ fold_inputs h bagging k (map (value h) es) ++ flat_map (visited h) es
  folded_inputs ForwardFold k [] o = refl
  folded_inputs BackwardFold k [] o = refl
  folded_inputs ForwardFold k (e ∷ es) o =
      let w = left_parts e 1 es o.1 in
      let L = left_inputs h (value h e) 1 (map (value h) es) in
      ap₂ ◌++◌ (w.0 ∙ ap (λ z. L ++ z) o.0.0 ∙ append-nil L) (w.1 ∙ ap (λ z. z ++ flat_map (visited h) es) o.0.1)
  folded_inputs BackwardFold k (e ∷ es) o =
      let us = take (pred k) es in
      let vs = drop (pred k) es in
      let acc = left_of e 1 us in
      let L = left_inputs h (value h e) 1 (map (value h) us) in
      let w = left_parts e 1 us (all_take HasNodes (pred k) es o.1) in
      let v = with_parts acc (suc (pred k)) vs (all_drop HasNodes (pred k) es o.1) in
      ap₂ ◌++◌
      (v.0 ∙ ap₂ (λ x ys. joined_inputs h x ys (suc (pred k)) (map (value h) vs)) (left_value e 1 us) (w.0 ∙ ap (λ z. L ++ z) o.0.0 ∙ append-nil L)
      ∙ ap₂ (λ (ds zs : List D). joined_inputs h (fold h.fold (value h e) ds) (left_inputs h (value h e) 1 ds) (suc (pred k)) zs)
      (sym (take-map (value h) (pred k) es)) (sym (drop-map (value h) (pred k) es)))
      (v.1 ∙ ap (λ z. z ++ flat_map (visited h) vs) (w.1 ∙ ap (λ z. z ++ flat_map (visited h) us) o.0.1)
      ∙ sym (flat_map-append (visited h) (e ∷ us) vs) ∙ ap (λ z. flat_map (visited h) (e ∷ z)) (take-append-drop (pred k) es))
