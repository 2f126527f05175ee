-- The places of a list's inputs are those of the table, in its order.
use Rattle.std.proofs.Common.{◌≡◌, ℕ, suc, zero, pred, Bool, true, false, not, cond, nat_lt, ◌+◌, ◌-◌, List, [], ◌∷◌, ◌++◌, refl, ap, ap₂, sym, ◌∙◌, arith}
use Rattle.std.proofs.Common.{length, map, take, drop, flat_map, filter, append_assoc, append-nil, lt-ltb, le-ltb, take-append-drop}
use Rattle.std.proofs.lemmas.List.{map-append, length-drop, take_all, length-take-le}
use Rattle.merkle_root_theory.specs.Expression.{Place, Join, PrefixFold, SuffixFold, Node, Input, Expression, computed, visited, inputs, is_node}
use Rattle.merkle_base.specs.Hashing.{Hashing}
use Rattle.merkle_base.specs.Tree.{Tree, leaf, join}
use Rattle.merkle_root_theory.specs.Plan.{Plan, peak, folding, left_fold_plan, right_fold_plan, with_right_fold_plan, plan_expression, node_expression}
use Rattle.merkle_base.specs.declared.family.Bagging.TheVariants.{ForwardFold, BackwardFold}
use Rattle.merkle_claim_theory.specs.Order.{down, up, node_places, PlacesInOrder}

filter_append : {X : Type 0} (t : X → Bool) (xs ys : List X) → filter t (xs ++ ys) ≡ filter t xs ++ filter t ys
filter_append t [] ys = refl
filter_append t (x ∷ xs) ys = at_test (t x) (filter_append t xs ys)
  where
    at_test : (b : Bool) → filter t (xs ++ ys) ≡ filter t xs ++ filter t ys → cond b (x ∷ filter t (xs ++ ys)) (filter t (xs ++ ys)) ≡ cond b (x ∷ filter t xs) (filter t xs) ++ filter t ys
    at_test true e = ap (λ z. x ∷ z) e
    at_test false e = e

module _ {D : Type 0} (h : Hashing D) (X : ℕ → D) where
  -- the places of the folds and of the nodes of an expression
  folds : Expression D → List Place
  folds e = map (λ (i : Input D). i.place) (filter (λ (i : Input D). not (is_node i.place)) (visited h e))

  nodes : Expression D → List Place
  nodes e = map (λ (i : Input D). i.place) (filter (λ (i : Input D). is_node i.place) (visited h e))

  places_both : (t : Input D → Bool) (xs ys : List (Input D))
      → map (λ (i : Input D). i.place) (filter t (xs ++ ys)) ≡ map (λ (i : Input D). i.place) (filter t xs) ++ map (λ (i : Input D). i.place) (filter t ys)
  places_both t xs ys = ap (map (λ (i : Input D). i.place)) (filter_append t xs ys) ∙ map-append (λ (i : Input D). i.place) (filter t xs) (filter t ys)

  folds_tree : (t : Tree) → folds (node_expression X t) ≡ []
  unfolding folds
  folds_tree (leaf p i) = refl
  folds_tree (join p l r) = places_both _ (visited h (node_expression X l)) (visited h (node_expression X r)) ∙ ap₂ ◌++◌ (folds_tree l) (folds_tree r)

  nodes_tree : (t : Tree) → nodes (node_expression X t) ≡ node_places t
  unfolding nodes
  nodes_tree (leaf p i) = refl
  nodes_tree (join p l r) = ap (λ z. Node p ∷ z) (places_both _ (visited h (node_expression X l)) (visited h (node_expression X r)) ∙ ap₂ ◌++◌ (nodes_tree l) (nodes_tree r))

  folds_prefix : (i : ℕ) (l r : Expression D) → folds (computed (PrefixFold i) l r) ≡ PrefixFold i ∷ (folds l ++ folds r)
  unfolding folds
  folds_prefix i l r = ap (λ z. PrefixFold i ∷ z) (places_both _ (visited h l) (visited h r))

  folds_suffix : (i : ℕ) (l r : Expression D) → folds (computed (SuffixFold i) l r) ≡ SuffixFold i ∷ (folds l ++ folds r)
  unfolding folds
  folds_suffix i l r = ap (λ z. SuffixFold i ∷ z) (places_both _ (visited h l) (visited h r))

  folds_join : (l r : Expression D) → folds (computed Join l r) ≡ Join ∷ (folds l ++ folds r)
  unfolding folds
  folds_join l r = ap (λ z. Join ∷ z) (places_both _ (visited h l) (visited h r))

  nodes_prefix : (i : ℕ) (l r : Expression D) → nodes (computed (PrefixFold i) l r) ≡ nodes l ++ nodes r
  unfolding nodes
  nodes_prefix i l r = places_both _ (visited h l) (visited h r)

  nodes_suffix : (i : ℕ) (l r : Expression D) → nodes (computed (SuffixFold i) l r) ≡ nodes l ++ nodes r
  unfolding nodes
  nodes_suffix i l r = places_both _ (visited h l) (visited h r)

  nodes_join : (l r : Expression D) → nodes (computed Join l r) ≡ nodes l ++ nodes r
  unfolding nodes
  nodes_join l r = places_both _ (visited h l) (visited h r)

  nodes_left_fold : (acc : Plan) (i : ℕ) (ts : List Tree) → nodes (plan_expression X (left_fold_plan acc i ts)) ≡ nodes (plan_expression X acc) ++ flat_map node_places ts
  nodes_left_fold acc i [] = sym (append-nil _)
  nodes_left_fold acc i (t ∷ ts) = nodes_left_fold (folding (PrefixFold i) acc (peak t)) (suc i) ts
      ∙ ap (λ z. z ++ flat_map node_places ts) (nodes_prefix i _ _ ∙ ap (λ z. nodes (plan_expression X acc) ++ z) (nodes_tree t))
      ∙ append_assoc _ (node_places t) (flat_map node_places ts)

  nodes_right_fold : (i : ℕ) (t : Tree) (ts : List Tree) → nodes (plan_expression X (right_fold_plan i t ts)) ≡ flat_map node_places (t ∷ ts)
  nodes_right_fold i t [] = nodes_tree t ∙ sym (append-nil _)
  nodes_right_fold i t (u ∷ us) = nodes_suffix i _ _ ∙ ap₂ ◌++◌ (nodes_tree t) (nodes_right_fold (suc i) u us)

  folds_right_fold : (i : ℕ) (t : Tree) (ts : List Tree) → folds (plan_expression X (right_fold_plan i t ts)) ≡ up i (length ts)
  folds_right_fold i t [] = folds_tree t
  folds_right_fold i t (u ∷ us) = folds_suffix i _ _ ∙ ap (λ z. SuffixFold i ∷ z) (ap₂ ◌++◌ (folds_tree t) (folds_right_fold (suc i) u us))

  -- prefix folds from i + n - 1 down to i
  downs : ℕ → ℕ → List Place
  downs i zero = []
  downs i (suc n) = downs (suc i) n ++ (PrefixFold i ∷ [])

  downs_top : (i n : ℕ) → downs i (suc n) ≡ PrefixFold (i + n) ∷ downs i n
  unfolding downs
  downs_top i zero = ap (λ z. PrefixFold z ∷ []) (omega arith)
  downs_top i (suc n) = ap (λ z. z ++ (PrefixFold i ∷ [])) (downs_top (suc i) n) ∙ ap (λ z. PrefixFold z ∷ downs i (suc n)) (omega arith)

  downs_down : (n : ℕ) → downs 1 n ≡ down n
  unfolding downs
  downs_down zero = refl
  downs_down (suc n) = downs_top 1 n ∙ ap₂ (λ a b. PrefixFold a ∷ b) (omega arith) (downs_down n)

  folds_left_fold : (acc : Plan) (i : ℕ) (ts : List Tree) → folds (plan_expression X (left_fold_plan acc i ts)) ≡ downs i (length ts) ++ folds (plan_expression X acc)
  unfolding downs
  folds_left_fold acc i [] = refl
  folds_left_fold acc i (t ∷ ts) = folds_left_fold (folding (PrefixFold i) acc (peak t)) (suc i) ts
      ∙ ap (λ z. downs (suc i) (length ts) ++ z) (folds_prefix i _ _ ∙ ap (λ z. PrefixFold i ∷ (folds (plan_expression X acc) ++ z)) (folds_tree t) ∙ ap (λ z. PrefixFold i ∷ z) (append-nil _))
      ∙ sym (append_assoc (downs (suc i) (length ts)) (PrefixFold i ∷ []) (folds (plan_expression X acc)))

  folds_peaks : (t : Tree) (ts : List Tree) → folds (plan_expression X (left_fold_plan (peak t) 1 ts)) ≡ down (length ts)
  folds_peaks t ts = folds_left_fold (peak t) 1 ts ∙ ap₂ ◌++◌ (downs_down (length ts)) (folds_tree t) ∙ append-nil _

  nodes_peaks : (t : Tree) (ts : List Tree) → nodes (plan_expression X (left_fold_plan (peak t) 1 ts)) ≡ flat_map node_places (t ∷ ts)
  nodes_peaks t ts = nodes_left_fold (peak t) 1 ts ∙ ap (λ z. z ++ flat_map node_places ts) (nodes_tree t)

  places_inputs : (e : Expression D) → map (λ (i : Input D). i.place) (inputs h e) ≡ folds e ++ nodes e
  unfolding folds nodes
  places_inputs e = map-append (λ (i : Input D). i.place) (filter (λ (i : Input D). not (is_node i.place)) (visited h e)) _

flat_both : (xs ys : List Tree) → flat_map node_places (xs ++ ys) ≡ flat_map node_places xs ++ flat_map node_places ys
flat_both [] ys = refl
flat_both (x ∷ xs) ys = ap (λ z. node_places x ++ z) (flat_both xs ys) ∙ sym (append_assoc (node_places x) _ _)

module _ {D : Type 0} (h : Hashing D) (X : ℕ → D) (t : Tree) (n : ℕ) (ts : List Tree) where
  -- the order, with what is left of the peaks after the accumulator
  InOrder : List Tree → Type 0
  InOrder rest = folds h X (plan_expression X (with_right_fold_plan (left_fold_plan (peak t) 1 (take n ts)) (suc n) rest))
      ++ nodes h X (plan_expression X (with_right_fold_plan (left_fold_plan (peak t) 1 (take n ts)) (suc n) rest))
      ≡ cond (nat_lt (suc n) (suc (length ts))) (Join ∷ (down n ++ up (suc n) (pred (suc (length ts) - suc n)))) (down (length ts)) ++ flat_map node_places (t ∷ ts)

  in_order : (rest : List Tree) → rest ≡ drop n ts → InOrder rest
  unfolding InOrder
  in_order [] e =
      let l : 0 ≡ length ts - n = ap length e ∙ length-drop n ts in
      let all : take n ts ≡ ts = take_all n ts (omega arith) in
      ap₂ ◌++◌ (folds_peaks h X t (take n ts) ∙ ap (λ z. down (length z)) all) (nodes_peaks h X t (take n ts) ∙ ap (λ z. flat_map node_places (t ∷ z)) all)
      ∙ ap (λ b. cond b (Join ∷ (down n ++ up (suc n) (pred (suc (length ts) - suc n)))) (down (length ts)) ++ flat_map node_places (t ∷ ts)) (sym (le-ltb (suc n) (suc (length ts)) (omega arith)))
  in_order (u ∷ us) e =
      let l : suc (length us) ≡ length ts - n = ap length e ∙ length-drop n ts in
      let short : length (take n ts) ≡ n = length-take-le n ts (omega arith) in
      let rest : length us ≡ pred (suc (length ts) - suc n) = omega arith in
      ap₂ ◌++◌
      (folds_join h X _ _ ∙ ap₂ (λ a b. Join ∷ (a ++ b)) (folds_peaks h X t (take n ts) ∙ ap down short) (folds_right_fold h X (suc n) u us ∙ ap (up (suc n)) rest))
      (nodes_join h X _ _ ∙ ap₂ ◌++◌ (nodes_peaks h X t (take n ts)) (nodes_right_fold h X (suc n) u us) ∙ sym (flat_both (t ∷ take n ts) (u ∷ us))
      ∙ ap (λ z. flat_map node_places (t ∷ take n ts ++ z)) e ∙ ap (λ z. flat_map node_places (t ∷ z)) (take-append-drop n ts))
      ∙ ap (λ b. cond b (Join ∷ (down n ++ up (suc n) (pred (suc (length ts) - suc n)))) (down (length ts)) ++ flat_map node_places (t ∷ ts)) (sym (lt-ltb (suc n) (suc (length ts)) (omega arith)))

pub places_in_order : {D : Type 0} → PlacesInOrder D
unfolding InOrder
places_in_order h X ForwardFold k t ts = places_inputs h X (plan_expression X (left_fold_plan (peak t) 1 ts)) ∙ ap₂ ◌++◌ (folds_peaks h X t ts) (nodes_peaks h X t ts)
places_in_order h X BackwardFold k t ts =
    places_inputs h X (plan_expression X (with_right_fold_plan (left_fold_plan (peak t) 1 (take (pred k) ts)) (suc (pred k)) (drop (pred k) ts)))
    ∙ in_order h X t (pred k) ts (drop (pred k) ts) refl
