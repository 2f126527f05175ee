-- The digests of a layout, from those that are read.
use Rattle.std.proofs.Common.{◌≡◌, ℕ, suc, ◌-◌, List, [], ◌∷◌, ◌++◌, map, append_assoc, append-nil, refl, ap, ap₂, sym, ◌∙◌, Option, Some, fold}
use Rattle.std.specs.Option.{option_to_list, option_map_or}
use Rattle.std.proofs.lemmas.List.{map-append, map-id, take-append-drop}
use Rattle.merkle_base.specs.Tree.{Tree, position}
use Rattle.merkle_base.specs.Hashing.{Hashing}
use Rattle.merkle_base.specs.Root as root
use Rattle.merkle_base.specs.Root.{folded}
use Rattle.merkle_base.specs.declared.family.Bagging.{Bagging}
use Rattle.merkle_base.specs.declared.family.Bagging.TheVariants.{ForwardFold, BackwardFold}
use Rattle.merkle_base.proofs.Lists.{cons_head, cons_tail}
use Rattle.merkle_root_theory.specs.Expression.{Place, PrefixFold, SuffixFold, Expression, computed, value}
use Rattle.merkle_root_theory.specs.Plan.{Plan, peak, folding, left_fold_plan, right_fold_plan, tree_digest, plan_digest}
use Rattle.merkle_root_theory.specs.Outside.{fold_all, bag_all, folded_prefix, single_before, single_after, folded_suffix}
use Rattle.merkle_root_theory.specs.Layouts.{laid_out}
use Rattle.merkle_root_theory.specs.Reads.{both_read, part_read}

pub map-append_four : {X Y : Type 0} (g : X → Y) (xs ys zs us : List X) → map g (xs ++ (ys ++ (zs ++ us))) ≡ map g xs ++ (map g ys ++ (map g zs ++ map g us))
map-append_four g xs ys zs us = map-append g xs (ys ++ (zs ++ us)) ∙ ap (λ w. map g xs ++ w) (map-append g ys (zs ++ us) ∙ ap (λ w. map g ys ++ w) (map-append g zs us))

append_assoc_four : {X : Type 0} (xs ys zs us vs : List X) → (xs ++ (ys ++ (zs ++ us))) ++ vs ≡ xs ++ (ys ++ (zs ++ (us ++ vs)))
append_assoc_four xs ys zs us vs = append_assoc xs (ys ++ (zs ++ us)) vs ∙ ap (λ w. xs ++ w) (append_assoc ys (zs ++ us) vs ∙ ap (λ w. ys ++ w) (append_assoc zs us vs))

pub folded_prefix_rest : (bagging : Bagging) (k : ℕ) (ts : List Tree) → folded_prefix bagging k ts ++ single_before bagging k ts ≡ ts
folded_prefix_rest ForwardFold k ts = append-nil ts
folded_prefix_rest BackwardFold k ts = take-append-drop k ts

pub single_after_rest : (bagging : Bagging) (k met : ℕ) (ts : List Tree) → single_after bagging k met ts ++ folded_suffix bagging k met ts ≡ ts
single_after_rest ForwardFold k met ts = append-nil ts
single_after_rest BackwardFold k met ts = take-append-drop (k - met) ts

-- at and part answer for peaks and parts, told for a digest, and for a part that is folded the fold of what is answered for its two
pub record StandFor {D E : Type 0} (f : D → D → D) (told : D → E) (at : Tree → E) (part : Plan → E) : Type 0 where
  pub alone : (t : Tree) → part (peak t) ≡ at t
  pub prefix : (i : ℕ) (l : Plan) (t : Tree) (x y : D) → part l ≡ told x → at t ≡ told y → part (folding (PrefixFold i) l (peak t)) ≡ told (f x y)
  pub suffix : (i : ℕ) (t : Tree) (r : Plan) (x y : D) → at t ≡ told x → part r ≡ told y → part (folding (SuffixFold i) (peak t) r) ≡ told (f x y)

module _ {D E : Type 0} (f : D → D → D) (told : D → E) (at : Tree → E) (part : Plan → E) (stand : StandFor f told at part) where
  left_fold_read : (acc : Plan) (v : D) (i : ℕ) (ts : List Tree) (ds : List D) → part acc ≡ told v → map at ts ≡ map told ds → part (left_fold_plan acc i ts) ≡ told (fold f v ds)
  left_fold_read acc v i [] [] e g = e
  left_fold_read acc v i [] (d ∷ ds) e g = absurd (cc)
  left_fold_read acc v i (t ∷ ts) [] e g = absurd (cc)
  left_fold_read acc v i (t ∷ ts) (d ∷ ds) e g =
      left_fold_read (folding (PrefixFold i) acc (peak t)) (f v d) (suc i) ts ds (stand.prefix i acc t v d e (cons_head _ _ _ _ g)) (cons_tail _ _ _ _ g)

  folded_read : (ts : List Tree) (ds : List D) → map at ts ≡ map told ds → map told (option_to_list (folded f ForwardFold 0 ds)) ≡ map part (fold_all ts)
  folded_read [] [] e = refl
  folded_read [] (d ∷ ds) e = absurd (cc)
  folded_read (t ∷ ts) [] e = absurd (cc)
  folded_read (t ∷ ts) (d ∷ ds) e = ap (λ z. z ∷ []) (sym (left_fold_read (peak t) d 1 ts ds (stand.alone t ∙ cons_head _ _ _ _ e) (cons_tail _ _ _ _ e)))

  right_fold_is : (i : ℕ) (t : Tree) (ts : List Tree) (d : D) (ds : List D) → at t ≡ told d → map at ts ≡ map told ds → (v : D)
      × (root.right_fold f (d ∷ ds) ≡ Some v) × (part (right_fold_plan i t ts) ≡ told v)
  right_fold_is i t [] d [] e g = (d, refl, stand.alone t ∙ e)
  right_fold_is i t [] d (x ∷ xs) e g = absurd (cc)
  right_fold_is i t (u ∷ us) d [] e g = absurd (cc)
  right_fold_is i t (u ∷ us) d (x ∷ xs) e g =
      let w = right_fold_is (suc i) u us x xs (cons_head _ _ _ _ g) (cons_tail _ _ _ _ g) in
      (f d w.0, ap (λ o. option_map_or (λ b. Some (f d b)) o (Some d)) w.1, stand.suffix i t (right_fold_plan (suc i) u us) d w.0 e w.2)

  right_fold_read : (i : ℕ) (ts : List Tree) (ds : List D) → map at ts ≡ map told ds → map told (option_to_list (root.right_fold f ds)) ≡ map part (bag_all i ts)
  right_fold_read i [] [] e = refl
  right_fold_read i [] (d ∷ ds) e = absurd (cc)
  right_fold_read i (t ∷ ts) [] e = absurd (cc)
  right_fold_read i (t ∷ ts) (d ∷ ds) e =
      let w = right_fold_is i t ts d ds (cons_head _ _ _ _ e) (cons_tail _ _ _ _ e) in
      ap (λ o. map told (option_to_list o)) w.1 ∙ ap (λ z. z ∷ []) (sym w.2)

  singles_read : (ts : List Tree) → map at ts ≡ map part (map peak ts)
  singles_read [] = refl
  singles_read (t ∷ ts) = ap₂ (λ x y. x ∷ y) (sym (stand.alone t)) (singles_read ts)

  -- what is read of a prefix, of individual peaks before and after the range, of a suffix and of the nodes inside, laid out, is the layout over them
  pub laid_out_read : (i : ℕ) (xs ys zs us inside : List Tree) (prefix single suffix siblings : List D)
      → map at xs ≡ map told prefix → map at (ys ++ zs) ≡ map told single → map at us ≡ map told suffix → map at inside ≡ map told siblings
      → map told (laid_out f prefix single suffix siblings) ≡ map part (fold_all xs ++ (map peak ys ++ (map peak zs ++ bag_all i us))) ++ map at inside
  laid_out_read i xs ys zs us inside prefix single suffix siblings p q r s =
      let singles : map told single ≡ map part (map peak ys) ++ map part (map peak zs) = sym q ∙ map-append at ys zs ∙ ap₂ ◌++◌ (singles_read ys) (singles_read zs) in
      let last = map part (bag_all i us) ++ map at inside in
      map-append_four told (option_to_list (folded f ForwardFold 0 prefix)) single (option_to_list (root.right_fold f suffix)) siblings
      ∙ ap₂ ◌++◌ (folded_read xs prefix p) (ap₂ ◌++◌ singles (ap₂ ◌++◌ (right_fold_read i us suffix r) (sym s)) ∙ append_assoc (map part (map peak ys)) (map part (map peak zs)) last)
      ∙ sym (ap (λ w. w ++ map at inside) (map-append_four part (fold_all xs) (map peak ys) (map peak zs) (bag_all i us))
      ∙ append_assoc_four (map part (fold_all xs)) (map part (map peak ys)) (map part (map peak zs)) (map part (bag_all i us)) (map at inside))

abbrev pub at_node : {D : Type 0} → (ℕ → Option D) → Tree → Option D
at_node node t = node (position t)

pub nodes_stand : {D : Type 0} (h : Hashing D) (node : ℕ → Option D) → StandFor h.fold Some (at_node node) (part_read h node)
nodes_stand h node = record { alone = λ t. refl; prefix = λ i l t x y. ap₂ (both_read h.fold); suffix = λ i t r x y. ap₂ (both_read h.fold) }

module _ {D : Type 0} (h : Hashing D) (X : ℕ → D) where
  pub digests_stand : StandFor h.fold (λ d. d) (tree_digest h X) (plan_digest h X)
  digests_stand = record { alone = λ t. refl; prefix = λ i l t x y. ap₂ h.fold; suffix = λ i t r x y. ap₂ h.fold }

-- expressions of plans, of which a fold's is that of its two parts at its place
module _ {D : Type 0} (h : Hashing D) (E : Plan → Expression D) (folds : (place : Place) (l r : Plan) → E (folding place l r) ≡ computed place (E l) (E r)) where
  abbrev plan_value : Plan → D
  plan_value p = value h (E p)

  abbrev peak_value : Tree → D
  peak_value t = plan_value (peak t)

  values_stand : StandFor h.fold (λ d. d) peak_value plan_value
  values_stand = record {
    alone = λ t. refl;
    prefix = λ i l t x y e f. ap (value h) (folds (PrefixFold i) l (peak t)) ∙ ap₂ h.fold e f;
    suffix = λ i t r x y e f. ap (value h) (folds (SuffixFold i) (peak t) r) ∙ ap₂ h.fold e f;
  }

  pub fold_values : (acc : Plan) (i : ℕ) (ts : List Tree) → fold h.fold (plan_value acc) (map peak_value ts) ≡ plan_value (left_fold_plan acc i ts)
  fold_values acc i ts = let ds = map peak_value ts in
      sym (left_fold_read h.fold (λ d. d) peak_value plan_value values_stand acc (plan_value acc) i ts ds refl (sym (map-id ds)))

  pub right_fold_values : (i : ℕ) (t : Tree) (ts : List Tree) → root.right_fold h.fold (map peak_value (t ∷ ts)) ≡ Some (plan_value (right_fold_plan i t ts))
  right_fold_values i t ts =
      let ds = map peak_value ts in
      let w = right_fold_is h.fold (λ d. d) peak_value plan_value values_stand i t ts (peak_value t) ds refl (sym (map-id ds)) in
      w.1 ∙ ap Some (sym w.2)
