-- Digests listed by position; what holds of each peak of a plan; roots of plans.
use Rattle.std.proofs.Common.{◌≡◌, ℕ, zero, suc, pred, Bool, true, cond, ◌||◌, nat_eq, ◌+◌, ◌≤◌, ◌<◌, ◌^◌, List, [], ◌∷◌, ◌⊎◌, inl, inr, refl, ap, ap₂, sym}
use Rattle.std.proofs.Common.{◌∙◌, subst, ⊎_elim, arith, length, map, take, drop, filter, Option, Some, None, option_map, IfSome}
use Rattle.std.specs.List.{AllByRecursion, list_any, range_with_len}
use Rattle.std.proofs.lemmas.Bool.{eqb-true, eq-eqb, ne_eqb, or_right, false≢true}
use Rattle.std.proofs.lemmas.List.{nil_from_length}
use Rattle.merkle_base.specs.Tree.{Tree}
use Rattle.merkle_forest_theory.specs.Ascending.{AscendsFrom}
use Rattle.merkle_root_theory.specs.Expression.{PrefixFold, Expression, value, inputs}
use Rattle.merkle_root_theory.specs.Collision.{Member, Collision, Collides}
use Rattle.merkle_root_theory.specs.Plan.{Plan, peak, folding, left_fold_plan, right_fold_plan, with_right_fold_plan, root_plan, plan_expression, plan_digest}
use Rattle.merkle_base.specs.declared.family.Bagging.{Bagging}
use Rattle.merkle_base.specs.declared.family.Bagging.TheVariants.{ForwardFold, BackwardFold}
use Rattle.merkle_claim_theory.specs.Order.{Distinct}
use Rattle.merkle_root_theory.specs.Check.{root_of, inputs_of, all_inputs, list_expression}
use Rattle.merkle_base.specs.Scheme.{Scheme}
use Rattle.merkle_base.specs.Places.{peaks_of}
use Rattle.merkle_base.specs.Table.{digest_for}
use Rattle.merkle_base.proofs.Cases.{by_test}
use Rattle.merkle_root_theory.proofs.ListChecks.{root_tells}
use Rattle.merkle_base.proofs.PeakLists.{Spans, peaks_spans}
use Rattle.merkle_root_theory.proofs.Extraction.{all_take, all_drop}
use Rattle.merkle_root_theory.specs.RootString.{ByteLaws, SameFolded}
use Rattle.merkle_base.specs.Root.{root_string}
use Rattle.merkle_root_theory.specs.Range.{leaf_of, plan_root, IsLawfulScheme}
use Rattle.merkle_root_theory.proofs.RangeChecks.{small_leaves, small_inactive, no_plan}

-- ---- members
pub any_member : {A : Type 0} (f : A → Bool) (xs : List A) (x : A) → Member xs x → f x ≡ true → list_any f xs ≡ true
any_member f [] x m e = elim m [ ]
any_member f (y ∷ xs) x (inl q) e = ap (λ z. z || list_any f xs) (ap f q ∙ e)
any_member f (y ∷ xs) x (inr m) e = or_right (f y) _ (any_member f xs x m e)

pub member_any : {A : Type 0} (f : A → Bool) (xs : List A) → list_any f xs ≡ true → (x : A) × Member xs x × (f x ≡ true)
member_any f [] e = absurd (false≢true e)
member_any f (y ∷ xs) e = by_test (λ b. f y ≡ b → b || list_any f xs ≡ true → (x : _) × Member (y ∷ xs) x × (f x ≡ true)) (f y)
    (λ _ q _. (y, inl refl, q)) (λ _ _ w. let v = member_any f xs w in (v.0, inr v.1, v.2)) refl e

pub member_filtered : {A : Type 0} (t : A → Bool) (xs : List A) (x : A) → Member xs x → t x ≡ true → Member (filter t xs) x
member_filtered t [] x m e = elim m [ ]
member_filtered t (y ∷ xs) x (inl q) e = subst (λ z. Member (cond z (y ∷ filter t xs) (filter t xs)) x) (sym (ap t q ∙ e)) (inl q)
member_filtered t (y ∷ xs) x (inr m) e = by_test (λ z. Member (cond z (y ∷ filter t xs) (filter t xs)) x) (t y) (λ _. inr (member_filtered t xs x m e)) (λ _. member_filtered t xs x m e)

pub filtered_member : {A : Type 0} (t : A → Bool) (xs : List A) (x : A) → Member (filter t xs) x → Member xs x × (t x ≡ true)
filtered_member t [] x m = elim m [ ]
filtered_member t (y ∷ xs) x m = by_test (λ z. t y ≡ z → Member (cond z (y ∷ filter t xs) (filter t xs)) x → Member (y ∷ xs) x × (t x ≡ true)) (t y)
    (λ _ e w. ⊎_elim (λ q. (inl q, sym (ap t q) ∙ e)) (λ v. let u = filtered_member t xs x v in (inr u.0, u.1)) w) (λ _ e w. let u = filtered_member t xs x w in (inr u.0, u.1)) refl m

pub range_member : (a n p : ℕ) → a ≤ p → p < a + n → Member (range_with_len a n) p
range_member a zero p l m = absurd (omega arith)
range_member a (suc n) p l m = ⊎_elim inl (λ w. inr (range_member (a + 1) n p w (omega arith))) (either a p l)
  where
    either : (a p : ℕ) → a ≤ p → (a ≡ p) ⊎ (a + 1 ≤ p)
    either a p l = grind arith

pub member_range : (a n p : ℕ) → Member (range_with_len a n) p → (a ≤ p) × (p < a + n)
member_range a zero p m = elim m [ ]
member_range a (suc n) p (inl e) = (omega (arith, e), omega (arith, e))
member_range a (suc n) p (inr m) = let w = member_range (a + 1) n p m in (omega (arith, w.0), omega (arith, w.1))

pub distinct_range : (a n : ℕ) → Distinct (range_with_len a n)
distinct_range a zero = tt
distinct_range a (suc n) = ((λ m. let w = member_range (a + 1) n a m in absurd (omega (arith, w.0))), distinct_range (a + 1) n)

pub distinct_filter : {A : Type 0} (t : A → Bool) (xs : List A) → Distinct xs → Distinct (filter t xs)
distinct_filter t [] d = tt
distinct_filter t (x ∷ xs) d =
    by_test (λ z. Distinct (cond z (x ∷ filter t xs) (filter t xs))) (t x) (λ _. ((λ m. d.0 (filtered_member t xs x m).0), distinct_filter t xs d.1))
    (λ _. distinct_filter t xs d.1)

pub ascends_member : (a : ℕ) (ps : List ℕ) (p : ℕ) → AscendsFrom a ps → Member ps p → a ≤ p
ascends_member a [] p u m = elim m [ ]
ascends_member a (q ∷ ps) p u (inl e) = omega (arith, u.0, e)
ascends_member a (q ∷ ps) p u (inr m) = omega (arith, ascends_member (suc q) ps p u.1 m, u.0)

pub ascends_distinct : (a : ℕ) (ps : List ℕ) → AscendsFrom a ps → Distinct ps
ascends_distinct a [] u = tt
ascends_distinct a (q ∷ ps) u = ((λ m. absurd (omega (arith, ascends_member (suc q) ps q u.1 m))), ascends_distinct (suc q) ps u.1)

-- ---- lists by position
pub listed : {D : Type 0} (ps : List ℕ) (ds : List D) (f : ℕ → D) → Distinct ps → length ds ≡ length ps → ((p : ℕ) → Member ps p → IfSome (digest_for ps ds p) (λ d. d ≡ f p)) → ds ≡ map f ps
listed [] [] f u l w = refl
listed [] (d ∷ ds) f u l w = absurd (omega (arith, l))
listed (p ∷ ps) [] f u l w = absurd (omega (arith, l))
listed (p ∷ ps) (d ∷ ds) f u l w = ap₂ (λ a b. a ∷ b)
    (subst (λ z. IfSome (cond z (Some d) (digest_for ps ds p)) (λ e. e ≡ f p)) (eq-eqb p p refl) (w p (inl refl)))
    (listed ps ds f u.1 (omega (arith, l)) (λ q m. subst (λ z. IfSome (cond z (Some d) (digest_for ps ds q)) (λ e. e ≡ f q)) (ne_eqb p q (λ e. u.0 (subst (Member ps) (sym e) m))) (w q (inr m))))

pub listed_is : {D : Type 0} (ps : List ℕ) (f : ℕ → D) (p : ℕ) → IfSome (digest_for ps (map f ps) p) (λ d. d ≡ f p)
listed_is [] f p = tt
listed_is (q ∷ ps) f p = by_test (λ z. nat_eq q p ≡ z → IfSome (cond z (Some (f q)) (digest_for ps (map f ps) p)) (λ d. d ≡ f p)) (nat_eq q p)
    (λ _ e. ap f (eqb-true q p e)) (λ _ _. listed_is ps f p) refl

pub listed_some : {D : Type 0} (ps : List ℕ) (f : ℕ → D) (p : ℕ) → Member ps p → digest_for ps (map f ps) p ≡ Some (f p)
listed_some [] f p m = elim m [ ]
listed_some (q ∷ ps) f p (inl e) = ap (λ z. cond z (Some (f q)) (digest_for ps (map f ps) p)) (eq-eqb q p e) ∙ ap (λ z. Some (f z)) e
listed_some (q ∷ ps) f p (inr m) = by_test (λ z. nat_eq q p ≡ z → cond z (Some (f q)) (digest_for ps (map f ps) p) ≡ Some (f p)) (nat_eq q p)
    (λ _ e. ap (λ z. Some (f z)) (eqb-true q p e)) (λ _ _. listed_some ps f p m) refl

-- ---- what holds of each peak of a plan
abbrev pub EachPeak : (Tree → Type 0) → Plan → Type 0
EachPeak P (peak t) = P t
EachPeak P (folding place l r) = EachPeak P l × EachPeak P r

module _ (P : Tree → Type 0) where
  pub each_left_fold : (acc : Plan) (i : ℕ) (ts : List Tree) → EachPeak P (left_fold_plan acc i ts) → EachPeak P acc × AllByRecursion P ts
  each_left_fold acc i [] w = (w, tt)
  each_left_fold acc i (t ∷ ts) w = let v = each_left_fold (folding (PrefixFold i) acc (peak t)) (suc i) ts w in (v.0.0, (v.0.1, v.1))

  pub left_fold_each : (acc : Plan) (i : ℕ) (ts : List Tree) → EachPeak P acc → AllByRecursion P ts → EachPeak P (left_fold_plan acc i ts)
  left_fold_each acc i [] w v = w
  left_fold_each acc i (t ∷ ts) w v = left_fold_each (folding (PrefixFold i) acc (peak t)) (suc i) ts (w, v.0) v.1

  each_right_fold : (i : ℕ) (t : Tree) (ts : List Tree) → EachPeak P (right_fold_plan i t ts) → AllByRecursion P (t ∷ ts)
  each_right_fold i t [] w = (w, tt)
  each_right_fold i t (u ∷ us) w = (w.0, each_right_fold (suc i) u us w.1)

  right_fold_each : (i : ℕ) (t : Tree) (ts : List Tree) → AllByRecursion P (t ∷ ts) → EachPeak P (right_fold_plan i t ts)
  right_fold_each i t [] w = w.0
  right_fold_each i t (u ∷ us) w = (w.0, right_fold_each (suc i) u us w.1)

  each_join : (acc : Plan) (i : ℕ) (ts : List Tree) → EachPeak P (with_right_fold_plan acc i ts) → EachPeak P acc × AllByRecursion P ts
  each_join acc i [] w = (w, tt)
  each_join acc i (t ∷ ts) w = (w.0, each_right_fold i t ts w.1)

  join_each : (acc : Plan) (i : ℕ) (ts : List Tree) → EachPeak P acc → AllByRecursion P ts → EachPeak P (with_right_fold_plan acc i ts)
  join_each acc i [] w v = w
  join_each acc i (t ∷ ts) w v = (w, right_fold_each i t ts v)

  pub all_cut : (n : ℕ) (ts : List Tree) → AllByRecursion P (take n ts) → AllByRecursion P (drop n ts) → AllByRecursion P ts
  all_cut zero ts u v = v
  all_cut (suc n) [] u v = tt
  all_cut (suc n) (t ∷ ts) u v = (u.0, all_cut n ts u.1 v)

  abbrev EachOf : Option Plan → Type 0
  EachOf None = Unit {0}
  EachOf (Some p) = EachPeak P p

  each_whole : (b : Bagging) (k : ℕ) (ts : List Tree) → EachOf (root_plan b k ts) → AllByRecursion P ts
  each_whole ForwardFold k [] w = tt
  each_whole BackwardFold k [] w = tt
  each_whole ForwardFold k (t ∷ ts) w = each_left_fold (peak t) 1 ts w
  each_whole BackwardFold k (t ∷ ts) w = let v = each_join _ (suc (pred k)) (drop (pred k) ts) w in let u = each_left_fold (peak t) 1 (take (pred k) ts) v.0 in (u.0, all_cut (pred k) ts u.1 v.1)

  whole_each : (b : Bagging) (k : ℕ) (ts : List Tree) → AllByRecursion P ts → EachOf (root_plan b k ts)
  whole_each ForwardFold k [] w = tt
  whole_each BackwardFold k [] w = tt
  whole_each ForwardFold k (t ∷ ts) w = left_fold_each (peak t) 1 ts w.0 w.1
  whole_each BackwardFold k (t ∷ ts) w = join_each _ (suc (pred k)) (drop (pred k) ts) (left_fold_each (peak t) 1 (take (pred k) ts) w.0 (all_take P (pred k) ts w.1)) (all_drop P (pred k) ts w.1)

  pub each_of : (b : Bagging) (k : ℕ) (ts : List Tree) (p : Plan) → root_plan b k ts ≡ Some p → EachPeak P p → AllByRecursion P ts
  each_of b k ts p e w = each_whole b k ts (subst EachOf (sym e) w)

  pub of_each : (b : Bagging) (k : ℕ) (ts : List Tree) (p : Plan) → root_plan b k ts ≡ Some p → AllByRecursion P ts → EachPeak P p
  of_each b k ts p e w = subst EachOf e (whole_each b k ts w)

-- ---- a plan's root
pub plan_for : {D : Type 0} (s : Scheme D) (n k : ℕ) → 0 < n → (p : Plan) × (root_plan s.bagging k (peaks_of s.rule n) ≡ Some p)
plan_for s n k l = some_plan s.bagging (peaks_of s.rule n) (peaks_spans s.rule n)
  where
    some_plan : (b : Bagging) (ts : List Tree) → Spans 0 n ts → (p : Plan) × (root_plan b k ts ≡ Some p)
    some_plan b [] c = absurd (omega (arith, c, l))
    some_plan ForwardFold (t ∷ ts) c = (_, refl)
    some_plan BackwardFold (t ∷ ts) c = (_, refl)

pub same_plan : (b : Bagging) (k : ℕ) (ts : List Tree) (p q : Plan) → root_plan b k ts ≡ Some p → root_plan b k ts ≡ Some q → p ≡ q
same_plan b k ts p q d e = cc

-- one root: one leaf count, one inactive count, one value of the plan, or the root's strings collide
module _ {D : Type 0} (s : Scheme D) (size : ℕ) (bytes : ByteLaws s.hashing size) (X : ℕ → D) (E : Plan → Expression D) (n n' k k' : ℕ)
    (a : n < 2 ^ 64) (a' : n' < 2 ^ 64) (b : k < 2 ^ 64) (b' : k' < 2 ^ 64) where
  pub roots : 0 < n → (p : Plan) → root_plan s.bagging k (peaks_of s.rule n) ≡ Some p
      → root_of s n k (option_map E (root_plan s.bagging k (peaks_of s.rule n))) ≡ root_of s n' k' (list_expression s X n' k')
      → ((n ≡ n') × (k ≡ k') × (value s.hashing (E p) ≡ plan_digest s.hashing X p))
      ⊎ ((c : Collision D) × Collides s.hashing (all_inputs s n k (option_map E (root_plan s.bagging k (peaks_of s.rule n)))) (all_inputs s n' k' (list_expression s X n' k')) c)
  roots l p e same = ⊎_elim (λ w. inl (told w)) inr (root_tells s size bytes n n' k k' (option_map E (root_plan s.bagging k (peaks_of s.rule n))) (list_expression s X n' k') a a' b b' same)
    where
      told : (n ≡ n') × SameFolded k (option_map (value s.hashing) (option_map E (root_plan s.bagging k (peaks_of s.rule n)))) k'
          (option_map (value s.hashing) (list_expression s X n' k')) → (n ≡ n') × (k ≡ k') × (value s.hashing (E p) ≡ plan_digest s.hashing X p)
      told w =
          let q = plan_for s n' k' (omega (arith, l, w.0)) in
          let v : SameFolded k (Some (value s.hashing (E p))) k' (Some (plan_digest s.hashing X q.0)) =
          subst (λ z. SameFolded k (Some (value s.hashing (E p))) k' (option_map (value s.hashing) (option_map (plan_expression X) z))) q.1
          (subst (λ z. SameFolded k (option_map (value s.hashing) (option_map E z)) k' (option_map (value s.hashing) (list_expression s X n' k'))) e w.1) in
          let f : q.0 ≡ p = same_plan s.bagging k (peaks_of s.rule n) q.0 p (ap₂ (λ x y. root_plan s.bagging x (peaks_of s.rule y)) v.0 w.0 ∙ q.1) e in
          (w.0, v.0, v.1 ∙ ap (plan_digest s.hashing X) f)

  -- a collision below the root
  pub below_root : (p : Plan) → root_plan s.bagging k (peaks_of s.rule n) ≡ Some p → n ≡ n' → k ≡ k'
      → ((c : Collision D) × Collides s.hashing (inputs s.hashing (E p)) (inputs s.hashing (plan_expression X p)) c)
      → (c : Collision D) × Collides s.hashing (all_inputs s n k (option_map E (root_plan s.bagging k (peaks_of s.rule n)))) (all_inputs s n' k' (list_expression s X n' k')) c
  below_root p e f g c =
      let e' : root_plan s.bagging k' (peaks_of s.rule n') ≡ Some p = ap₂ (λ x y. root_plan s.bagging x (peaks_of s.rule y)) (sym g) (sym f) ∙ e in (
        c.0,
        record {
          claimed = inr (subst (λ z. Member (inputs_of s.hashing (option_map E z)) (record { place = c.0.place; argument = c.0.claimed })) (sym e) c.1.claimed);
          listed = inr (subst (λ z. Member (inputs_of s.hashing (option_map (plan_expression X) z)) (record { place = c.0.place; argument = c.0.listed })) (sym e') c.1.listed);
          differ = c.1.differ;
          one_digest = c.1.one_digest;
        },
      )

-- a plan with the list's value has the list's root
pub roots_same : {D : Type 0} (s : Scheme D) (X : ℕ → D) (E : Plan → Expression D) (n k : ℕ) (p : Plan)
    → root_plan s.bagging k (peaks_of s.rule n) ≡ Some p → value s.hashing (E p) ≡ plan_digest s.hashing X p
    → root_of s n k (option_map E (root_plan s.bagging k (peaks_of s.rule n))) ≡ root_of s n k (list_expression s X n k)
roots_same s X E n k p e v = ap (λ o. s.hashing.hash (root_string s.hashing s.domain s.bagging n k o))
    (ap (λ o. option_map (value s.hashing) (option_map E o)) e ∙ ap Some v ∙ ap (λ o. option_map (value s.hashing) (option_map (plan_expression X) o)) (sym e))

-- the root of no leaves is the root of no list that has some, but for collisions
module _ {D : Type 0} (s : Scheme D) (size max_nodes : ℕ) (sound : IsLawfulScheme s size max_nodes) (xs : List D) (k : ℕ)
    (few : length xs ≤ s.max_leaves) (low : k ≤ length (peaks_of s.rule (length xs))) where
  pub no_other_list : (E : Plan → Expression D) (n j : ℕ) → n ≡ 0 → j ≡ 0 → root_of s 0 0 None ≡ plan_root s xs k
      → (xs ≡ []) ⊎ ((c : Collision D)
      × Collides s.hashing (all_inputs s n j (option_map E (root_plan s.bagging j (peaks_of s.rule n))))
      (all_inputs s (length xs) k (list_expression s (leaf_of s.hashing xs) (length xs) k)) c)
  no_other_list E n j e f same =
      ⊎_elim (λ w. inl (nil_from_length xs (sym w.0)))
      (λ c. inr (subst (λ z. (c : Collision D)
      × Collides s.hashing z (all_inputs s (length xs) k (list_expression s (leaf_of s.hashing xs) (length xs) k)) c) (sym inputs) c))
      (root_tells s size sound.bytes 0 (length xs) 0 k None (list_expression s (leaf_of s.hashing xs) (length xs) k) (omega arith)
      (small_leaves s max_nodes (length xs) sound.lawful few) (omega arith) (small_inactive s max_nodes (length xs) k sound.lawful few low) same)
    where
      inputs : all_inputs s n j (option_map E (root_plan s.bagging j (peaks_of s.rule n))) ≡ all_inputs s 0 0 None
      inputs = ap (λ o. all_inputs s n j (option_map E o)) (ap (λ m. root_plan s.bagging j (peaks_of s.rule m)) e ∙ no_plan s s.bagging j) ∙ ap₂ (λ a b. all_inputs s a b None) e f
