-- What the parts of a plan give, one after another.
use Rattle.std.proofs.Common.{◌≡◌, ℕ, suc, Bool, true, false, cond, ◌||◌, ◌+◌, ◌≤◌, List, [], ◌∷◌, ◌++◌, refl, ap, ap₂, sym, ◌∙◌, ⊎_elim, arith, length, map}
use Rattle.std.proofs.Common.{flat_map, take, drop, append_assoc, append-nil, length-append, drop-drop, fold, take_at}
use Rattle.std.specs.Option.{option_to_list}
use Rattle.std.proofs.lemmas.Bool.{or_right, or_left, or_cases}
use Rattle.merkle_base.specs.Tree.{Tree, leaf, join}
use Rattle.merkle_base.specs.Hashing.{Hashing}
use Rattle.merkle_base.specs.Root as root
use Rattle.merkle_base.specs.declared.family.Bagging.TheVariants.{ForwardFold}
use Rattle.merkle_base.proofs.Cases.{by_test}
use Rattle.merkle_root_theory.specs.Expression.{Place, PrefixFold, value, supplied}
use Rattle.merkle_root_theory.specs.Plan.{Plan, peak, folding, left_fold_plan, right_fold_plan, meets, tree_meets, siblings, outside_parts, path_siblings}
use Rattle.merkle_root_theory.specs.Claim.{next, claim, tree_claim}
use Rattle.merkle_root_theory.specs.Outside.{fold_all, bag_all, Met, Unmet}
use Rattle.merkle_root_theory.specs.Walk.{peak_values}
use Rattle.merkle_root_theory.proofs.OutsideNodes.{left_fold_unmet, right_fold_unmet, left_fold_append, outside_parts_unmet, inner_unmet}
use Rattle.merkle_root_theory.proofs.PartValues.{part_values, claim_unmet, value_folding, values_folding, values_are, UnmetParts}
use Rattle.merkle_root_theory.proofs.ForwardValues.{value_left_fold}
use Rattle.merkle_root_theory.proofs.LayoutCounts.{length-bag_all}
use Rattle.merkle_root_theory.proofs.BackwardValues.{last_met, right_fold_values}
use Rattle.merkle_store_theory.proofs.Flattened.{flat}

-- what each part gives, the digests before it being taken by the parts before
abbrev pub gathered : {D : Type 0} → (ℕ → Bool) → (Plan → List D → List D → List D) → List Plan → List D → List D → List D
gathered c sub [] os is = []
gathered c sub (p ∷ ps) os is = sub p os is ++ gathered c sub ps (drop (length (outside_parts c p)) os) (drop (length (path_siblings c p)) is)

module _ (c d : ℕ → Bool) (within : (i : ℕ) → d i ≡ true → c i ≡ true) where
  pub meets_within : (t : Tree) → tree_meets d t ≡ true → tree_meets c t ≡ true
  meets_within (leaf p i) m = within i m
  meets_within (join p l r) m = ⊎_elim (λ w. ap (λ z. z || tree_meets c r) (meets_within l w)) (λ w. or_right (tree_meets c l) _ (meets_within r w)) (or_cases (tree_meets d l) _ m)

  pub plan_within : (p : Plan) → meets d p ≡ true → meets c p ≡ true
  plan_within (peak t) m = meets_within t m
  plan_within (folding place l r) m = ⊎_elim (λ w. ap (λ z. z || meets c r) (plan_within l w)) (λ w. or_right (meets c l) _ (plan_within r w)) (or_cases (meets d l) _ m)

-- what sides give stands in what a met folding gives
abbrev pub Splits : {D : Type 0} → (c d : ℕ → Bool) → (Plan → List D → List D → List D) → Type 0
Splits {D} c d sub = (q : Place) (l r : Plan) (os is : List D) → meets d l || meets d r ≡ true → sub (folding q l r) os is ≡ sub l os is
    ++ sub r (drop (length (outside_parts c l)) os) (drop (length (path_siblings c l)) is)

module _ {D : Type 0} (c d : ℕ → Bool) (within : (i : ℕ) → d i ≡ true → c i ≡ true) (sub : Plan → List D → List D → List D) (splits : Splits c d sub) where
  after_folding : (q : Place) (l r : Plan) (qs : List Plan) (os is : List D) → meets c l || meets c r ≡ true
      → gathered c sub qs (drop (length (outside_parts c (folding q l r))) os) (drop (length (path_siblings c (folding q l r))) is)
      ≡ gathered c sub qs (drop (length (outside_parts c r)) (drop (length (outside_parts c l)) os)) (drop (length (path_siblings c r)) (drop (length (path_siblings c l)) is))
  after_folding q l r qs os is m = ap₂ (gathered c sub qs)
      (ap (λ z. drop (length (cond z (outside_parts c l ++ outside_parts c r) (folding q l r ∷ []))) os) m
      ∙ ap (λ n. drop n os) (length-append (outside_parts c l) (outside_parts c r)) ∙ sym (drop-drop (length (outside_parts c r)) (length (outside_parts c l)) os))
      (ap (λ z. drop (length (cond z (path_siblings c l ++ path_siblings c r) [])) is) m
      ∙ ap (λ n. drop n is) (length-append (path_siblings c l) (path_siblings c r)) ∙ sym (drop-drop (length (path_siblings c r)) (length (path_siblings c l)) is))

  gathered_under : (ps qs rs : List Plan) → ((os is : List D) → gathered c sub qs os is ≡ gathered c sub rs os is) → (os is : List D)
      → gathered c sub (ps ++ qs) os is ≡ gathered c sub (ps ++ rs) os is
  gathered_under [] qs rs e os is = e os is
  gathered_under (p ∷ ps) qs rs e os is = ap (λ z. sub p os is ++ z) (gathered_under ps qs rs e (drop (length (outside_parts c p)) os) (drop (length (path_siblings c p)) is))

  -- a plan gives what the list of its parts gives
  pub flattened : (p : Plan) (qs : List Plan) (os is : List D) → gathered c sub (p ∷ qs) os is ≡ gathered c sub (flat d p ++ qs) os is
  flattened (peak t) qs os is = refl
  flattened (folding q l r) qs os is =
      by_test (λ b. meets d l || meets d r ≡ b → gathered c sub (folding q l r ∷ qs) os is ≡ gathered c sub (cond b (flat d l ++ flat d r) (folding q l r ∷ []) ++ qs) os is) (meets d l || meets d r)
      (λ m _. ap₂ ◌++◌ (splits q l r os is m) (after_folding q l r qs os is (plan_within c d within (folding q l r) m))
      ∙ append_assoc (sub l os is) (sub r (drop (length (outside_parts c l)) os) (drop (length (path_siblings c l)) is)) _
      ∙ flattened l (r ∷ qs) os is
      ∙ gathered_under (flat d l) (r ∷ qs) (flat d r ++ qs) (flattened r qs) os is
      ∙ ap (λ z. gathered c sub z os is) (sym (append_assoc (flat d l) (flat d r) qs)))
      (λ _ _. refl) refl

-- the parts give vs, whatever follows them, and leave os' and is'
abbrev pub Gives : {D : Type 0} → (ℕ → Bool) → (Plan → List D → List D → List D) → List Plan → (os is vs os' is' : List D) → Type 0
Gives c sub ps os is vs os' is' = (qs : List Plan) → gathered c sub (ps ++ qs) os is ≡ vs ++ gathered c sub qs os' is'

module _ {D : Type 0} (c : ℕ → Bool) (sub : Plan → List D → List D → List D) where
  pub gives_both : (ps ps' : List Plan) (os is vs os' is' vs' os'' is'' : List D) → Gives c sub ps os is vs os' is'
      → Gives c sub ps' os' is' vs' os'' is'' → Gives c sub (ps ++ ps') os is (vs ++ vs') os'' is''
  gives_both ps ps' os is vs os' is' vs' os'' is'' u v = λ qs. ap (λ z. gathered c sub z os is) (append_assoc ps ps' qs) ∙ u (ps' ++ qs) ∙ ap (λ z. vs ++ z) (v qs) ∙ sym (append_assoc vs vs' _)

  pub gives_one : (p : Plan) (os is vs os' is' : List D) → sub p os is ≡ vs → drop (length (outside_parts c p)) os ≡ os'
      → drop (length (path_siblings c p)) is ≡ is' → Gives c sub (p ∷ []) os is vs os' is'
  gives_one p os is vs os' is' e f g = λ qs. ap₂ ◌++◌ e (ap₂ (gathered c sub qs) f g)

-- the state after met peaks
abbrev pub past : {D : Type 0} → (ℕ → Bool) → List Tree → List D → List D
past c [] is = is
past c (t ∷ ts) is = past c ts (drop (length (siblings c t)) is)

module _ {D : Type 0} (h : Hashing D) (c d : ℕ → Bool) (X : ℕ → D) (sub : Plan → List D → List D → List D) (g : D → List D)
    (apart : (p : Plan) (os is : List D) → meets d p ≡ false → sub p os is ≡ g (value h (claim h c X p os is))) where
  -- unmet peaks give the next digests
  pub gives_given : (ts : List Tree) (es os is : List D) → Unmet c ts → Unmet d ts → length es ≡ length ts → Gives c sub (map peak ts) (es ++ os) is (flat_map g es) os is
  gives_given [] [] os is u w l = λ qs. refl
  gives_given [] (e ∷ es) os is u w l = absurd (omega (arith, l))
  gives_given (t ∷ ts) [] os is u w l = absurd (omega (arith, l))
  gives_given (t ∷ ts) (e ∷ es) os is u w l =
      gives_both c sub (peak t ∷ []) (map peak ts) (e ∷ es ++ os) is (g e) (es ++ os) is (flat_map g es) os is
      (gives_one c sub (peak t) (e ∷ es ++ os) is (g e) (es ++ os) is (apart (peak t) (e ∷ es ++ os) is w.0 ∙ ap (λ z. g (value h z)) (claim_unmet h c X (peak t) (e ∷ es ++ os) is u.0))
      (ap (λ z. drop (length z) (e ∷ es ++ os)) (outside_parts_unmet c (peak t) u.0)) (ap (λ z. drop (length z) is) (inner_unmet c (peak t) u.0)))
      (gives_given ts es os is u.1 w.1 (omega (arith, l)))

  value_peak : (t : Tree) (os is : List D) → tree_meets c t ≡ true → value h (claim h c X (peak t) os is) ≡ value h (tree_claim h c X t is)
  value_peak t os is m = ap (λ z. value h (cond z (tree_claim h c X t is) (supplied (next h os)))) m

  outside_parts_met : (t : Tree) (os : List D) → tree_meets c t ≡ true → drop (length (outside_parts c (peak t))) os ≡ os
  outside_parts_met t os m = ap (λ z. drop (length (cond z [] (peak t ∷ []))) os) m

  inner_met : (t : Tree) (is : List D) → tree_meets c t ≡ true → drop (length (path_siblings c (peak t))) is ≡ drop (length (siblings c t)) is
  inner_met t is m = ap (λ z. drop (length (cond z (siblings c t) [])) is) m

  -- met peaks give their own
  pub gives_own : (ts : List Tree) (os is : List D) → Met c ts → Unmet d ts → Gives c sub (map peak ts) os is (flat_map g (peak_values h c X ts is)) os (past c ts is)
  gives_own [] os is m w = λ qs. refl
  gives_own (t ∷ ts) os is m w =
      let is' = drop (length (siblings c t)) is in
      gives_both c sub (peak t ∷ []) (map peak ts) os is (g (value h (tree_claim h c X t is))) os is' (flat_map g (peak_values h c X ts is')) os (past c ts is')
      (gives_one c sub (peak t) os is (g (value h (tree_claim h c X t is))) os is' (apart (peak t) os is w.0 ∙ ap g (value_peak t os is m.0)) (outside_parts_met t os m.0) (inner_met t is m.0))
      (gives_own ts os is' m.1 w.1)

  met_values : (ts : List Tree) (os is : List D) → Met c ts → part_values h c X (map peak ts) os is ≡ peak_values h c X ts is
  met_values [] os is m = refl
  met_values (t ∷ ts) os is m =
      ap₂ (λ x y. x ∷ y) (value_peak t os is m.0)
      (ap₂ (part_values h c X (map peak ts)) (outside_parts_met t os m.0) (inner_met t is m.0) ∙ met_values ts os (drop (length (siblings c t)) is) m.1)

  -- ---- the folded prefix
  outside_parts_fold : (acc : Plan) (i : ℕ) (ts : List Tree) → meets c acc ≡ true → Met c ts → outside_parts c (left_fold_plan acc i ts) ≡ outside_parts c acc
  outside_parts_fold acc i [] e m = refl
  outside_parts_fold acc i (t ∷ ts) e m =
      let w = or_left (meets c acc) (tree_meets c t) e in
      outside_parts_fold (folding (PrefixFold i) acc (peak t)) (suc i) ts w m.1
      ∙ ap (λ z. cond z (outside_parts c acc ++ outside_parts c (peak t)) (folding (PrefixFold i) acc (peak t) ∷ [])) w
      ∙ ap (λ z. outside_parts c acc ++ cond z [] (peak t ∷ [])) m.0 ∙ append-nil (outside_parts c acc)

  past_fold : (acc : Plan) (i : ℕ) (ts : List Tree) (is : List D) → meets c acc ≡ true → Met c ts
      → drop (length (path_siblings c (left_fold_plan acc i ts))) is ≡ past c ts (drop (length (path_siblings c acc)) is)
  past_fold acc i [] is e m = refl
  past_fold acc i (t ∷ ts) is e m =
      let w = or_left (meets c acc) (tree_meets c t) e in
      past_fold (folding (PrefixFold i) acc (peak t)) (suc i) ts is w m.1
      ∙ ap (past c ts) (ap (λ z. drop (length (cond z (path_siblings c acc ++ path_siblings c (peak t)) [])) is) w
      ∙ ap (λ n. drop n is) (length-append (path_siblings c acc) (path_siblings c (peak t)))
      ∙ sym (drop-drop (length (path_siblings c (peak t))) (length (path_siblings c acc)) is)
      ∙ inner_met t (drop (length (path_siblings c acc)) is) m.0)

  fold_given : (b : Tree) (bs : List Tree) (e : D) (os is : List D) → Unmet c (b ∷ bs) → Unmet d (b ∷ bs) → Gives c sub (left_fold_plan (peak b) 1 bs ∷ []) (e ∷ os) is (g e) os is
  fold_given b bs e os is u w =
      let low = left_fold_unmet c (peak b) 1 bs u.0 u.1 in
      gives_one c sub (left_fold_plan (peak b) 1 bs) (e ∷ os) is (g e) os is
      (apart (left_fold_plan (peak b) 1 bs) (e ∷ os) is (left_fold_unmet d (peak b) 1 bs w.0 w.1)
      ∙ ap (λ z. g (value h z)) (claim_unmet h c X (left_fold_plan (peak b) 1 bs) (e ∷ os) is low))
      (ap (λ z. drop (length z) (e ∷ os)) (outside_parts_unmet c (left_fold_plan (peak b) 1 bs) low)) (ap (λ z. drop (length z) is) (inner_unmet c (left_fold_plan (peak b) 1 bs) low))

  fold_own : (t : Tree) (ts : List Tree) (os is : List D) → Met c (t ∷ ts) → Unmet d (t ∷ ts)
      → Gives c sub (left_fold_plan (peak t) 1 ts ∷ []) os is (g (fold h.fold (value h (tree_claim h c X t is)) (peak_values h c X ts (drop (length (siblings c t)) is)))) os (past c (t ∷ ts) is)
  fold_own t ts os is m w =
      gives_one c sub (left_fold_plan (peak t) 1 ts) os is (g (fold h.fold (value h (tree_claim h c X t is)) (peak_values h c X ts (drop (length (siblings c t)) is)))) os (past c (t ∷ ts) is)
      (apart (left_fold_plan (peak t) 1 ts) os is (left_fold_unmet d (peak t) 1 ts w.0 w.1)
      ∙ ap g (value_left_fold h c X (peak t) 1 ts os is m.0
      ∙ ap₂ (fold h.fold) (value_peak t os is m.0)
      (ap₂ (part_values h c X (map peak ts)) (outside_parts_met t os m.0) (inner_met t is m.0) ∙ met_values ts os (drop (length (siblings c t)) is) m.1)))
      (ap (λ z. drop (length z) os) (outside_parts_fold (peak t) 1 ts m.0 m.1) ∙ outside_parts_met t os m.0)
      (past_fold (peak t) 1 ts is m.0 m.1 ∙ ap (past c ts) (inner_met t is m.0))

  fold_more : (b : Tree) (bs : List Tree) (t : Tree) (ts : List Tree) (e : D) (os is : List D) → Unmet c (b ∷ bs) → Met c (t ∷ ts) → Unmet d (b ∷ bs) → Unmet d (t ∷ ts)
      → Gives c sub (left_fold_plan (peak b) 1 (bs ++ t ∷ ts) ∷ []) (e ∷ os) is
      (g (fold h.fold (h.fold e (value h (tree_claim h c X t is))) (peak_values h c X ts (drop (length (siblings c t)) is)))) os (past c (t ∷ ts) is)
  fold_more b bs t ts e os is u m w x =
      let q = PrefixFold (1 + length bs) in
      let acc = left_fold_plan (peak b) 1 bs in
      let n = suc (1 + length bs) in
      let low : meets c acc ≡ false = left_fold_unmet c (peak b) 1 bs u.0 u.1 in
      let met : meets c acc || tree_meets c t ≡ true = or_right (meets c acc) (tree_meets c t) m.0 in
      let is' = drop (length (siblings c t)) is in
      let out : drop (length (outside_parts c acc)) (e ∷ os) ≡ os = ap (λ z. drop (length z) (e ∷ os)) (outside_parts_unmet c acc low) in
      let inn : drop (length (path_siblings c acc)) is ≡ is = ap (λ z. drop (length z) is) (inner_unmet c acc low) in
      let two : value h (claim h c X (folding q acc (peak t)) (e ∷ os) is) ≡ h.fold e (value h (tree_claim h c X t is)) =
      value_folding h c X q acc (peak t) (e ∷ os) is met
      ∙ ap₂ h.fold (ap (value h) (claim_unmet h c X acc (e ∷ os) is low)) (ap₂ (λ y z. value h (claim h c X (peak t) y z)) out inn ∙ value_peak t os is m.0) in
      let rest : part_values h c X (map peak ts) (drop (length (outside_parts c (folding q acc (peak t)))) (e ∷ os))
      (drop (length (path_siblings c (folding q acc (peak t)))) is) ≡ peak_values h c X ts is' =
      values_folding h c X q acc (peak t) (map peak ts) (e ∷ os) is met
      ∙ ap₂ (λ y z. part_values h c X (map peak ts) (drop (length (outside_parts c (peak t))) y) (drop (length (path_siblings c (peak t))) z)) out inn
      ∙ ap₂ (part_values h c X (map peak ts)) (outside_parts_met t os m.0) (inner_met t is m.0) ∙ met_values ts os is' m.1 in
      λ qs. ap (λ z. gathered c sub (z ∷ qs) (e ∷ os) is) (left_fold_append c (peak b) 1 bs (t ∷ ts))
      ∙ gives_one c sub (left_fold_plan (folding q acc (peak t)) n ts) (e ∷ os) is (g (fold h.fold (h.fold e (value h (tree_claim h c X t is))) (peak_values h c X ts is'))) os (past c ts is')
      (apart (left_fold_plan (folding q acc (peak t)) n ts) (e ∷ os) is (left_fold_unmet d (folding q acc (peak t)) n ts (ap₂ ◌||◌ (left_fold_unmet d (peak b) 1 bs w.0 w.1) x.0) x.1)
      ∙ ap g (value_left_fold h c X (folding q acc (peak t)) n ts (e ∷ os) is met ∙ ap₂ (fold h.fold) two rest))
      (ap (λ z. drop (length z) (e ∷ os)) (outside_parts_fold (folding q acc (peak t)) n ts met m.1
      ∙ ap (λ z. cond z (outside_parts c acc ++ outside_parts c (peak t)) (folding q acc (peak t) ∷ [])) met ∙ ap₂ ◌++◌ (outside_parts_unmet c acc low) (ap (λ z. cond z [] (peak t ∷ [])) m.0)))
      (past_fold (folding q acc (peak t)) n ts is met m.1
      ∙ ap (past c ts) (ap (λ z. drop (length (cond z (path_siblings c acc ++ path_siblings c (peak t)) [])) is) met
      ∙ ap₂ (λ y z. drop (length (y ++ z)) is) (inner_unmet c acc low) (ap (λ z. cond z (siblings c t) []) m.0)))
      qs

  -- the fold of unmet peaks, of which es has the digest, and of met ones after them
  pub gives_fold : (us ts : List Tree) (es os is : List D) → Unmet c us → Met c ts → Unmet d us → Unmet d ts → length es ≡ length (fold_all us)
      → Gives c sub (fold_all (us ++ ts)) (es ++ os) is (flat_map g (option_to_list (root.folded h.fold ForwardFold 0 (es ++ peak_values h c X ts is)))) os (past c ts is)
  gives_fold [] [] [] os is u m w x l = λ qs. refl
  gives_fold [] (t ∷ ts) [] os is u m w x l = λ qs. fold_own t ts os is m x qs ∙ ap (λ z. z ++ gathered c sub qs os (past c (t ∷ ts) is)) (sym (append-nil _))
  gives_fold [] ts (e ∷ es) os is u m w x l = absurd (omega (arith, l))
  gives_fold (b ∷ bs) ts [] os is u m w x l = absurd (omega (arith, l))
  gives_fold (b ∷ bs) ts (e ∷ f ∷ es) os is u m w x l = absurd (omega (arith, l))
  gives_fold (b ∷ bs) [] (e ∷ []) os is u m w x l = λ qs. ap (λ z. gathered c sub (left_fold_plan (peak b) 1 z ∷ qs) (e ∷ os) is) (append-nil bs)
      ∙ fold_given b bs e os is u w qs ∙ ap (λ z. z ++ gathered c sub qs os is) (sym (append-nil (g e)))
  gives_fold (b ∷ bs) (t ∷ ts) (e ∷ []) os is u m w x l = λ qs. fold_more b bs t ts e os is u m w x qs ∙ ap (λ z. z ++ gathered c sub qs os (past c (t ∷ ts) is)) (sym (append-nil _))

  -- ---- the suffix
  right_fold_parts : (j : ℕ) (ts : List Tree) → Unmet c ts → UnmetParts c (bag_all j ts)
  right_fold_parts j [] u = tt
  right_fold_parts j (t ∷ ts) u = (right_fold_unmet c j t ts u, tt)

  -- the bag of met peaks, and of unmet ones after them, of which es has the digest
  pub gives_right_fold : (j : ℕ) (ts us : List Tree) (es os is : List D) → Met c ts → Unmet c us → Unmet d (ts ++ us) → length es ≡ length (bag_all 0 us)
      → gathered c sub (bag_all j (ts ++ us)) (es ++ os) is ≡ flat_map g (option_to_list (root.right_fold h.fold (peak_values h c X ts is ++ es)))
  gives_right_fold j [] [] [] os is m u w l = refl
  gives_right_fold j [] [] (e ∷ es) os is m u w l = absurd (omega (arith, l))
  gives_right_fold j [] (v ∷ vs) [] os is m u w l = absurd (omega (arith, l))
  gives_right_fold j [] (v ∷ vs) (e ∷ f ∷ es) os is m u w l = absurd (omega (arith, l))
  gives_right_fold j [] (v ∷ vs) (e ∷ []) os is m u w l =
      ap (λ z. z ++ []) (apart (right_fold_plan j v vs) (e ∷ os) is (right_fold_unmet d j v vs w)
      ∙ ap (λ z. g (value h z)) (claim_unmet h c X (right_fold_plan j v vs) (e ∷ os) is (right_fold_unmet c j v vs u)))
  gives_right_fold j (t ∷ ts) us es os is m u w l =
      let qs = bag_all (suc j) us in
      let count : length (bag_all (suc j) us) ≡ length es = length-bag_all (suc j) us ∙ sym (length-bag_all 0 us) ∙ sym l in
      let enough : 0 + length (bag_all (suc j) us) ≤ length (es ++ os) = omega (arith, count, length-append es os) in
      let all : part_values h c X (map peak (t ∷ ts) ++ qs) (es ++ os) is ≡ peak_values h c X (t ∷ ts) is ++ es =
      values_are h c X [] (t ∷ ts) qs (es ++ os) is tt m (right_fold_parts (suc j) us u) enough
      ∙ ap (λ z. peak_values h c X (t ∷ ts) is ++ z) (ap (λ n. take n (es ++ os)) count ∙ take_at es os (length es) refl) in
      ap (λ z. z ++ []) (apart (right_fold_plan j t (ts ++ us)) (es ++ os) is (right_fold_unmet d j t (ts ++ us) w))
      ∙ ap (λ o. flat_map g (option_to_list o)) (sym (right_fold_values h c X j (suc j) t ts us (es ++ os) is (last_met c t ts m) u) ∙ ap (root.right_fold h.fold) all)
