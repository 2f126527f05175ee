-- The entries of an edited list.
use Rattle.std.proofs.Common.{◌≡◌, ℕ, zero, suc, ◌+◌, ◌-◌, ◌<◌, ◌≤◌, ◌⊎◌, List, [], ◌∷◌, ◌++◌, length, set, Option, Some, None, cond, slice_get, arith, refl, sym, ap, inl, inr, ◌∙◌, length-append}
use Rattle.std.specs.Prelude.{◌==◌}
use Rattle.std.specs.Option.{unwrap_or}
use Rattle.std.specs.FinMap.{get}
use Rattle.std.proofs.lemmas.Bool.{eqb-true, eqb-false, eq-eqb, ne_eqb, cases_lt, cases_order}
use Rattle.std.proofs.lemmas.Option.{slice_get_past}
use Rattle.merkle_base.specs.Forest.{size}
use Rattle.merkle_base.proofs.Lists.{get_push, get_exists}
use Rattle.merkle_base.proofs.Nodes.{size_le, size_lt, size_step}
use Rattle.merkle_base.proofs.Lookup.{get_append_add}
use Rattle.merkle_batch_theory.specs.Records.{RecordModel}
use Rattle.merkle_batch_theory.specs.Held.{overwritten_by}
use Rattle.merkle_batch_theory.specs.History.{replaced, leaves_among, edited}
use Rattle.merkle_batch_theory.proofs.Steps.{replaced_length}
use Rattle.merkle_base.proofs.Cases.{by_test}

pub get_left : {X : Type 0} (xs ys : List X) (i : ℕ) → i < length xs → slice_get (xs ++ ys) i ≡ slice_get xs i
get_left [] ys i h = absurd (omega arith)
get_left (x ∷ xs) ys zero h = refl
get_left (x ∷ xs) ys (suc i) h = get_left xs ys i (omega arith)

pub same_gets : {X : Type 0} (xs ys : List X) → ((i : ℕ) → slice_get xs i ≡ slice_get ys i) → xs ≡ ys
same_gets [] [] e = refl
same_gets [] (y ∷ ys) e = absurd (let d : None ≡ Some y = e 0 in cc)
same_gets (x ∷ xs) [] e = absurd (let d : Some x ≡ None = e 0 in cc)
same_gets (x ∷ xs) (y ∷ ys) e = (let d : Some x ≡ Some y = e 0 in let f : x ≡ y = cc in ap (λ z. z ∷ xs) f ∙ ap (λ zs. y ∷ zs) (same_gets xs ys (λ i. e (suc i))))

pub none_past : {X : Type 0} (xs : List X) (i : ℕ) → slice_get xs i ≡ None → length xs ≤ i
none_past [] i e = omega arith
none_past (x ∷ xs) zero e = absurd (cc)
none_past (x ∷ xs) (suc i) e = omega (arith, none_past xs i e)

pub get_set_same : {X : Type 0} (xs : List X) (i : ℕ) (x : X) → i < length xs → slice_get (set xs i x) i ≡ Some x
get_set_same [] i x h = absurd (omega arith)
get_set_same (y ∷ xs) zero x h = refl
get_set_same (y ∷ xs) (suc i) x h = get_set_same xs i x (omega arith)

pub get_set_other : {X : Type 0} (xs : List X) (i j : ℕ) (x : X) → (j ≡ i → ⊥) → slice_get (set xs i x) j ≡ slice_get xs j
get_set_other [] i j x n = refl
get_set_other (y ∷ xs) zero zero x n = absurd (n refl)
get_set_other (y ∷ xs) zero (suc j) x n = refl
get_set_other (y ∷ xs) (suc i) zero x n = refl
get_set_other (y ∷ xs) (suc i) (suc j) x n = get_set_other xs i j x (λ e. n (ap suc e))

module _ {D : Type 0} (rule : List ℕ → List ℕ) where
  pub replaced_get : (m : ℕ → Option D) (n : ℕ) (X : List D) (k : ℕ) → slice_get (replaced rule m n X) k ≡ overwritten_by (m (size rule (n + k))) (slice_get X k)
  replaced_get m n [] k = refl
  replaced_get m n (d ∷ ds) zero = let z : n + 0 ≡ n = omega arith in ap (λ i. Some (unwrap_or (m (size rule i)) d)) (sym z)
  replaced_get m n (d ∷ ds) (suc k) = let z : suc n + k ≡ n + suc k = omega arith in replaced_get m (suc n) ds k ∙ ap (λ i. overwritten_by (m (size rule i)) (slice_get ds k)) z

  leaf_here_or_later : (n p j : ℕ) (d : D) (ds : List D) → p ≡ size rule n → ((i : ℕ) → slice_get (leaves_among rule (suc n) (suc p) ds) i ≡ slice_get ds (size rule (suc n + i) - suc p)) →
      slice_get (d ∷ leaves_among rule (suc n) (suc p) ds) j ≡ slice_get (d ∷ ds) (size rule (n + j) - p)
  leaf_here_or_later n p zero d ds e f =
      let z : n + 0 ≡ n = omega arith in
      let y : size rule (n + 0) - p ≡ 0 = omega (arith, e, ap (size rule) z) in
      ap (slice_get (d ∷ ds)) (sym y)
  leaf_here_or_later n p (suc j) d ds e f =
      let z : n + suc j ≡ suc n + j = omega arith in
      let y : size rule (n + suc j) - p ≡ suc (size rule (suc n + j) - suc p) = omega (arith, e, ap (size rule) z, size_lt rule n (n + suc j) (omega arith)) in
      f j ∙ ap (slice_get (d ∷ ds)) (sym y)

  pub leaves_get : (n p : ℕ) (ds : List D) (j : ℕ) → p ≤ size rule n → slice_get (leaves_among rule n p ds) j ≡ slice_get ds (size rule (n + j) - p)
  leaves_get n p [] j l = refl
  leaves_get n p (d ∷ ds) j l =
      by_test (λ t. slice_get (cond t (d ∷ leaves_among rule (suc n) (suc p) ds) (leaves_among rule n (suc p) ds)) j
      ≡ slice_get (d ∷ ds) (size rule (n + j) - p)) (p == size rule n)
      (λ t. leaf_here_or_later n p j d ds (eqb-true p (size rule n) t) (λ i. leaves_get (suc n) (suc p) ds i (omega (arith, l, size_step rule n))))
      (λ t. (let b : suc p ≤ size rule n = less p (size rule n) l (eqb-false p (size rule n) t) in
      let y : size rule (n + j) - p ≡ suc (size rule (n + j) - suc p) = omega (arith, b, size_le rule n (n + j) (omega arith)) in
      leaves_get n (suc p) ds j b ∙ ap (slice_get (d ∷ ds)) (sym y)))
    where
      less : (a b : ℕ) → a ≤ b → (a ≡ b → ⊥) → suc a ≤ b
      less a b l n = grind (arith)

  -- an old entry
  pub old_entry : (r : RecordModel D) (X : List D) (k : ℕ) → k < length X → slice_get (edited rule r X) k ≡ overwritten_by (get r.overwritten (size rule k)) (slice_get X k)
  old_entry r X k l =
      let z : 0 + k ≡ k = omega arith in
      get_left (replaced rule (get r.overwritten) 0 X) (leaves_among rule (length X) r.before r.appended) k (omega (arith, l, replaced_length rule (get r.overwritten) 0 X))
      ∙ replaced_get (get r.overwritten) 0 X k ∙ ap (λ i. overwritten_by (get r.overwritten (size rule i)) (slice_get X k)) z

  -- a new entry
  pub new_entry : (r : RecordModel D) (X : List D) (k : ℕ) → r.before ≡ size rule (length X) → length X ≤ k → slice_get (edited rule r X) k ≡ slice_get r.appended (size rule k - r.before)
  new_entry r X k e l =
      let front : List D = replaced rule (get r.overwritten) 0 X in
      let y : length front + (k - length X) ≡ k = omega (arith, l, replaced_length rule (get r.overwritten) 0 X) in
      let z : length X + (k - length X) ≡ k = omega (arith, l) in
      ap (slice_get (edited rule r X)) (sym y) ∙ get_append_add front (leaves_among rule (length X) r.before r.appended) (k - length X)
      ∙ leaves_get (length X) r.before r.appended (k - length X) (omega (arith, e)) ∙ ap (λ i. slice_get r.appended (size rule i - r.before)) z

  -- records with the same leaves make the same edit
  pub edited_same : (r s : RecordModel D) (X : List D) → r.before ≡ size rule (length X) → s.before ≡ size rule (length X)
      → ((k : ℕ) → k < length X → get r.overwritten (size rule k) ≡ get s.overwritten (size rule k)) →
      ((k : ℕ) → length X ≤ k → slice_get r.appended (size rule k - r.before) ≡ slice_get s.appended (size rule k - s.before)) → edited rule r X ≡ edited rule s X
  edited_same r s X e f old new = same_gets (edited rule r X) (edited rule s X) (λ k. elim (cases_lt k (length X)) [
    | inl l ↦ old_entry r X k l ∙ ap (λ o. overwritten_by o (slice_get X k)) (old k l) ∙ sym (old_entry s X k l)
    | inr l ↦ new_entry r X k e l ∙ new k l ∙ sym (new_entry s X k f l)
  ])

  over_some : (o u : Option D) (d : D) → u ≡ Some d → (x : D) × (overwritten_by o u ≡ Some x)
  over_some o u d e = (unwrap_or o d, ap (overwritten_by o) e)

  -- how many entries there are
  pub edited_length : (r : RecordModel D) (X : List D) (m : ℕ) → r.before ≡ size rule (length X) → length X ≤ m → r.before + length r.appended ≡ size rule m → length (edited rule r X) ≡ m
  edited_length r X m e l f =
      let a : length (edited rule r X) ≤ m = none_past (edited rule r X) m (new_entry r X m e l ∙ slice_get_past r.appended (size rule m - r.before) (omega (arith, f))) in
      both (length (edited rule r X)) m a (λ b. some_none (edited rule r X) (elim (cases_lt (length (edited rule r X)) (length X)) [
        | inl s ↦ (let n = get_exists X (length (edited rule r X)) s in
            let v = over_some (get r.overwritten (size rule (length (edited rule r X)))) (slice_get X (length (edited rule r X))) n.0 n.1 in
            (v.0, old_entry r X (length (edited rule r X)) s ∙ v.1))
        | inr s ↦ (let n = get_exists r.appended (size rule (length (edited rule r X)) - r.before)
            (omega (arith, f, e, size_lt rule (length (edited rule r X)) m b, size_le rule (length X) (length (edited rule r X)) s)) in
            (n.0, new_entry r X (length (edited rule r X)) e s ∙ n.1))
      ]))
    where
      both : (a b : ℕ) → a ≤ b → (a < b → ⊥) → a ≡ b
      both a b l n = grind arith

      some_none : {X : Type 0} (xs : List X) → (x : X) × (slice_get xs (length xs) ≡ Some x) → ⊥
      some_none xs s = absurd (let n : slice_get xs (length xs) ≡ None = slice_get_past xs (length xs) (omega arith) in let d : None ≡ Some s.0 = sym n ∙ s.1 in cc)

  -- ---- the edits of a batch
  -- a leaf and its parents are appended
  pub added : (r s : RecordModel D) (X : List D) (m : ℕ) (d : D) (more : List D) → r.before ≡ size rule (length X) → length X ≤ m
      → r.before + length r.appended ≡ size rule m → size rule m + 1 + length more ≡ size rule (suc m) →
      s.before ≡ r.before → s.overwritten ≡ r.overwritten → s.appended ≡ r.appended ++ d ∷ more → edited rule s X ≡ edited rule r X ++ d ∷ []
  added r s X m d more e l f g sb so sa =
      let n : length (edited rule r X) ≡ m = edited_length r X m e l f in
      same_gets (edited rule s X) (edited rule r X ++ d ∷ []) (λ k. elim (cases_lt k (length X)) [
        | inl a ↦ old_entry s X k a ∙ ap (λ o. overwritten_by (get o (size rule k)) (slice_get X k)) so ∙ sym (old_entry r X k a) ∙ sym (get_left (edited rule r X) (d ∷ []) k (omega (arith, a, n, l)))
        | inr a ↦ new_entry s X k (sb ∙ e) a ∙ (λ i. slice_get (sa i) (size rule k - sb i)) ∙ elim (cases_lt k m) [
          | inl b ↦ get_left r.appended (d ∷ more) (size rule k - r.before) (omega (arith, f, e, size_lt rule k m b, size_le rule (length X) k a))
              ∙ sym (new_entry r X k e a) ∙ sym (get_left (edited rule r X) (d ∷ []) k (omega (arith, b, n)))
          | inr b ↦ elim (cases_lt m k) [
            | inl c ↦
                slice_get_past (r.appended ++ d ∷ more) (size rule k - r.before) (omega (arith, f, g, size_le rule (suc m) k c, length-append r.appended (d ∷ more)))
                ∙ sym (slice_get_past (edited rule r X ++ d ∷ []) k (omega (arith, c, n, length-append (edited rule r X) (d ∷ []))))
            | inr c ↦ (let q : k ≡ m = omega (arith, b, c) in
                let x : size rule k - r.before ≡ length r.appended = omega (arith, f, ap (size rule) q) in
                let y : k ≡ length (edited rule r X) = omega (arith, q, n) in
                ap (slice_get (r.appended ++ d ∷ more)) x ∙ get_push r.appended more d ∙ sym (ap (slice_get (edited rule r X ++ d ∷ [])) y ∙ get_push (edited rule r X) [] d))
          ]
        ]
      ])

  -- an old leaf is overwritten
  pub overwritten : (r s : RecordModel D) (X : List D) (k : ℕ) (d : D) → r.before ≡ size rule (length X) → k < length X → s.before ≡ r.before → s.appended ≡ r.appended →
      ((p : ℕ) → get s.overwritten p ≡ cond (p == size rule k) (Some d) (get r.overwritten p)) → edited rule s X ≡ set (edited rule r X) k d
  overwritten r s X k d e l sb sa so =
      let n : k < length (edited rule r X) =
      omega (
        arith,
        l,
        length-append (replaced rule (get r.overwritten) 0 X) (leaves_among rule (length X) r.before r.appended),
        replaced_length rule (get r.overwritten) 0 X,
      ) in
      same_gets (edited rule s X) (set (edited rule r X) k d) (λ i. elim (cases_lt i (length X)) [
        | inl a ↦ old_entry s X i a ∙ ap (λ o. overwritten_by o (slice_get X i)) (so (size rule i)) ∙ here r X k d i l a n
        | inr a ↦ new_entry s X i (sb ∙ e) a ∙ (λ x. slice_get (sa x) (size rule i - sb x)) ∙ sym (new_entry r X i e a)
            ∙ sym (get_set_other (edited rule r X) k i d (λ q. absurd (omega (arith, q, a, l))))
      ])
    where
      here : (r : RecordModel D) (X : List D) (k : ℕ) (d : D) (i : ℕ) → k < length X → i < length X → k < length (edited rule r X)
          → overwritten_by (cond (size rule i == size rule k) (Some d) (get r.overwritten (size rule i))) (slice_get X i) ≡ slice_get (set (edited rule r X) k d) i
      here r X k d i l a n = elim (cases_order i k) [
        | inl q ↦ (let v = get_exists X i a in
            ap (λ t. overwritten_by (cond t (Some d) (get r.overwritten (size rule i))) (slice_get X i))
            (eq-eqb (size rule i) (size rule k) (ap (size rule) q)) ∙ ap (overwritten_by (Some d)) v.1
            ∙ sym (ap (slice_get (set (edited rule r X) k d)) q ∙ get_set_same (edited rule r X) k d n))
        | inr q ↦
            ap (λ t. overwritten_by (cond t (Some d) (get r.overwritten (size rule i))) (slice_get X i)) (ne_eqb (size rule i) (size rule k) (apart i k q))
            ∙ sym (old_entry r X i a) ∙ sym (get_set_other (edited rule r X) k i d (λ f. absurd (elim q [ inl x ↦ omega (arith, x, f) | inr x ↦ omega (arith, x, f) ])))
      ]
        where
          apart : (i k : ℕ) → (i < k) ⊎ (k < i) → size rule i ≡ size rule k → ⊥
          apart i k q e = elim q [ inl x ↦ absurd (omega (arith, e, size_lt rule i k x)) | inr x ↦ absurd (omega (arith, e, size_lt rule k i x)) ]

  -- an appended leaf is replaced
  pub replaced_new : (r s : RecordModel D) (X : List D) (m k : ℕ) (d : D) → r.before ≡ size rule (length X) → length X ≤ k → k < m
      → r.before + length r.appended ≡ size rule m → s.before ≡ r.before → s.overwritten ≡ r.overwritten →
      s.appended ≡ set r.appended (size rule k - r.before) d → edited rule s X ≡ set (edited rule r X) k d
  replaced_new r s X m k d e l b f sb so sa =
      let n : length (edited rule r X) ≡ m = edited_length r X m e (omega (arith, l, b)) f in
      same_gets (edited rule s X) (set (edited rule r X) k d) (λ i. elim (cases_lt i (length X)) [
        | inl a ↦ old_entry s X i a ∙ ap (λ o. overwritten_by (get o (size rule i)) (slice_get X i)) so ∙ sym (old_entry r X i a)
            ∙ sym (get_set_other (edited rule r X) k i d (λ q. absurd (omega (arith, q, a, l))))
        | inr a ↦ new_entry s X i (sb ∙ e) a ∙ (λ x. slice_get (sa x) (size rule i - sb x)) ∙ elim (cases_order i k) [
          | inl q ↦
              ap (λ x. slice_get (set r.appended (size rule k - r.before) d) (size rule x - r.before)) q
              ∙ get_set_same r.appended (size rule k - r.before) d (omega (arith, f, e, size_lt rule k m b, size_le rule (length X) k l))
              ∙ sym (ap (slice_get (set (edited rule r X) k d)) q ∙ get_set_same (edited rule r X) k d (omega (arith, n, b)))
          | inr q ↦
              get_set_other r.appended (size rule k - r.before) (size rule i - r.before) d (apart i a q)
              ∙ sym (new_entry r X i e a) ∙ sym (get_set_other (edited rule r X) k i d (λ g. absurd (elim q [ inl x ↦ omega (arith, x, g) | inr x ↦ omega (arith, x, g) ])))
        ]
      ])
    where
      apart : (i : ℕ) → length X ≤ i → (i < k) ⊎ (k < i) → size rule i - r.before ≡ size rule k - r.before → ⊥
      apart i a q g = elim q [
        | inl x ↦ absurd (omega (arith, g, e, size_lt rule i k x, size_le rule (length X) i a))
        | inr x ↦
            absurd (omega (arith, g, e, size_lt rule k i x, size_le rule (length X) k l))
      ]
