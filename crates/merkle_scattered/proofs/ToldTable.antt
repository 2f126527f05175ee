-- Digests listed by rising positions, as a search finds them.
use Rattle.std.proofs.Common.{◌≡◌, ℕ, zero, suc, cond, ◌+◌, ◌<◌, ◌≤◌, List, [], ◌∷◌, length, get_or, slice_get, Option, None, Some, inl, inr, refl, ap, sym, ◌∙◌, arith}
use Rattle.std.specs.Borrow.{Bor}
use Rattle.std.specs.List.Sorted.{IsStrictlyIncreasing}
use Rattle.std.specs.Option.{option_copied}
use Rattle.std.specs.Slice.{IsItemAt}
use Rattle.std.proofs.lemmas.Option.{slice_get_past, slice_get_read}
use Rattle.std.proofs.lemmas.Bool.{eq-eqb, ne_eqb, cases_lt}
use Rattle.std.proofs.lemmas.List.Kept.{AllPairs-from_increasing}
use Rattle.merkle_base.specs.Table.{digest_for}
use Rattle.merkle_scattered.specs.Searched.{IsFirstFrom}
use Rattle.merkle_scattered.proofs.Rises.{Rises, rises_tail}

-- what a look-up by index reads
pub get_reads : {X : Type 0} (xs : List X) (i : ℕ) (r : Option (Bor X)) → IsItemAt xs i r → option_copied r ≡ slice_get xs i
get_reads xs i None h = sym (slice_get_past xs i h.3)
get_reads xs i (Some x) h = sym (slice_get_read xs (length xs) i x.now refl h.3.0 h.1)

-- what stands at an index, whatever stood for a missing element
pub item_zero : (xs : List ℕ) (i x : ℕ) → i < length xs → x ≡ get_or xs i x → x ≡ get_or xs i 0
item_zero xs i x l e = e ∙ same xs i l
  where
    same : (xs : List ℕ) (i : ℕ) → i < length xs → get_or xs i x ≡ get_or xs i 0
    same [] i l = absurd (omega (arith, l))
    same (y ∷ xs) zero l = refl
    same (y ∷ xs) (suc i) l = same xs i (omega (arith, l))

pub item_read : (xs : List ℕ) (i : ℕ) (x : Bor ℕ) → IsItemAt xs i (Some x) → (i < length xs) × (x.now ≡ get_or xs i 0)
item_read xs i x h = (h.3.0, item_zero xs i x.now h.3.0 h.1)

pub item_past : (xs : List ℕ) (i : ℕ) → IsItemAt xs i None → length xs ≤ i
item_past xs i h = h.3

pub rises_weakly : (ps : List ℕ) → IsStrictlyIncreasing ps → (i j : ℕ) → i ≤ j → j < length ps → get_or ps i 0 ≤ get_or ps j 0
rises_weakly ps h i j l within = elim (cases_lt i j) [
  | inl x ↦ omega (arith, AllPairs-from_increasing ps h i j 0 x within)
  | inr x ↦ (let same : i ≡ j = omega (arith, x, l) in omega (arith, ap (λ (k : ℕ). get_or ps k 0) same))
]

found : {D : Type 0} (ps : List ℕ) (ds : List D) (i p : ℕ) → Rises ps → i < length ps → get_or ps i 0 ≡ p → slice_get ds i ≡ digest_for ps ds p
found [] ds i p r l e = absurd (omega (arith, l))
found (q ∷ ps) [] i p r l e = refl
found (q ∷ ps) (d ∷ ds) zero p r l e = ap (λ z. cond z (Some d) (digest_for ps ds p)) (sym (eq-eqb q p e))
found (q ∷ ps) (d ∷ ds) (suc i) p r l e =
    let below : q < get_or ps i 0 = r 0 (suc i) 0 (omega arith) l in
    found ps ds i p (rises_tail q ps r) (omega (arith, l)) e ∙ sym (ap (λ z. cond z (Some d) (digest_for ps ds p)) (ne_eqb q p (λ f. absurd (omega (arith, f, e, below)))))

-- what stands at the index of a position is its digest
pub table_found : {D : Type 0} (ps : List ℕ) (ds : List D) (i p : ℕ) → IsStrictlyIncreasing ps → i < length ps → get_or ps i 0 ≡ p → slice_get ds i ≡ digest_for ps ds p
table_found ps ds i p h l e = found ps ds i p (AllPairs-from_increasing ps h) l e

absent : {D : Type 0} (ps : List ℕ) (ds : List D) (p : ℕ) → ((k : ℕ) → k < length ps → get_or ps k 0 ≡ p → ⊥) → digest_for ps ds p ≡ None
absent [] ds p f = refl
absent (q ∷ ps) [] p f = refl
absent (q ∷ ps) (d ∷ ds) p f =
    ap (λ z. cond z (Some d) (digest_for ps ds p)) (ne_eqb q p (f 0 (omega arith))) ∙ absent ps ds p (λ k l. f (suc k) (omega (arith, l)))

-- where a search finds a gap no digest stands
pub table_none : {D : Type 0} (ps : List ℕ) (ds : List D) (i p : ℕ) → ((k : ℕ) → k < i → get_or ps k 0 < p) → ((k : ℕ) → i ≤ k → k < length ps → p < get_or ps k 0) → digest_for ps ds p ≡ None
table_none ps ds i p below above = absent ps ds p (λ k l e. elim (cases_lt k i) [
  | inl x ↦ absurd (omega (arith, e, below k x))
  | inr x ↦ absurd (omega (arith, e, above k x l))
])

-- where one position is before another, so are all that stand before it
pub before_last : (ps : List ℕ) → IsStrictlyIncreasing ps → (i p : ℕ) → i < length ps → get_or ps i 0 < p → (k : ℕ) → k < i + 1 → get_or ps k 0 < p
before_last ps h i p l e k less = omega (arith, rises_weakly ps h k i (omega (arith, less)) l, e)

pub first_at : (ps : List ℕ) → IsStrictlyIncreasing ps → (i p : ℕ) → i < length ps → ((k : ℕ) → k < i → get_or ps k 0 < p) → p ≤ get_or ps i 0 → IsFirstFrom ps p i
first_at ps h i p l below e = (below, λ k after within. omega (arith, rises_weakly ps h i k after within, e))

-- a search finds the first index, whether or not the position is there
pub first_found : (ps : List ℕ) → IsStrictlyIncreasing ps → (i p : ℕ) → i < length ps → get_or ps i 0 ≡ p → IsFirstFrom ps p i
first_found ps h i p l e = first_at ps h i p l (λ k less. omega (arith, AllPairs-from_increasing ps h k i 0 less l, e)) (omega (arith, e))

pub first_gap : (ps : List ℕ) (i p : ℕ) → ((k : ℕ) → k < i → get_or ps k 0 < p) → ((k : ℕ) → i ≤ k → k < length ps → p < get_or ps k 0) → IsFirstFrom ps p i
first_gap ps i p below above = (below, λ k after within. omega (arith, above k after within))

-- a position that does not stand at its first index stands nowhere
pub none_first : {D : Type 0} (ps : List ℕ) (ds : List D) → IsStrictlyIncreasing ps → (i p : ℕ) → IsFirstFrom ps p i → (i < length ps → get_or ps i 0 ≡ p → ⊥) → digest_for ps ds p ≡ None
none_first ps ds h i p first other = absent ps ds p (λ k l e. elim (cases_lt k i) [
  | inl x ↦ absurd (omega (arith, e, first.0 k x))
  | inr x ↦ (
      let within : i < length ps = omega (arith, x, l) in
      let low : p ≤ get_or ps i 0 = first.1 i (omega arith) within in
      other within (omega (arith, low, rises_weakly ps h i k x l, e))
      )
])
