-- A number has one spelling, no spelling begins another, and where bytes are refused they begin with none.
use Rattle.std.proofs.Common.{◌≡◌, ℕ, zero, suc, ◌+◌, ◌-◌, ◌*◌, ◌/◌, ◌%◌, ◌^◌, ◌<◌, ◌≤◌, List, [], ◌∷◌, ◌++◌, arith, ap, sym, ◌∙◌, refl, subst, inl, inr, ⊎_elim}
use Rattle.std.proofs.Math.Nat.{eq-or-lt_of_le}
use Rattle.std.proofs.lemmas.Grind.{common_steps}
use Rattle.std.proofs.lemmas.Bool.Decides.{leb_tells}
use Rattle.std.proofs.lemmas.Nat.{pow-add}
use Rattle.merkle_base.specs.declared.error.DecodeError.{DecodeError}
use Rattle.merkle_base.specs.Heights.{IsLawful}
use Rattle.merkle_base.proofs.Limits.{lawful_leaves}
use Rattle.merkle_codec.specs.NumberSpelling.{number_groups, number_spelling, IsGroupRefusal, IsNumberRefusal, BeginsWithNumber, IsRefusalUpTo, IsRefusalFrom}

-- a number of one group
pub number_groups-last : (more n : ℕ) → n < 128 → number_groups more n ≡ n ∷ []
number_groups-last zero n below = refl
number_groups-last (suc more) n below = grind (arith, common_steps, below)

-- a number of more groups
pub number_groups-more : (more n : ℕ) → 128 ≤ n → number_groups (suc more) n ≡ (128 + n % 128) ∷ number_groups more (n / 128)
number_groups-more more n above = grind (arith, common_steps, above)

-- lists that begin alike
heads : (a b : ℕ) (r s : List ℕ) → a ∷ r ≡ b ∷ s → (a ≡ b) × (r ≡ s)
heads a b r s e = (cc, cc)

-- no spelling of groups begins another: of one group each, of one and of more, of more each
last : (more m n : ℕ) (r s : List ℕ) → m < 128 → n < 128 → number_groups (suc more) m ++ r ≡ number_groups (suc more) n ++ s → (m ≡ n) × (r ≡ s)
last more m n r s a b e =
    heads m n r s (ap (λ l. l ++ r) (sym (number_groups-last (suc more) m a)) ∙ e ∙ ap (λ l. l ++ s) (number_groups-last (suc more) n b))

mixed : (more m n : ℕ) (r s : List ℕ) → m < 128 → 128 ≤ n → ¬ number_groups (suc more) m ++ r ≡ number_groups (suc more) n ++ s
mixed more m n r s low over e =
    let h = heads m (128 + n % 128) r (number_groups more (n / 128) ++ s)
    (ap (λ l. l ++ r) (sym (number_groups-last (suc more) m low)) ∙ e ∙ ap (λ l. l ++ s) (number_groups-more more n over)) in
    omega (arith, h.0, low)

both : (more m n : ℕ) (r s : List ℕ) → 128 ≤ m → 128 ≤ n → number_groups (suc more) m ++ r ≡ number_groups (suc more) n ++ s
    → (number_groups more (m / 128) ++ r ≡ number_groups more (n / 128) ++ s → (m / 128 ≡ n / 128) × (r ≡ s)) → (m ≡ n) × (r ≡ s)
both more m n r s a b e once =
    let h = heads (128 + m % 128) (128 + n % 128) (number_groups more (m / 128) ++ r) (number_groups more (n / 128) ++ s)
    (ap (λ l. l ++ r) (sym (number_groups-more more m a)) ∙ e ∙ ap (λ l. l ++ s) (number_groups-more more n b)) in
    let t = once h.1 in
    (omega (arith, h.0, t.0), t.1)

-- no spelling of groups begins another
pub number_groups_once : (more m n : ℕ) (r s : List ℕ) → number_groups more m ++ r ≡ number_groups more n ++ s → (m ≡ n) × (r ≡ s)
number_groups_once zero m n r s e = heads m n r s e
number_groups_once (suc more) m n r s e = elim (leb_tells 128 m) [
  | inl above ↦ elim (leb_tells 128 n) [
    | inl over ↦ both more m n r s above.1 over.1 e (number_groups_once more (m / 128) (n / 128) r s)
    | inr low ↦ absurd (mixed more n m s r low.1 above.1 (sym e))
  ]
  | inr below ↦ elim (leb_tells 128 n) [ inl over ↦ absurd (mixed more m n r s below.1 over.1 e) | inr low ↦ last more m n r s below.1 low.1 e ]
]

-- a number has one spelling, and no spelling begins another
pub number_spelling_once : (m n : ℕ) (r s : List ℕ) → number_spelling m ++ r ≡ number_spelling n ++ s → (m ≡ n) × (r ≡ s)
unfolding number_spelling
number_spelling_once m n r s e = number_groups_once 9 m n r s e

-- bytes that begin with a number of one group, and of more
begins_last : (before n : ℕ) (b rest : List ℕ) → n < 128 → b ≡ number_groups (9 - before) n ++ rest → b ≡ n ∷ rest
begins_last before n b rest low k = k ∙ ap (λ l. l ++ rest) (number_groups-last (9 - before) n low)

begins_more : (before n : ℕ) (b rest : List ℕ) → before ≤ 9 → n < 2 ^ (64 - 7 * before) → 128 ≤ n → b ≡ number_groups (9 - before) n ++ rest
    → (before < 9) × (n / 128 < 2 ^ (64 - 7 * suc before)) × (b ≡ (128 + n % 128) ∷ (number_groups (9 - suc before) (n / 128) ++ rest))
begins_more before n b rest few fits over k =
    let full : before ≡ 9 → before < 9 = λ h.
    absurd (let small : n < 2 ^ (64 - 7 * 9) = subst (λ j. n < 2 ^ (64 - 7 * j)) h fits in omega (arith, small, over)) in
    let below : before < 9 = ⊎_elim full (λ h. h) (eq-or-lt_of_le few) in
    let next : 9 - before ≡ suc (9 - suc before) = omega (arith, below) in
    let power : 2 ^ (64 - 7 * before) ≡ 128 * 2 ^ (64 - 7 * suc before) =
    ap (λ j. 2 ^ j) (let g : 64 - 7 * before ≡ 7 + (64 - 7 * suc before) = omega (arith, below) in g) ∙ pow-add 2 7 (64 - 7 * suc before) in
    let fits' : n < 128 * 2 ^ (64 - 7 * suc before) = subst (λ j. n < j) power fits in
    (below, omega (arith, fits'), k ∙ ap (λ j. number_groups j n ++ rest) next ∙ ap (λ l. l ++ rest) (number_groups-more (9 - suc before) n over))

-- bytes that are refused as groups begin with none
not_last : (before group : ℕ) (more : List ℕ) (e : DecodeError) → IsGroupRefusal before (group ∷ more) e
    → (n : ℕ) (rest : List ℕ) → n < 2 ^ (64 - 7 * before) → (1 ≤ before → 1 ≤ n) → n < 128 → ¬ group ∷ more ≡ n ∷ rest
not_last before group more e (inl h) n rest fits some low k =
    let small : n < 2 ^ (64 - 7 * 9) = subst (λ j. n < 2 ^ (64 - 7 * j)) h.0 fits in
    h.1 ((heads group n more rest k).0 ∙ omega (arith, small, some, h.0))
not_last before group more e (inr (inl h)) n rest fits some low k = omega (arith, h.0, h.1, (heads group n more rest k).0, some h.0)
not_last before group more e (inr (inr h)) n rest fits some low k = omega (arith, h.1, (heads group n more rest k).0, low)

pub IsGroupRefusal_spells_none : (before : ℕ) (b : List ℕ) (e : DecodeError) → IsGroupRefusal before b e → before ≤ 9
    → (n : ℕ) (rest : List ℕ) → n < 2 ^ (64 - 7 * before) → (1 ≤ before → 1 ≤ n) → ¬ b ≡ number_groups (9 - before) n ++ rest
IsGroupRefusal_spells_none before [] e h few n rest fits some k = elim (leb_tells 128 n) [
  | inl over ↦ (let t = (begins_more before n [] rest few fits over.1 k).2 in cc)
  | inr low ↦ (let t = begins_last before n [] rest low.1 k in cc)
]
IsGroupRefusal_spells_none before (group ∷ more) e h few n rest fits some k = elim (leb_tells 128 n) [
  | inl over ↦ (let t = begins_more before n (group ∷ more) rest few fits over.1 k in
      let p = heads group (128 + n % 128) more (number_groups (9 - suc before) (n / 128) ++ rest) t.2 in
      elim h [
        | inl g ↦ omega (arith, g.0, t.0)
        | inr g ↦ elim g [
          | inl z ↦ omega (arith, z.1, p.0)
          | inr m ↦ IsGroupRefusal_spells_none (suc before) more e m.2 (omega (arith, t.0)) (n / 128) rest t.1 (λ _. omega (arith, over.1)) p.1
        ]
      ])
  | inr low ↦ not_last before group more e h n rest fits some low.1 (begins_last before n (group ∷ more) rest low.1 k)
]

-- groups are refused with one error
pub IsGroupRefusal_once : (before : ℕ) (b : List ℕ) (e f : DecodeError) → IsGroupRefusal before b e → IsGroupRefusal before b f → e ≡ f
IsGroupRefusal_once before [] e f h k = h ∙ sym k
IsGroupRefusal_once before (group ∷ rest) e f (inl h) (inl k) = h.2 ∙ sym k.2
IsGroupRefusal_once before (group ∷ rest) e f (inl h) (inr (inl k)) = h.2 ∙ sym k.2
IsGroupRefusal_once before (group ∷ rest) e f (inl h) (inr (inr k)) = absurd (omega (arith, h.0, k.0))
IsGroupRefusal_once before (group ∷ rest) e f (inr (inl h)) (inl k) = h.2 ∙ sym k.2
IsGroupRefusal_once before (group ∷ rest) e f (inr (inl h)) (inr (inl k)) = h.2 ∙ sym k.2
IsGroupRefusal_once before (group ∷ rest) e f (inr (inl h)) (inr (inr k)) = absurd (omega (arith, h.1, k.1))
IsGroupRefusal_once before (group ∷ rest) e f (inr (inr h)) (inl k) = absurd (omega (arith, h.0, k.0))
IsGroupRefusal_once before (group ∷ rest) e f (inr (inr h)) (inr (inl k)) = absurd (omega (arith, h.1, k.1))
IsGroupRefusal_once before (group ∷ rest) e f (inr (inr h)) (inr (inr k)) = IsGroupRefusal_once (suc before) rest e f h.2 k.2

-- bytes that are refused as a number begin with none below 2 ^ 64
pub IsNumberRefusal_spells_none : (b : List ℕ) (e : DecodeError) → IsNumberRefusal b e → (n : ℕ) (rest : List ℕ) → n < 2 ^ 64 → ¬ b ≡ number_spelling n ++ rest
unfolding number_spelling IsNumberRefusal
IsNumberRefusal_spells_none b e h n rest fits k = IsGroupRefusal_spells_none 0 b e h (omega arith) n rest fits (λ z. absurd (omega (arith, z))) k

-- bytes are refused as a number with one error, which is not `OutOfMemory`
pub IsNumberRefusal_once : (b : List ℕ) (e f : DecodeError) → IsNumberRefusal b e → IsNumberRefusal b f → e ≡ f
unfolding IsNumberRefusal
IsNumberRefusal_once b e f h k = IsGroupRefusal_once 0 b e f h k

-- the number that bytes begin with is one, and what is after it
pub BeginsWithNumber_once : (P Q : ℕ → List ℕ → Type 0) (b : List ℕ)
    → BeginsWithNumber P b → BeginsWithNumber Q b → BeginsWithNumber (λ n rest. P n rest × Q n rest) b
BeginsWithNumber_once P Q b (m, r, fits, s, p) (n, t, _, u, q) =
    let same = number_spelling_once m n r t (sym s ∙ u) in
    (m, r, fits, s, (p, subst (λ k. Q k r) (sym same.0) (subst (λ l. Q n l) (sym same.1) q)))

-- bytes that begin with a number aren't refused as none
pub BeginsWithNumber_not_refused : (P : ℕ → List ℕ → Type 0) (b : List ℕ) (e : DecodeError) → BeginsWithNumber P b → ¬ IsNumberRefusal b e
BeginsWithNumber_not_refused P b e (n, rest, fits, s, _) h = IsNumberRefusal_spells_none b e h n rest fits s

-- bytes that are refused as a number up to a greatest one begin with none
pub IsRefusalUpTo_spells_none : (greatest : ℕ) (above : DecodeError) (b : List ℕ) (e : DecodeError) → IsRefusalUpTo greatest above b e → greatest < 2 ^ 64
    → (n : ℕ) (rest : List ℕ) → n ≤ greatest → ¬ b ≡ number_spelling n ++ rest
IsRefusalUpTo_spells_none greatest above b e (inl h) small n rest within k = IsNumberRefusal_spells_none b e h n rest (omega (arith, small, within)) k
IsRefusalUpTo_spells_none greatest above b e (inr ((m, r, _, s, over), _)) small n rest within k =
    omega (arith, over, within, (number_spelling_once m n r rest (sym s ∙ k)).0)

-- bytes are refused as such a number with one error
pub IsRefusalUpTo_once : (greatest : ℕ) (above : DecodeError) (b : List ℕ) (e f : DecodeError)
    → IsRefusalUpTo greatest above b e → IsRefusalUpTo greatest above b f → e ≡ f
IsRefusalUpTo_once greatest above b e f (inl h) (inl k) = IsNumberRefusal_once b e f h k
IsRefusalUpTo_once greatest above b e f (inl h) (inr k) = absurd (BeginsWithNumber_not_refused (λ n _. greatest < n) b e k.0 h)
IsRefusalUpTo_once greatest above b e f (inr h) (inl k) = absurd (BeginsWithNumber_not_refused (λ n _. greatest < n) b f h.0 k)
IsRefusalUpTo_once greatest above b e f (inr h) (inr k) = h.1 ∙ sym k.1

-- the greatest node count and the greatest leaf count of a family fit 64 bits
pub lawful_nodes : (rule : List ℕ → List ℕ) (max_leaves max_nodes : ℕ) → IsLawful rule max_leaves max_nodes → max_nodes < 2 ^ 64
lawful_nodes rule max_leaves max_nodes law = omega (arith, law.limit_fits)

pub lawful_locations : (rule : List ℕ → List ℕ) (max_leaves max_nodes : ℕ) → IsLawful rule max_leaves max_nodes → max_leaves < 2 ^ 64
lawful_locations rule max_leaves max_nodes law = omega (arith, lawful_leaves rule max_leaves max_nodes law)

-- bytes that begin with a number up to the greatest aren't refused at it
not_at_number : (greatest : ℕ) (above : DecodeError) (P : ℕ → List ℕ → Type 0) (b : List ℕ) (e : DecodeError)
    → IsRefusalUpTo greatest above b e → ¬ BeginsWithNumber (λ n rest. (n ≤ greatest) × P n rest) b
not_at_number greatest above P b e (inl h) k = BeginsWithNumber_not_refused (λ n rest. (n ≤ greatest) × P n rest) b e k h
not_at_number greatest above P b e (inr h) k =
    let (n, rest, fits, s, both) = BeginsWithNumber_once (λ n _. greatest < n) (λ n rest. (n ≤ greatest) × P n rest) b h.0 k in
    omega (arith, both.0, both.1.0)

-- where bytes begin with a number up to the greatest and are refused, they are refused after it
pub IsRefusalFrom_after : (greatest : ℕ) (above : DecodeError) (after : ℕ → List ℕ → DecodeError → Type 0) (b : List ℕ) (e : DecodeError)
    → IsRefusalFrom greatest above after b e → greatest < 2 ^ 64 → (n : ℕ) (rest : List ℕ) → n ≤ greatest → b ≡ number_spelling n ++ rest → after n rest e
IsRefusalFrom_after greatest above after b e (inl h) small n rest within k = absurd (IsRefusalUpTo_spells_none greatest above b e h small n rest within k)
IsRefusalFrom_after greatest above after b e (inr (m, r, _, s, p)) small n rest within k =
    let same = number_spelling_once m n r rest (sym s ∙ k) in
    subst (λ j. after j rest e) same.0 (subst (λ l. after m l e) same.1 p.1)

-- bytes are refused with one error, at the number or after it
pub IsRefusalFrom_once : (greatest : ℕ) (above : DecodeError) (after : ℕ → List ℕ → DecodeError → Type 0) (b : List ℕ) (e f : DecodeError)
    → ((n : ℕ) (rest : List ℕ) → after n rest e → after n rest f → e ≡ f)
    → IsRefusalFrom greatest above after b e → IsRefusalFrom greatest above after b f → e ≡ f
IsRefusalFrom_once greatest above after b e f once (inl h) (inl k) = IsRefusalUpTo_once greatest above b e f h k
IsRefusalFrom_once greatest above after b e f once (inl h) (inr k) = absurd (not_at_number greatest above (λ n rest. after n rest f) b e h k)
IsRefusalFrom_once greatest above after b e f once (inr h) (inl k) = absurd (not_at_number greatest above (λ n rest. after n rest e) b f k h)
IsRefusalFrom_once greatest above after b e f once (inr h) (inr k) =
    let (n, rest, _, _, both) = BeginsWithNumber_once (λ n rest. (n ≤ greatest) × after n rest e) (λ n rest. (n ≤ greatest) × after n rest f) b h k in
    once n rest both.0.1 both.1.1
