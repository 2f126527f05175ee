-- The peaks outside a range that a proof gives one digest each.
use Rattle.std.proofs.Common.{◌≡◌, ℕ, zero, suc, ◌+◌, ◌-◌, ◌<◌, ◌≤◌, List, [], ◌∷◌, ◌++◌, length, map, take, drop, get_or, arith, refl, ap, sym, ◌∙◌, subst, add-one, drop-drop}
use Rattle.merkle_base.specs.Tree.{Tree, position}
use Rattle.merkle_base.specs.Hashing.{Hashing}
use Rattle.merkle_base.specs.declared.family.Bagging.{Bagging}
use Rattle.merkle_base.specs.declared.family.Bagging.TheVariants.{ForwardFold, BackwardFold}
use Rattle.merkle_root_theory.specs.Claim.{next}
use Rattle.merkle_root_theory.specs.Outside.{folded_prefix, single_before, single_after}
use Rattle.merkle_root_theory.specs.Extract.{single_pairs}

drop_length : (ts : List Tree) → drop (length ts) ts ≡ []
drop_length [] = refl
drop_length (t ∷ ts) = drop_length ts

drop_taken : (k : ℕ) (ts : List Tree) → drop (length (take k ts)) ts ≡ drop k ts
drop_taken zero ts = refl
drop_taken (suc k) [] = refl
drop_taken (suc k) (t ∷ ts) = drop_taken k ts

take_length : (ts : List Tree) → take (length ts) ts ≡ ts
take_length [] = refl
take_length (t ∷ ts) = ap (λ z. t ∷ z) (take_length ts)

take_taken : (k : ℕ) (ts : List Tree) → take (length (take k ts)) ts ≡ take k ts
take_taken zero ts = refl
take_taken (suc k) [] = refl
take_taken (suc k) (t ∷ ts) = ap (λ z. t ∷ z) (take_taken k ts)

-- those before the range follow the peaks that are folded
pub before_dropped : (bagging : Bagging) (k : ℕ) (ts : List Tree) → single_before bagging k ts ≡ drop (length (folded_prefix bagging k ts)) ts
before_dropped ForwardFold k ts = sym (drop_length ts)
before_dropped BackwardFold k ts = sym (drop_taken k ts)

-- and those are the first
pub prefix_taken : (bagging : Bagging) (k : ℕ) (ts : List Tree) → folded_prefix bagging k ts ≡ take (length (folded_prefix bagging k ts)) ts
prefix_taken ForwardFold k ts = sym (take_length ts)
prefix_taken BackwardFold k ts = sym (take_taken k ts)

-- those after it stand before the peaks that are folded
pub after_taken : (bagging : Bagging) (k met : ℕ) (ts : List Tree) → single_after bagging k met ts ≡ take (length (single_after bagging k met ts)) ts
after_taken ForwardFold k met ts = sym (take_length ts)
after_taken BackwardFold k met ts = sym (take_taken (k - met) ts)

-- and so they are at most as many
take_within : (n : ℕ) (ts : List Tree) → length (take n ts) ≤ length ts
take_within zero ts = omega arith
take_within (suc n) [] = omega arith
take_within (suc n) (t ∷ ts) = omega (arith, take_within n ts)

pub single_within : (bagging : Bagging) (k met : ℕ) (ts : List Tree) → length (single_after bagging k met ts) ≤ length ts
single_within bagging k met ts = omega (arith, ap length (after_taken bagging k met ts), take_within (length (single_after bagging k met ts)) ts)

-- their positions, among those of the peaks before the range and after it
front_positions : (xs ys : List Tree) → take (length xs) (map position (xs ++ ys)) ≡ map position xs
front_positions [] ys = refl
front_positions (x ∷ xs) ys = ap (λ z. position x ∷ z) (front_positions xs ys)

pub before_positions : (xs ys : List Tree) (p : ℕ) → take (length xs - p) (drop p (map position (xs ++ ys))) ≡ map position (drop p xs)
before_positions xs ys zero = let e : length xs - 0 ≡ length xs = omega arith in ap (λ n. take n (map position (xs ++ ys))) e ∙ front_positions xs ys
before_positions [] ys (suc p) = let e : 0 - suc p ≡ 0 = omega arith in ap (λ n. take n (drop (suc p) (map position ys))) e
before_positions (x ∷ xs) ys (suc p) = let e : suc (length xs) - suc p ≡ length xs - p = omega arith in ap (λ n. take n (drop p (map position (xs ++ ys)))) e ∙ before_positions xs ys p

taken_positions : (n : ℕ) (ys : List Tree) → take n (map position ys) ≡ map position (take n ys)
taken_positions zero ys = refl
taken_positions (suc n) [] = refl
taken_positions (suc n) (y ∷ ys) = ap (λ z. position y ∷ z) (taken_positions n ys)

pub after_positions : (xs ys : List Tree) (n : ℕ) → take n (drop (length xs) (map position (xs ++ ys))) ≡ map position (take n ys)
after_positions [] ys n = taken_positions n ys
after_positions (x ∷ xs) ys n = after_positions xs ys n

-- the position at a place of a list of positions
pub position_at : (ps : List ℕ) (ts : List Tree) → ps ≡ map position ts → (i : ℕ) → i < length ps → (d : ℕ) → (t : Tree)
    × (position t ≡ get_or ps i d) × (take (i + 1) ts ≡ take i ts ++ t ∷ []) × (length (take i ts) ≡ i) × (i < length ts)
position_at ps ts e i l d = subst
    (λ qs. i < length qs → (t : Tree) × (position t ≡ get_or qs i d) × (take (i + 1) ts ≡ take i ts ++ t ∷ []) × (length (take i ts) ≡ i)
    × (i < length ts)) (sym e) (step ts i) l
  where
    one : (t : Tree) (ts : List Tree) → take (0 + 1) (t ∷ ts) ≡ take 0 (t ∷ ts) ++ t ∷ []
    one t ts = refl

    step : (ts : List Tree) (i : ℕ) → i < length (map position ts) → (t : Tree) × (position t ≡ get_or (map position ts) i d)
        × (take (i + 1) ts ≡ take i ts ++ t ∷ []) × (length (take i ts) ≡ i) × (i < length ts)
    step [] i l = absurd (omega arith)
    step (t ∷ ts) zero l = (t, refl, one t ts, refl, omega arith)
    step (t ∷ ts) (suc i) l = let w = step ts i (omega arith) in
        (w.0, w.1, ap (λ n. take n (t ∷ ts)) (add-one (suc i)) ∙ ap (λ z. t ∷ z) (ap (λ n. take n ts) (sym (add-one i)) ∙ w.2), ap suc w.3, omega (arith, w.4))

module _ {D : Type 0} (h : Hashing D) where
  single_push : (ts : List Tree) (t : Tree) (ds : List D) → single_pairs h (ts ++ t ∷ []) ds ≡ single_pairs h ts ds ++ (position t, next h (drop (length ts) ds)) ∷ []
  single_push [] t ds = refl
  single_push (u ∷ ts) t ds = let e : 1 + length ts ≡ suc (length ts) = omega arith in
      ap (λ z. (position u, next h ds) ∷ z)
      (single_push ts t (drop 1 ds) ∙ ap (λ z. single_pairs h ts (drop 1 ds) ++ (position t, next h z) ∷ []) (drop-drop (length ts) 1 ds ∙ ap (λ n. drop n ds) e))

  module _ {C : Type 0} (Took : C → List (ℕ × D) → C → Type 0) (both : (s t u : C) (a b : List (ℕ × D)) → Took s a t → Took t b u → Took s (a ++ b) u) where
    -- one more of them is put
    pub put_single : (i : ℕ) (ts : List Tree) (t : Tree) (p : ℕ) (ds rest others : List D) (d : D) (s0 s1 s2 : C) → take (i + 1) ts ≡ take i ts
        ++ t ∷ [] → length (take i ts) ≡ i → position t ≡ p → rest ≡ drop i ds → rest ≡ d ∷ others
        → Took s0 (single_pairs h (take i ts) ds) s1 → Took s1 ((p, d) ∷ []) s2 → Took s0 (single_pairs h (take (i + 1) ts) ds) s2
    put_single i ts t p ds rest others d s0 s1 s2 u long at r first a b =
        let same : d ≡ next h (drop (length (take i ts)) ds) = ap (next h) (sym first ∙ r ∙ ap (λ n. drop n ds) (sym long)) in
        let one : Took s1 ((position t, next h (drop (length (take i ts)) ds)) ∷ []) s2 = subst (λ z. Took s1 ((position t, z) ∷ []) s2) same (subst (λ z. Took s1 ((z, d) ∷ []) s2) (sym at) b) in
        subst (λ z. Took s0 z s2) (sym (ap (λ z. single_pairs h z ds) u ∙ single_push (take i ts) t ds)) (both s0 s1 s2 _ _ a one)

pub drop_next : {D : Type 0} (i : ℕ) (ds rest others : List D) (d : D) → rest ≡ drop i ds → rest ≡ d ∷ others → others ≡ drop (i + 1) ds
drop_next i ds rest others d r first = ap (drop 1) (sym first ∙ r) ∙ drop-drop 1 i ds

pub all_taken : (i : ℕ) (ts : List Tree) → length ts ≤ i → take i ts ≡ ts
all_taken zero [] l = refl
all_taken zero (t ∷ ts) l = absurd (omega (arith, l))
all_taken (suc i) [] l = refl
all_taken (suc i) (t ∷ ts) l = ap (λ z. t ∷ z) (all_taken i ts (omega (arith, l)))
