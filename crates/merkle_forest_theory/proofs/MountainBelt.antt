-- The formulas of the Mountain Belt.
use Rattle.std.proofs.Common.{◌≡◌, ℕ, zero, suc, ◌+◌, ◌*◌, ◌^◌, ◌-◌, ◌/◌, ◌<◌, ◌≤◌, ◌⊎◌, Bool, true, false, List, [], ◌∷◌, ◌++◌, length, map, take}
use Rattle.std.proofs.Common.{length-append, Some, slice_get, slice_index, arith, refl, ap, inl, inr, ◌∙◌, subst, pow-suc, pow_pos}
use Rattle.std.specs.Int.{bit_at}
use Rattle.std.proofs.lemmas.Nat.Bits.{bit_at-suc, bit_at_lowest, bit_at-lt}
use Rattle.std.proofs.lemmas.Bool.{cases_lt}
use Rattle.merkle_base.specs.Tree.{Tree, leaf, join, position, height, first_leaf, IsBalanced}
use Rattle.merkle_base.specs.Forest.{Forest, append_leaf, forest, size}
use Rattle.merkle_base.specs.Heights.{EqualAt, raised, AreEqualMerges, born_heights, peak_heights, parent_heights, MergesEqual, weight}
use Rattle.merkle_forest_theory.specs.Mmb.{mmb_merges, mmb_merges_from, birth_leaf, mmb_position}
use Rattle.merkle_forest_theory.specs.BeltDigits.{digits_after, number_of_digits, spread}
use Rattle.merkle_forest_theory.specs.Digits.{EndsInOnes}
use Rattle.merkle_forest_theory.proofs.BeltLawful.{pair_equal, eqb_same, eqb_suc, mmb_heights, number_of_digits-digits_after, number_of_digits_low, length-spread}
use Rattle.merkle_base.proofs.Growth.{forest_grown, grown-append_leaf, built_at}
use Rattle.merkle_base.proofs.Merges.{merge_all, parent_of_peaks, merge_at-parts}
use Rattle.merkle_base.proofs.Lists.{get_push_cases, get_below}
use Rattle.merkle_base.proofs.Balance.{heights_forest, peaks_balanced, node_balanced, balanced_count}
use Rattle.merkle_base.proofs.Births.{joined_born}
use Rattle.merkle_base.proofs.Nodes.{no_node, node_built, size_le}
use Rattle.merkle_forest_theory.proofs.OddMultiples.{odd_no_power}

-- ---- the peaks' heights
-- peak i from the newest has height i, and one more where bit i of n + 1 is set
pub spread_bit : (k i : ℕ) (bs : List Bool) → i < length bs → slice_index (spread k bs) i ≡ k + i + bit_at (number_of_digits bs) i
spread_bit k i [] l = absurd (omega arith)
spread_bit k zero (true ∷ bs) l = omega (arith, bit_at_lowest (1 + 2 * number_of_digits bs))
spread_bit k zero (false ∷ bs) l = omega (arith, bit_at_lowest (0 + 2 * number_of_digits bs))
spread_bit k (suc i) (true ∷ bs) l =
    let e : (1 + 2 * number_of_digits bs) / 2 ≡ number_of_digits bs = omega arith in
    omega (arith, spread_bit (suc k) i bs (omega arith), bit_at-suc (1 + 2 * number_of_digits bs) i, ap (λ (x : ℕ). bit_at x i) e)
spread_bit k (suc i) (false ∷ bs) l =
    let e : (0 + 2 * number_of_digits bs) / 2 ≡ number_of_digits bs = omega arith in
    omega (arith, spread_bit (suc k) i bs (omega arith), bit_at-suc (0 + 2 * number_of_digits bs) i, ap (λ (x : ℕ). bit_at x i) e)

pub mmb_peak_height : (n i : ℕ) → i < length (peak_heights mmb_merges n) → slice_index (peak_heights mmb_merges n) i ≡ i + bit_at (n + 1) i
mmb_peak_height n i l =
    let e : length (peak_heights mmb_merges n) ≡ length (digits_after n) = ap length (mmb_heights n) ∙ length-spread 0 (digits_after n) in
    omega (arith, ap (λ (hs : List ℕ). slice_index hs i) (mmb_heights n), spread_bit 0 i (digits_after n) (omega (arith, e)), ap (λ (x : ℕ). bit_at x i) (number_of_digits-digits_after n))

-- an older peak is no lower
pub mmb_older : (n i : ℕ) → suc i < length (peak_heights mmb_merges n) → slice_index (peak_heights mmb_merges n) i ≤ slice_index (peak_heights mmb_merges n) (suc i)
mmb_older n i l = omega (arith, mmb_peak_height n i (omega arith), mmb_peak_height n (suc i) l, bit_at-lt (n + 1) i)

-- ---- the merge
born_heights_suc : (is : List ℕ) (h : ℕ) (hs : List ℕ) → born_heights (map suc is) (h ∷ hs) ≡ born_heights is hs
born_heights_suc [] h hs = refl
born_heights_suc (i ∷ is) h hs = ap (λ (xs : List ℕ). slice_index (raised i hs) i ∷ xs) (born_heights_suc is h (raised i hs))

-- What the rule answers where the newest peak has height k and the older ones are spread from k on, and some digit is no one:
-- one merge, at the first such digit.
pub record MergesAt (k : ℕ) (bs : List Bool) (j : ℕ) : Type 0 where
  pub rule : mmb_merges_from k (spread k bs) ≡ j ∷ []
  pub born : born_heights (mmb_merges_from k (spread k bs)) (k ∷ spread k bs) ≡ suc (k + j) ∷ []
  pub front : weight (take (suc (suc j)) (k ∷ spread k bs)) + 2 ^ k ≡ 3 * 2 ^ (k + j)
  pub rest : ℕ
  pub ends : number_of_digits bs + 1 ≡ (2 * rest + 1) * 2 ^ j
  pub above : 0 < rest

-- no merge where all digits are ones, and else that one
pub pair_cases : (k : ℕ) (bs : List Bool) → ((mmb_merges_from k (spread k bs) ≡ []) × (number_of_digits bs + 1 ≡ 2 ^ suc (length bs))) ⊎ ((j : ℕ) × MergesAt k bs j)
pair_cases k [] = inl (refl, refl)
pair_cases k (false ∷ bs) = inr (
  0,
  record {
    rule = rw (eqb_same k) refl;
    born = (let e : k + 0 ≡ k = omega arith in rw (eqb_same k, e) refl);
    front = (let e : k + 0 ≡ k = omega arith in rw e (omega arith));
    rest = number_of_digits bs;
    ends = omega arith;
    above = omega (arith, number_of_digits_low bs, pow_pos (length bs));
  },
)
pair_cases k (true ∷ bs) = elim (pair_cases (suc k) bs) [
  | inl h ↦ inl (rw (eqb_suc k, h.0) refl, omega (arith, h.1, pow-suc 2 (suc (length bs))))
  | inr h ↦ (let m = h.1 in let j : ℕ = h.0 in let e : k + suc j ≡ suc k + j = omega arith in
      inr (
        suc j,
        record {
          rule = rw (eqb_suc k, m.rule) refl;
          born = rw (eqb_suc k, e) (born_heights_suc (mmb_merges_from (suc k) (spread (suc k) bs)) k (suc k ∷ spread (suc k) bs) ∙ m.born);
          front = rw e (omega (arith, m.front, pow-suc 2 k));
          rest = m.rest;
          ends = omega (arith, m.ends, ap (λ (x : ℕ). (2 * m.rest + 1) * x) (pow-suc 2 j));
          above = m.above;
        },
      ))
]

-- ---- the parents
-- none if n + 2 is a power of two, and else one, a step higher than the lowest ones of n + 1 are many
pub mmb_parents : (n : ℕ) →
    ((parent_heights mmb_merges n ≡ []) × ((k : ℕ) × (n + 2 ≡ 2 ^ k)))
    ⊎ ((j : ℕ) × (parent_heights mmb_merges n ≡ suc j ∷ []) × EndsInOnes j (n + 1) × ((k : ℕ) → n + 2 ≡ 2 ^ k → ⊥))
mmb_parents n =
    let v : number_of_digits (digits_after n) ≡ n + 1 = number_of_digits-digits_after n in
    elim (pair_cases 0 (digits_after n)) [
      | inl h ↦ inl (rw (mmb_heights n, h.0) refl, (suc (length (digits_after n)), omega (arith, h.1)))
      | inr h ↦ (let m = h.1 in
          inr (
            h.0,
            rw (mmb_heights n) (m.born ∙ (let z : 0 + h.0 ≡ h.0 = omega arith in ap (λ (x : ℕ). suc x ∷ []) z)),
            (m.rest, omega (arith, m.ends)),
            λ k e. odd_no_power m.rest h.0 k m.above (omega (arith, m.ends, e)),
          ))
    ]

-- ---- positions
pub mmb_equal : (m : ℕ) → MergesEqual mmb_merges m
mmb_equal m n h = pair_equal 0 (peak_heights mmb_merges n)

-- where a node stands, and that it is not there before the leaf with which it comes
pub record IsPlaced (p : ℕ) (t : Tree) : Type 0 where
  pub position : p ≡ mmb_position (first_leaf t) (height t)
  pub present : p < size mmb_merges (suc (birth_leaf (first_leaf t) (height t)))
  pub aligned : (a : ℕ) × (first_leaf t ≡ a * 2 ^ height t)

placed_leaf : (n p : ℕ) (t : Tree) → p < size mmb_merges (suc n) → p ≡ size mmb_merges n → t ≡ leaf (size mmb_merges n) n → IsPlaced p t
placed_leaf n p t l e d = rw d record { position = e; present = l; aligned = (n, omega arith) }

multiple_of : (first power a n : ℕ) → first + 3 * power ≡ n + 2 → n + 2 ≡ (2 * (a + 1) + 1) * power → first ≡ a * (power * 2)
multiple_of first power a n e d = omega arith

placed_join : (n p j rest : ℕ) (t : Tree) → p < size mmb_merges (suc n) → p ≡ size mmb_merges n + 1 → height t ≡ suc j
    → first_leaf t + 3 * 2 ^ j ≡ n + 2 → n + 2 ≡ (2 * rest + 1) * 2 ^ j → 0 < rest → IsPlaced p t
placed_join n p j rest t l e h f g r =
    let x : first_leaf t + 3 * 2 ^ j - 2 ≡ n = omega arith in
    record {
      position = rw (h, x) e;
      present = rw (h, x) l;
      aligned = (
        rest - 1,
        (let up : rest ≡ rest - 1 + 1 = omega arith in
            rw (h, pow-suc 2 j) (multiple_of (first_leaf t) (2 ^ j) (rest - 1) n f (g ∙ ap (λ (x : ℕ). (2 * x + 1) * 2 ^ j) up))),
      );
    }

raises : (k : ℕ) (bs : List Bool) (j : ℕ) → MergesAt k bs j → slice_index (raised j (k ∷ spread k bs)) j ≡ suc (k + j)
raises k bs j m = let e : slice_index (raised j (k ∷ spread k bs)) j ∷ [] ≡ suc (k + j) ∷ [] = subst (λ (is : List ℕ). born_heights is (k ∷ spread k bs) ≡ suc (k + j) ∷ []) m.rule m.born in cc

pub mmb_placed : (n p : ℕ) (t : Tree) → slice_get (forest mmb_merges n).nodes p ≡ Some t → IsPlaced p t
unfolding forest
mmb_placed zero p t e = absurd (no_node mmb_merges p t e)
mmb_placed (suc n) p t e =
    let f : Forest = append_leaf n (forest mmb_merges n) in
    let k : map height (forest mmb_merges n).peaks ≡ spread 0 (digits_after n) = heights_forest mmb_merges n ∙ mmb_heights n in
    let l : p < size mmb_merges (suc n) = get_below (forest mmb_merges (suc n)).nodes p t e in
    let old : slice_get f.nodes p ≡ Some t → IsPlaced p t = λ d. elim (get_push_cases (forest mmb_merges n).nodes (leaf (size mmb_merges n) n) p t d) [
      | inl h ↦ mmb_placed n p t h
      | inr h ↦ placed_leaf n p t l h.0 h.1
    ] in
    elim (pair_cases 0 (digits_after n)) [
      | inl h ↦ old (subst (λ (is : List ℕ). slice_get (merge_all is f).nodes p ≡ Some t) (ap (mmb_merges_from 0) k ∙ h.0) e)
      | inr h ↦
          (let m = h.1 in let j : ℕ = h.0 in
          let hs : List ℕ = map height (forest mmb_merges n).peaks in
          let q : mmb_merges_from 0 hs ≡ j ∷ [] = ap (mmb_merges_from 0) k ∙ m.rule in
          let d : slice_get (f.nodes ++ parent_of_peaks (length f.nodes) j f.peaks) p ≡ Some t =
          subst (λ (g : Forest). slice_get g.nodes p ≡ Some t) (merge_at-parts j f) (subst (λ (is : List ℕ). slice_get (merge_all is f).nodes p ≡ Some t) q e) in
          let equal : EqualAt j (0 ∷ hs) = (subst (λ (is : List ℕ). AreEqualMerges is (0 ∷ hs)) q (pair_equal 0 hs)).0 in
          let b = joined_born (length f.nodes) j (suc n) f.peaks equal (grown-append_leaf n (forest mmb_merges n) (forest_grown mmb_merges n)).covers
          (tt, peaks_balanced mmb_merges n (mmb_equal n) n (omega arith)) in
          elim (get_push_cases f.nodes b.0 p t (rw b.1 at d)) [
            | inl o ↦ old o
            | inr o ↦ rw o.1 (placed_join n p j m.rest b.0 l
                (o.0 ∙ length-append (forest mmb_merges n).nodes (leaf (size mmb_merges n) n ∷ []))
                (b.3 ∙ ap (λ (xs : List ℕ). slice_index (raised j (0 ∷ xs)) j) k ∙ raises 0 (digits_after n) j m ∙ omega arith)
                (let front : weight (take (suc (suc j)) (0 ∷ hs)) + 1 ≡ 3 * 2 ^ (0 + j) = ap (λ (xs : List ℕ). weight (take (suc (suc j)) (0 ∷ xs)) + 1) k ∙ m.front in
                let z : 2 ^ (0 + j) ≡ 2 ^ j = (let y : 0 + j ≡ j = omega arith in ap (λ (x : ℕ). 2 ^ x) y) in
                omega (arith, b.4, front, z))
                (omega (arith, m.ends, number_of_digits-digits_after n))
                m.above)
          ])
    ]

-- ---- births
-- no forest of fewer leaves has a node at the place of a root
pub size_root : (s h m : ℕ) → m ≤ birth_leaf s h → size mmb_merges m ≤ mmb_position s h
size_root s zero m l = size_le mmb_merges m s l
size_root s (suc h) m l = omega (arith, size_le mmb_merges m (s + 3 * 2 ^ h - 2) l)

before : (n p x : ℕ) → p ≡ size mmb_merges x + 1 → p < size mmb_merges n → x < n
before n p x e l = elim (cases_lt x n) [ inl h ↦ h | inr h ↦ absurd (omega (arith, size_le mmb_merges n x h)) ]

-- ---- children
-- What holds of a merged node at p and its children: it is created with leaf x.
pub record IsJoined (n p : ℕ) (a b : Tree) : Type 0 where
  pub x : ℕ
  pub at : p ≡ size mmb_merges x + 1
  pub below : x < n
  pub sum : x + 2 ≡ first_leaf a + 3 * 2 ^ height a
  pub left : position a ≡ mmb_position (first_leaf a) (height a)
  pub right : position b ≡ mmb_position (first_leaf a + 2 ^ height a) (height a)

pub mmb_children : (n p : ℕ) (a b : Tree) → slice_get (forest mmb_merges n).nodes p ≡ Some (join p a b) → IsJoined n p a b
mmb_children n p a b e =
    let k = mmb_placed n p (join p a b) e in
    let h = node_built mmb_merges n p (join p a b) e in
    let s : IsBalanced (join p a b) = node_balanced mmb_merges n (mmb_equal n) n p (join p a b) (omega arith) e in
    let ka = mmb_placed n (position a) a (built_at (forest mmb_merges n).nodes a h.4) in
    let kb = mmb_placed n (position b) b (built_at (forest mmb_merges n).nodes b h.5) in
    let two : 0 < 2 ^ height a = pow_pos (height a) in
    let fb : first_leaf b ≡ first_leaf a + 2 ^ height a = omega (arith, h.3, balanced_count a s.1) in
    record {
      x = first_leaf a + 3 * 2 ^ height a - 2;
      at = k.position;
      below = before n p (first_leaf a + 3 * 2 ^ height a - 2) k.position (get_below (forest mmb_merges n).nodes p (join p a b) e);
      sum = omega arith;
      left = ka.position;
      right = rw (← fb, s.0) kb.position;
    }
