-- The peaks as lists, oldest first.
use Rattle.std.proofs.Common.{◌≡◌, ◌≤◌, ◌<◌, ◌+◌, ◌*◌, ◌%◌, ◌^◌, ℕ, Bool, true, false, cond, nat_le, List, [], ◌∷◌, ◌++◌, map, filter, reverse, length, refl, ap, sym, subst, ◌∙◌, arith, le-leb}
use Rattle.std.specs.List.{AllByRecursion}
use Rattle.std.proofs.lemmas.Bool.{lt-leb}
use Rattle.std.proofs.lemmas.Nat.{one_shl}
use Rattle.std.proofs.lemmas.List.{length-map, length-reverse, reverse-append}
use Rattle.merkle_base.specs.Tree.{Tree, position, height, first_leaf, width, end_leaf, IsBalanced, IsBuilt}
use Rattle.merkle_base.specs.Forest.{forest, Covers}
use Rattle.merkle_base.specs.Heights.{IsLawful, MergesEqual}
use Rattle.merkle_base.specs.Places.{placed, peaks_of, wholly_before, inactive_peaks}
use Rattle.merkle_base.proofs.Growth.{forest_grown}
use Rattle.merkle_base.proofs.Nodes.{all_append, width_pos}
use Rattle.merkle_base.proofs.Balance.{heights_forest, peaks_balanced, balanced_count}
use Rattle.merkle_base.proofs.Limits.{log_below, lawful_leaves}

-- the positions of where trees are placed
pub first-placed : (ts : List Tree) → map (λ (q : ℕ × ℕ). q.0) (map placed ts) ≡ map position ts
first-placed [] = refl
first-placed (t ∷ ts) = ap (λ (ps : List ℕ). position t ∷ ps) (first-placed ts)

-- under a lawful rule there are at most 64 of them
pub few_peaks : (rule : List ℕ → List ℕ) (max_leaves max_nodes : ℕ) → IsLawful rule max_leaves max_nodes → (n : ℕ) → n ≤ max_leaves → length (peaks_of rule n) ≤ 64
few_peaks rule max_leaves max_nodes law n l =
    omega (arith, length-reverse (forest rule n).peaks, length-map (forest rule n).peaks height, ap length (heights_forest rule n), law.at_most_64_peaks n l)

-- ---- from left to right
-- peaks, the oldest first, that reach from o to n without gap or overlap
abbrev pub Spans : ℕ → ℕ → List Tree → Type 0
Spans o n [] = o ≡ n
Spans o n (t ∷ ts) = (first_leaf t ≡ o) × Spans (o + width t) n ts

pub spans_append : (o m n : ℕ) (xs ys : List Tree) → Spans o m xs → Spans m n ys → Spans o n (xs ++ ys)
spans_append o m n [] ys u v = subst (λ z. Spans z n ys) (sym u) v
spans_append o m n (x ∷ xs) ys u v = (u.0, spans_append (o + width x) m n xs ys u.1 v)

pub covers_spans : (n : ℕ) (ts : List Tree) → Covers n ts → Spans 0 n (reverse ts)
covers_spans n [] c = sym c
covers_spans n (t ∷ ts) c = subst (Spans 0 n) (sym (reverse-append (t ∷ []) ts)) (spans_append 0 (first_leaf t) n (reverse ts) (t ∷ []) (covers_spans (first_leaf t) ts c.1) (refl, c.0))

pub all_reverse : (P : Tree → Type 0) (ts : List Tree) → AllByRecursion P ts → AllByRecursion P (reverse ts)
all_reverse P [] h = tt
all_reverse P (t ∷ ts) h = subst (AllByRecursion P) (sym (reverse-append (t ∷ []) ts)) (all_append P (reverse ts) (t ∷ []) (all_reverse P ts h.1) (h.0, tt))

pub peaks_spans : (rule : List ℕ → List ℕ) (n : ℕ) → Spans 0 n (peaks_of rule n)
peaks_spans rule n = covers_spans n (forest rule n).peaks (forest_grown rule n).covers

pub peaks_built : (rule : List ℕ → List ℕ) (n : ℕ) → AllByRecursion (IsBuilt (forest rule n).nodes) (peaks_of rule n)
peaks_built rule n = all_reverse (IsBuilt (forest rule n).nodes) (forest rule n).peaks (forest_grown rule n).built

-- ---- those before a location
pub filter_yes : (p : Tree → Bool) (t : Tree) (ts : List Tree) → p t ≡ true → filter p (t ∷ ts) ≡ t ∷ filter p ts
filter_yes p t ts e = ap (λ z. cond z (t ∷ filter p ts) (filter p ts)) e

pub filter_no : (p : Tree → Bool) (t : Tree) (ts : List Tree) → p t ≡ false → filter p (t ∷ ts) ≡ filter p ts
filter_no p t ts e = ap (λ z. cond z (t ∷ filter p ts) (filter p ts)) e

-- peaks from o on are not wholly before what is before o
pub none_before : (a o n : ℕ) (ts : List Tree) → Spans o n ts → a < o → wholly_before a ts ≡ []
none_before a o n [] c l = refl
none_before a o n (t ∷ ts) c l = filter_no (λ u. nat_le (end_leaf u) a) t ts (lt-leb (end_leaf t) a (omega (arith, c.0))) ∙ none_before a (o + width t) n ts c.1 (omega arith)

-- ---- counting them
-- of the peaks, `count` are counted; those that are left begin at location `begin` and are placed as `left` says
pub record Counted (rule : List ℕ → List ℕ) (n floor : ℕ) (left : List (ℕ × ℕ)) (begin count : ℕ) : Type 0 where
  pub rest : List Tree
  pub left_is : left ≡ map placed rest
  pub spans : Spans begin n rest
  pub balanced : AllByRecursion IsBalanced rest
  pub at_most_begin : count ≤ begin
  pub counted : count + length (wholly_before floor rest) ≡ inactive_peaks rule n floor

pub counting : (rule : List ℕ → List ℕ) (n floor : ℕ) (left : List (ℕ × ℕ)) → MergesEqual rule n → left ≡ map placed (peaks_of rule n) → Counted rule n floor left 0 0
counting rule n floor left equal e = record {
  rest = peaks_of rule n;
  left_is = e;
  spans = peaks_spans rule n;
  balanced = all_reverse IsBalanced (forest rule n).peaks (peaks_balanced rule n equal n (omega arith));
  at_most_begin = omega arith;
  counted = omega arith;
}

-- peaks from a location on end at the last
pub spans_end : (o n : ℕ) (ts : List Tree) → Spans o n ts → o ≤ n
spans_end o n [] c = omega (arith, c)
spans_end o n (t ∷ ts) c = omega (arith, spans_end (o + width t) n ts c.1)

-- the next peak, of height h: where it ends, and what it counts
pub record Next (rule : List ℕ → List ℕ) (n floor h : ℕ) (more : List (ℕ × ℕ)) (end count : ℕ) : Type 0 where
  pub low : h < 63
  pub below_end : count < end
  pub within : end ≤ n
  pub below : end ≤ floor → Counted rule n floor more end (count + 1)
  pub above : floor < end → count ≡ inactive_peaks rule n floor

pub next_counted : (rule : List ℕ → List ℕ) (m k : ℕ) → IsLawful rule m k → (n floor : ℕ) → n ≤ m → (left : List (ℕ × ℕ)) (begin count : ℕ)
    → Counted rule n floor left begin count → (p h : ℕ) (more : List (ℕ × ℕ)) → left ≡ (p, h) ∷ more → Next rule n floor h more (begin + 1 * 2 ^ h % 2 ^ 64) count
next_counted rule m k law n floor l left begin count w p h more e = step w.rest (sym e ∙ w.left_is) w.spans w.balanced w.counted
  where
    step : (rest : List Tree) → (p, h) ∷ more ≡ map placed rest → Spans begin n rest → AllByRecursion IsBalanced rest
        → count + length (wholly_before floor rest) ≡ inactive_peaks rule n floor → Next rule n floor h more (begin + 1 * 2 ^ h % 2 ^ 64) count
    step [] e s b c = absurd (cc)
    step (t ∷ ts) e s b c =
        let first : (p, h) ≡ placed t = cc in
        let others : more ≡ map placed ts = cc in
        let wide : width t ≡ 2 ^ h = balanced_count t b.0 ∙ ap (λ (x : ℕ). 2 ^ x) (sym (ap (λ q. q.1) first)) in
        let within : begin + width t ≤ n = spans_end (begin + width t) n ts s.1 in
        let low : h < 63 = log_below h 63 n (omega (arith, wide, within)) (omega (arith, l, lawful_leaves rule m k law)) in
        let ends : begin + width t ≡ begin + 1 * 2 ^ h % 2 ^ 64 = omega (arith, wide, one_shl h 64 (omega (arith, low))) in
        let here : end_leaf t ≡ begin + width t = omega (arith, s.0) in record {
          low = low;
          below_end = omega (arith, w.at_most_begin, width_pos t, ends);
          within = omega (arith, within, ends);
          below = λ u. record {
            rest = ts;
            left_is = others;
            spans = subst (λ (q : ℕ). Spans q n ts) ends s.1;
            balanced = b.1;
            at_most_begin = omega (arith, w.at_most_begin, width_pos t, ends);
            counted = omega (arith, c, ap length (filter_yes (λ (v : Tree). nat_le (end_leaf v) floor) t ts (le-leb (end_leaf t) floor (omega (arith, u, here, ends)))));
          };
          above = λ u. omega (
            arith,
            c,
            ap length (filter_no (λ (v : Tree). nat_le (end_leaf v) floor) t ts (lt-leb (end_leaf t) floor (omega (arith, u, here, ends)))
                ∙ none_before floor (begin + width t) n ts s.1 (omega (arith, u, ends))),
          );
        }

pub all_counted : (rule : List ℕ → List ℕ) (n floor : ℕ) (left : List (ℕ × ℕ)) (begin count : ℕ) → Counted rule n floor left begin count → left ≡ [] → count ≡ inactive_peaks rule n floor
all_counted rule n floor left begin count w e = step w.rest (sym e ∙ w.left_is) w.counted
  where
    step : (rest : List Tree) → [] ≡ map placed rest → count + length (wholly_before floor rest) ≡ inactive_peaks rule n floor → count ≡ inactive_peaks rule n floor
    step [] l k = omega (arith, k)
    step (t ∷ ts) l k = absurd (cc)
