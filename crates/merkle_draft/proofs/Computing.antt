-- What a plan leaves to be computed, and what is stored when all is computed.
use Rattle.std.proofs.Common.{◌≡◌, ℕ, zero, suc, ◌+◌, ◌-◌, ◌<◌, ◌≤◌, ◌^◌, ◌⊎◌, List, [], ◌∷◌, ◌++◌, length, length-append, Option, Some, None, Bool, true}
use Rattle.std.proofs.Common.{false, cond, slice_get, arith, refl, sym, ap, subst, inl, inr, ◌∙◌, Result, Ok, Err}
use Rattle.std.specs.Prelude.{is_some, nat_le, nat_lt, ◌||◌, OnOk}
use Rattle.std.specs.List.{Contains, filter}
use Rattle.std.specs.Option.{option_or}
use Rattle.std.specs.FinMap.{get}
use Rattle.std.proofs.lemmas.Bool.{cases_lt, lt-ltb, le-ltb, lt-leb, or_left, or_right, le-leb}
use Rattle.std.proofs.lemmas.List.Elements.{Contains-append_left, Contains-append_right}
use Rattle.merkle_base.specs.Heights.{IsLawful}
use Rattle.merkle_base.specs.Tree.{Tree, leaf, join, position, height}
use Rattle.merkle_base.specs.Forest.{forest, size}
use Rattle.merkle_base.specs.Hashing.{Hashing}
use Rattle.merkle_base.specs.Places.{HasInner, peaks_of}
use Rattle.merkle_base.proofs.Births.{leaf_at}
use Rattle.merkle_base.proofs.Cases.{by_test}
use Rattle.merkle_base.proofs.Growth.{built_at, forest_grown}
use Rattle.merkle_base.proofs.Lists.{get_below, get_exists, get_front}
use Rattle.merkle_base.proofs.Lookup.{get_append_add}
use Rattle.merkle_base.proofs.Nodes.{leaf_here, node_anywhere, node_built, node_stays, size_le, size_lt}
use Rattle.merkle_batch_theory.proofs.OptionFacts.{none_of, or_some}
use Rattle.merkle_batch_theory.specs.History.{is_dirty}
use Rattle.merkle_batch_theory.specs.Needed.{computed_nodes, is_computed}
use Rattle.merkle_draft.specs.DirtyLeaves.{HasLeavesOf}
use Rattle.merkle_draft.specs.DraftReads.{DraftModel, OnlyAppends, stored_node}
use Rattle.merkle_draft.specs.Levels.{ArePlanned, all_dirty_count, from_height, level_at}
use Rattle.merkle_draft.specs.NewDigests.{AreNewDigests, IsStoredAfter, LacksChild, LacksNeeded, is_written, new_digest, of_both}
use Rattle.merkle_draft.specs.Settled.{AreSettled, IsReadyToCompute}
use Rattle.merkle_draft.specs.declared.node_error.NodeError.{NodeError}
use Rattle.merkle_draft.proofs.PlannedNodes.{all_counted}

-- what is listed at a height is listed
pub listed_in_all : (ls : List (List ℕ)) (k p : ℕ) → Contains (level_at ls k) p → Contains (from_height ls 0) p
listed_in_all [] k p c = c
listed_in_all (v ∷ ls) zero p c = Contains-append_left v (from_height ls 0) p c
listed_in_all (v ∷ ls) (suc k) p c = Contains-append_right v (from_height ls 0) p (listed_in_all ls k p c)

-- a map of leaves has nothing for a merged node, and nothing past them
pub no_leaf_there : {D : Type 0} (rule : List ℕ → List ℕ) (n e : ℕ) (m : ℕ → Option D) → HasLeavesOf rule n m → n ≤ e → (p q : ℕ) (l r : Tree)
    → slice_get (forest rule e).nodes p ≡ Some (join q l r) → m p ≡ None
no_leaf_there rule n e m of within p q l r at = by_test (λ b. is_some (m p) ≡ b → m p ≡ None) (is_some (m p))
    (λ b c. (let k = of p b in
    let f : slice_get (forest rule e).nodes p ≡ Some (leaf (size rule k.0) k.0) = ap (slice_get (forest rule e).nodes) k.2 ∙ leaf_here rule k.0 e (omega (arith, k.1, within)) in
    let x : Some (join q l r) ≡ Some (leaf (size rule k.0) k.0) = sym at ∙ f in absurd (cc)))
    (λ b c. none_of (m p) b) refl

pub no_leaf_past : {D : Type 0} (rule : List ℕ → List ℕ) (n : ℕ) (m : ℕ → Option D) → HasLeavesOf rule n m → (p : ℕ) → size rule n ≤ p → m p ≡ None
no_leaf_past rule n m of p past = by_test (λ b. is_some (m p) ≡ b → m p ≡ None) (is_some (m p))
    (λ b c. (let k = of p b in absurd (omega (arith, past, k.2, size_lt rule k.0 n k.1))))
    (λ b c. none_of (m p) b) refl

module _ {D : Type 0} (rule : List ℕ → List ℕ) (max_leaves : ℕ) (m : ℕ → Option D) (n a e : ℕ) (ls : List (List ℕ)) (within : e ≤ max_leaves) (planned : ArePlanned rule m n a e ls) where
  -- each listed node is a merged node of its height
  pub listed_inner : (k p : ℕ) → Contains (level_at ls k) p → HasInner rule max_leaves p k
  listed_inner k p c = (let w = (planned k p).0 c in (e, w.0, within, w.1, w.2, tall w.0 w.2 w.3))
    where
      tall : (t : Tree) → height t ≡ k → is_computed rule m n t ≡ true → 0 < k
      tall (leaf q i) e b = absurd (cc)
      tall (join q l r) e b = omega (arith, e)

  pub listed_below : (k p : ℕ) → Contains (level_at ls k) p → p < size rule e
  listed_below k p c = (let w = (planned k p).0 c in get_below (forest rule e).nodes p w.0 w.1)

-- ---- before the dirty parents are computed
module _ {D : Type 0} (h : Hashing D) (rule : List ℕ → List ℕ) (max_leaves : ℕ) (m under : ℕ → Option D) (n : ℕ) (before : ℕ) (ls : List (List ℕ))
    (within : n ≤ max_leaves) (sized : size rule n ≡ before) (planned : ArePlanned rule m n 0 n ls)
    (of : HasLeavesOf rule n m) (stored : ℕ → Option D) (old : (q : ℕ) → q < size rule n → stored q ≡ m q) where
  -- the old leaves have their digests
  old_leaf_settled : (p q k : ℕ) → slice_get (forest rule n).nodes p ≡ Some (leaf q k) → IsStoredAfter h rule m under n [] stored p (leaf q k)
  old_leaf_settled p q k at =
      let place : q ≡ p = (forest_grown rule n).placed p (leaf q k) at in
      let low : q < size rule n = omega (arith, place, get_below (forest rule n).nodes p (leaf q k) at) in
      let no : nat_le (size rule n) q ≡ false = lt-leb (size rule n) q low in
      let is : stored p ≡ m q = ap stored (sym place) ∙ old q low in
      let digest : new_digest h rule m under n [] (leaf q k) ≡ option_or (m q) (under q) = ap (λ b. cond b (slice_get [] (k - n)) (option_or (m q) (under q))) no in
      by_test (λ b. is_some (m q) ≡ b → IsStoredAfter h rule m under n [] stored p (leaf q k)) (is_some (m q))
      (λ b c. (let same : new_digest h rule m under n [] (leaf q k) ≡ m q = digest ∙ or_some (m q) (under q) b in
      (is ∙ sym same ∙ ap (λ x. cond x (new_digest h rule m under n [] (leaf q k)) None) (sym (or_right (nat_le (size rule n) q) (is_some (m q)) b)), (λ _. ap is_some same ∙ b))))
      (λ b c. (let not_written : is_written rule m n (leaf q k) ≡ false = ap (λ x. x || is_some (m q)) no ∙ b in
      (is ∙ none_of (m q) b ∙ ap (λ x. cond x (new_digest h rule m under n [] (leaf q k)) None) (sym not_written), (λ y. absurd (let f : false ≡ true = sym not_written ∙ y in cc))))) refl

  -- and nothing is stored for old merged nodes without dirty leaves
  old_join_settled : (p q : ℕ) (l r : Tree) → slice_get (forest rule n).nodes p ≡ Some (join q l r) → is_written rule m n (join q l r) ≡ false →
      IsStoredAfter h rule m under n [] stored p (join q l r)
  old_join_settled p q l r at e = (
    old p (get_below (forest rule n).nodes p (join q l r) at) ∙ no_leaf_there rule n n m of (omega arith) p q l r at
        ∙ ap (λ b. cond b (new_digest h rule m under n [] (join q l r)) None) (sym e),
    (λ y. absurd (let f : false ≡ true = sym e ∙ y in cc)),
  )

  old_settled : (p : ℕ) (t : Tree) → slice_get (forest rule n).nodes p ≡ Some t → Contains (from_height ls 0) p ⊎ IsStoredAfter h rule m under n [] stored p t
  old_settled p (leaf q k) at = inr (old_leaf_settled p q k at)
  old_settled p (join q l r) at = by_test (λ b. is_written rule m n (join q l r) ≡ b → Contains (from_height ls 0) p
      ⊎ IsStoredAfter h rule m under n [] stored p (join q l r)) (is_written rule m n (join q l r))
      (λ b c. inl (listed_in_all ls (height (join q l r)) p ((planned (height (join q l r)) p).1 (join q l r) at refl b (omega arith))))
      (λ b c. inr (old_join_settled p q l r at b)) refl

  pub dirty_ready : IsReadyToCompute h rule max_leaves m under n [] before 0 ls stored
  dirty_ready =
      let e : n ≡ n + length {A = D} [] = omega arith in
      record {
        within = omega (arith, within);
        sized = sized;
        planned = subst (λ (x : ℕ). ArePlanned rule m n 0 x ls) e planned;
        settled = λ p t at. old_settled p t (subst (λ (x : ℕ). slice_get (forest rule x).nodes p ≡ Some t) (sym e) at);
      }

-- ---- before the parents of more leaves are computed
module _ {D : Type 0} (h : Hashing D) (rule : List ℕ → List ℕ) (m under : ℕ → Option D) (n : ℕ) (ds more : List D) where
  -- the digests of the nodes that were there stay
  digest_stays : (t : Tree) (p : ℕ) → slice_get (forest rule (n + length ds)).nodes p ≡ Some t → new_digest h rule m under n (ds ++ more) t ≡ new_digest h rule m under n ds t
  digest_stays (leaf q k) p at =
      let here = leaf_at rule (n + length ds) p q k at in
      elim (cases_lt k n) [
        | inl less ↦ (let no : nat_le (size rule n) q ≡ false = lt-leb (size rule n) q (omega (arith, here.0, size_lt rule k n less)) in
            ap (λ b. cond b (slice_get (ds ++ more) (k - n)) (option_or (m q) (under q))) no ∙ ap (λ b. cond b (slice_get ds (k - n)) (option_or (m q) (under q))) (sym no))
        | inr past ↦ (let x = get_exists ds (k - n) (omega (arith, here.1, past)) in
            ap (λ d. cond (nat_le (size rule n) q) d (option_or (m q) (under q))) (get_front ds more (k - n) x.0 x.1 ∙ sym x.1))
      ]
  digest_stays (join q l r) p at =
      let built = node_built rule (n + length ds) p (join q l r) at in
      let left = digest_stays l (position l) (built_at (forest rule (n + length ds)).nodes l built.4) in
      let right = digest_stays r (position r) (built_at (forest rule (n + length ds)).nodes r built.5) in
      λ i. cond (is_written rule m n (join q l r)) (of_both (h.node q) (left i) (right i)) (under q)

  module _ (max_leaves before : ℕ) (ls : List (List ℕ)) (old now : ℕ → Option D) (within : n + length (ds ++ more) ≤ max_leaves) (sized : size rule n ≡ before)
      (planned : ArePlanned rule m n (size rule (n + length ds)) (n + length (ds ++ more)) ls) (held : AreNewDigests h rule m under n ds old)
      (same : (p : ℕ) → p < size rule (n + length ds) → now p ≡ old p)
      (new : (i : ℕ) (d : D) → slice_get more i ≡ Some d → now (size rule (n + length ds + i)) ≡ Some d) where
    held_settled : (p : ℕ) (t : Tree) → p < size rule (n + length ds) → slice_get (forest rule (n + length (ds ++ more))).nodes p ≡ Some t → IsStoredAfter h rule m under n (ds ++ more) now p t
    held_settled p t less at =
        let here = node_anywhere rule (n + length (ds ++ more)) (n + length ds) p t at less in
        let w = held p t here in
        let digest = digest_stays t p here in
        (same p less ∙ w.0 ∙ ap (λ d. cond (is_written rule m n t) d None) (sym digest), (λ b. ap is_some digest ∙ w.1 b))

    new_leaf_settled : (p q k : ℕ) → size rule (n + length ds) ≤ p → slice_get (forest rule (n + length (ds ++ more))).nodes p ≡ Some (leaf q k)
        → IsStoredAfter h rule m under n (ds ++ more) now p (leaf q k)
    new_leaf_settled p q k past at =
        let here = leaf_at rule (n + length (ds ++ more)) p q k at in
        let place : q ≡ p = (forest_grown rule (n + length (ds ++ more))).placed p (leaf q k) at in
        let late : n + length ds ≤ k = elim (cases_lt k (n + length ds)) [ inl l ↦ absurd (omega (arith, past, place, here.0, size_lt rule k (n + length ds) l)) | inr l ↦ l ] in
        let i : n + length ds + (k - (n + length ds)) ≡ k = omega (arith, late) in
        let j : k - n ≡ length ds + (k - (n + length ds)) = omega (arith, late) in
        let x = get_exists more (k - (n + length ds)) (omega (arith, here.1, late, length-append ds more)) in
        let yes : nat_le (size rule n) q ≡ true = le-leb (size rule n) q (omega (arith, here.0, size_le rule n k (omega (arith, late)))) in
        let digest : new_digest h rule m under n (ds ++ more) (leaf q k) ≡ Some x.0 =
        ap (λ b. cond b (slice_get (ds ++ more) (k - n)) (option_or (m q) (under q))) yes ∙ ap (slice_get (ds ++ more)) j ∙ get_append_add ds more (k - (n + length ds)) ∙ x.1 in
        let is : now p ≡ Some x.0 = ap now (sym place ∙ here.0 ∙ ap (size rule) (sym i)) ∙ new (k - (n + length ds)) x.0 x.1 in
        (is ∙ sym digest ∙ ap (λ b. cond b (new_digest h rule m under n (ds ++ more) (leaf q k)) None) (sym (or_left (nat_le (size rule n) q) (is_some (m q)) yes)), (λ _. ap is_some digest))

    new_settled : (p : ℕ) (t : Tree) → size rule (n + length ds) ≤ p → slice_get (forest rule (n + length (ds ++ more))).nodes p ≡ Some t
        → Contains (from_height ls 0) p ⊎ IsStoredAfter h rule m under n (ds ++ more) now p t
    new_settled p (leaf q k) past at = inr (new_leaf_settled p q k past at)
    new_settled p (join q l r) past at =
        let place : q ≡ p = (forest_grown rule (n + length (ds ++ more))).placed p (join q l r) at in
        let yes : nat_le (size rule n) q ≡ true = le-leb (size rule n) q (omega (arith, past, place, size_le rule n (n + length ds) (omega arith))) in
        inl (listed_in_all ls (height (join q l r)) p ((planned (height (join q l r)) p).1 (join q l r) at refl (or_left (nat_le (size rule n) q) (is_dirty m (join q l r)) yes) past))

    pub more_ready : IsReadyToCompute h rule max_leaves m under n (ds ++ more) before (size rule (n + length ds)) ls now
    more_ready = record {
      within = within;
      sized = sized;
      planned = planned;
      settled = λ p t at. elim (cases_lt p (size rule (n + length ds))) [ inl less ↦ inr (held_settled p t less at) | inr past ↦ new_settled p t past at ];
    }

-- ---- a child that is not there
-- in a larger forest
pub child_later : {F D : Type 0} (rule : List ℕ → List ℕ) (m under : ℕ → Option D) (n e later : ℕ) (g : NodeError F) → e ≤ later → LacksChild rule m under n e g → LacksChild rule m under n later g
child_later rule m under n e later g more w =
    let c = w.1 in
    (w.0, (c.0, c.1, c.2, node_stays rule e later c.0 (join c.0 c.1 c.2) more c.3, c.4, c.5), w.2, w.3, w.4)

-- it is needed
pub child_needed : {F D : Type 0} (rule : List ℕ → List ℕ) (m under : ℕ → Option D) (n e : ℕ) (g : NodeError F) → LacksChild rule m under n e g → LacksNeeded rule m under n e g
child_needed rule m under n e g w = (w.0, (inl w.1, w.2, w.3), w.4)

-- ---- what is stored, when nodes are appended
pub stored_kept : {D : Type 0} (old new : DraftModel D) (more : List D) → OnlyAppends old new → new.appended ≡ old.appended ++ more → (p : ℕ)
    → p < old.before + length old.appended → stored_node new p ≡ stored_node old p
stored_kept old new more only grown p less =
    let start : cond (nat_lt p new.before) (get new.overwritten p) (slice_get new.appended (p - new.before))
    ≡ cond (nat_lt p old.before) (get old.overwritten p) (slice_get (old.appended ++ more) (p - old.before)) =
    λ i. cond (nat_lt p (only.0 i)) (get (only.2 i) p) (slice_get (grown i) (p - only.0 i)) in
    elim (cases_lt p old.before) [
      | inl l ↦ start ∙ ap (λ b. cond b (get old.overwritten p) (slice_get (old.appended ++ more) (p - old.before))) (lt-ltb p old.before l)
          ∙ ap (λ b. cond b (get old.overwritten p) (slice_get old.appended (p - old.before))) (sym (lt-ltb p old.before l))
      | inr l ↦ (let x = get_exists old.appended (p - old.before) (omega (arith, less, l)) in
          start ∙ ap (cond (nat_lt p old.before) (get old.overwritten p)) (get_front old.appended more (p - old.before) x.0 x.1 ∙ sym x.1))
    ]

pub stored_later : {D : Type 0} (d : DraftModel D) (p : ℕ) (x : D) → d.before ≤ p → slice_get d.appended (p - d.before) ≡ Some x → stored_node d p ≡ Some x
stored_later d p x past at = ap (λ b. cond b (get d.overwritten p) (slice_get d.appended (p - d.before))) (le-ltb p d.before past) ∙ at

-- when nothing is left, all written nodes have their digests
pub all_settled : {D : Type 0} (h : Hashing D) (rule : List ℕ → List ℕ) (m under : ℕ → Option D) (n : ℕ) (ds : List D) (stored : ℕ → Option D)
    → AreSettled h rule m under n ds [] stored → AreNewDigests h rule m under n ds stored
all_settled h rule m under n ds stored settled p t at = elim (settled p t at) [ inl c ↦ absurd (omega (arith, c.1)) | inr w ↦ w ]

-- fewer nodes are computed than there are
filter_within : {X : Type 0} (f : X → Bool) (xs : List X) → length (filter f xs) ≤ length xs
filter_within f [] = omega arith
filter_within f (x ∷ xs) = by_test (λ b. length (cond b (x ∷ filter f xs) (filter f xs)) ≤ suc (length xs)) (f x)
    (λ b. omega (arith, filter_within f xs))
    (λ b. omega (arith, filter_within f xs))

pub few_computed : {D : Type 0} (rule : List ℕ → List ℕ) (max_leaves most : ℕ) (law : IsLawful rule max_leaves most) (m : ℕ → Option D) (n e : ℕ)
    → e ≤ max_leaves → length (computed_nodes rule m n e) < 2 ^ 64
few_computed rule max_leaves most law m n e within = omega (arith, filter_within (is_computed rule m n) (forest rule e).nodes, size_le rule e max_leaves within, law.size_at_limit, law.limit_fits)

pub dirty_few : {D : Type 0} (rule : List ℕ → List ℕ) (max_leaves most : ℕ) (law : IsLawful rule max_leaves most) (m : ℕ → Option D) (n : ℕ)
    → n ≤ max_leaves → all_dirty_count m (peaks_of rule n) < 2 ^ 64
dirty_few rule max_leaves most law m n within =
    let e : n + 0 ≡ n = omega arith in
    omega (arith, all_counted rule m n 0 (all_dirty_count m (peaks_of rule n)) 0 refl (omega (arith, ap (size rule) e)), few_computed rule max_leaves most law m n (n + 0) (omega (arith, within)))

-- ---- what holds of a result where something else does
pub on_ok : {T E : Type 0} {P Q : Type 0} (r : Result T E) → (P → Q) → OnOk r P → OnOk r Q
on_ok (Ok x) f h = f h
on_ok (Err e) f h = tt

pub on_ok_always : {T E : Type 0} {P : Type 0} (r : Result T E) → P → OnOk r P
on_ok_always (Ok x) p = p
on_ok_always (Err e) p = tt
