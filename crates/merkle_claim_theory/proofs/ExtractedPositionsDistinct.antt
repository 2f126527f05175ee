-- No position stands twice among the extracted pairs.
use Rattle.std.proofs.Common.{◌≡◌, ℕ, zero, suc, Bool, cond, ◌||◌, ◌+◌, ◌-◌, ◌≤◌, ◌<◌, List, [], ◌∷◌, ◌++◌, inl, inr, refl, ap, sym, ◌∙◌, subst, ⊎_elim, arith}
use Rattle.std.proofs.Common.{length, map, take, drop, Some, slice_get}
use Rattle.std.specs.List.{AllByRecursion}
use Rattle.std.proofs.lemmas.List.{map-append}
use Rattle.merkle_base.specs.Tree.{Tree, leaf, join, position, first_leaf, width, IsUnder, IsBuilt, end_leaf}
use Rattle.merkle_base.specs.Forest.{forest}
use Rattle.merkle_base.proofs.Growth.{built_at, under_itself}
use Rattle.merkle_base.proofs.Nodes.{built_under}
use Rattle.merkle_root_theory.specs.Expression.{value}
use Rattle.merkle_base.specs.Hashing.{Hashing}
use Rattle.merkle_root_theory.specs.Collision.{Member}
use Rattle.merkle_claim_theory.specs.Order.{Distinct}
use Rattle.merkle_root_theory.specs.Plan.{tree_meets, siblings}
use Rattle.merkle_base.specs.declared.family.Bagging.{Bagging}
use Rattle.merkle_base.specs.declared.family.Bagging.TheVariants.{ForwardFold, BackwardFold}
use Rattle.merkle_root_theory.specs.Claim.{tree_claim}
use Rattle.merkle_root_theory.specs.Outside.{single_before, single_after}
use Rattle.merkle_root_theory.specs.Check.{in_range, leaf_given}
use Rattle.merkle_base.specs.Places.{peaks_of, wholly_before}
use Rattle.merkle_root_theory.specs.Range.{end_of, overlapping, wholly_after}
use Rattle.merkle_root_theory.specs.Extract.{inner_pairs, over_pairs, single_pairs}
use Rattle.merkle_claim_theory.specs.Verdict.{ExtractsOnce}
use Rattle.merkle_claim_theory.proofs.HonestClaims.{member_split}
use Rattle.merkle_root_theory.proofs.Collisions.{member_left, member_right}
use Rattle.merkle_root_theory.proofs.Extraction.{all_filter, all_single_before, all_single_after}
use Rattle.merkle_claim_theory.proofs.PlacesOnce.{distinct_append}
use Rattle.merkle_base.proofs.Cases.{by_test}
use Rattle.merkle_root_theory.proofs.PeakGroups.{groups}
use Rattle.merkle_base.proofs.PeakLists.{Spans, peaks_built, peaks_spans}
use Rattle.merkle_claim_theory.proofs.Verdicts.{apart_under}
use Rattle.merkle_base.proofs.Lists.{one_there}
use Rattle.merkle_claim_theory.proofs.PinnedChecks.{spans_first}
use Rattle.merkle_claim_theory.proofs.Multiproofs.{all_member}

module _ {D : Type 0} (ns : List Tree) (h : Hashing D) (c : ℕ → Bool) (Y : ℕ → D) where
  abbrev spots : List (ℕ × D) → List ℕ
  spots xs = map (λ (x : ℕ × D). x.0) xs

  -- a node under a tree with the position of one under a tree after it
  clash : (a b u v : Tree) → IsBuilt ns a → IsBuilt ns b → IsUnder u a → IsUnder v b → position u ≡ position v → end_leaf a ≤ first_leaf b → ⊥
  clash a b u v ha hb p q e l =
      apart_under ns a b u v ha hb p q
      (one_there (subst (λ z. slice_get ns z ≡ Some u) e (built_at ns u (built_under ns u a p ha))) (built_at ns v (built_under ns v b q hb))) l

  -- a position of a node strictly under t
  Below : Tree → ℕ → Type 0
  Below t p = (u : Tree) × IsUnder u t × (position u ≡ p) × (position u < position t)

  spots_both : (l r : Tree) (xs ys : List (ℕ × D)) (dl dr : D) → spots (xs ++ (ys ++ ((position l, dl) ∷ (position r, dr) ∷ []))) ≡ spots xs ++ (spots ys ++ (position l ∷ position r ∷ []))
  spots_both l r xs ys dl dr = map-append (λ (x : ℕ × D). x.0) xs _ ∙ ap (λ z. spots xs ++ z) (map-append (λ (x : ℕ × D). x.0) ys _)

  inner_below : (t : Tree) (ds : List D) → IsBuilt ns t → (p : ℕ) → Member (spots (inner_pairs h c Y t ds)) p → Below t p
  unfolding Below
  inner_below (leaf q i) ds b p m = elim m [ ]
  inner_below (join q l r) ds b p m =
      let rest = drop (length (siblings c l)) ds in
      let xs = inner_pairs h c Y l ds in
      let ys = inner_pairs h c Y r rest in
      let dl = value h (tree_claim h c Y l ds) in
      let dr = value h (tree_claim h c Y r rest) in
      let u = inner_below l ds b.4 p in
      let v = inner_below r rest b.5 p in
      by_test (λ z. Member (spots (cond z (xs ++ (ys ++ ((position l, dl) ∷ (position r, dr) ∷ []))) [])) p → (u : Tree) × IsUnder u (join q l r)
      × (position u ≡ p) × (position u < q)) (tree_meets c l || tree_meets c r)
      (λ _ w. ⊎_elim (λ x. let y = u x in (y.0, inr (inl y.1), y.2, omega (arith, y.3, b.1)))
      (λ x. ⊎_elim (λ x. let y = v x in (y.0, inr (inr y.1), y.2, omega (arith, y.3, b.2)))
      (λ x. ⊎_elim (λ e. (l, inr (inl (under_itself l)), e, b.1)) (λ x. ⊎_elim (λ e. (r, inr (inr (under_itself r)), e, b.2)) (λ z. elim z [ ]) x) x)
      (member_split (spots ys) (position l ∷ position r ∷ []) p x))
      (member_split (spots xs) (spots ys ++ (position l ∷ position r ∷ [])) p (subst (λ z. Member z p) (spots_both l r xs ys dl dr) w)))
      (λ _ w. elim w [ ]) m

  inner_once : (t : Tree) (ds : List D) → IsBuilt ns t → Distinct (spots (inner_pairs h c Y t ds))
  unfolding Below
  inner_once (leaf q i) ds b = tt
  inner_once (join q l r) ds b =
      let rest = drop (length (siblings c l)) ds in
      let xs = inner_pairs h c Y l ds in
      let ys = inner_pairs h c Y r rest in
      let dl = value h (tree_claim h c Y l ds) in
      let dr = value h (tree_claim h c Y r rest) in
      let du = inner_once l ds b.4 in
      let dv = inner_once r rest b.5 in
      let next_to : end_leaf l ≤ first_leaf r = omega (arith, b.3) in
      by_test (λ z. Distinct (spots (cond z (xs ++ (ys ++ ((position l, dl) ∷ (position r, dr) ∷ []))) []))) (tree_meets c l || tree_meets c r)
      (λ _. subst Distinct (sym (spots_both l r xs ys dl dr)) (distinct_append (spots xs) (spots ys ++ (position l ∷ position r ∷ [])) du
      (distinct_append (spots ys) (position l ∷ position r ∷ []) dv
      ((λ m. ⊎_elim (λ e. clash l r l r b.4 b.5 (under_itself l) (under_itself r) (sym e) next_to) (λ z. elim z [ ]) m), ((λ m. elim m [ ]), tt))
      (λ p m w. let y = inner_below r rest b.5 p m in
      ⊎_elim (λ e. clash l r l y.0 b.4 b.5 (under_itself l) y.1 (e ∙ sym y.2) next_to) (λ w. ⊎_elim (λ e. absurd (omega (arith, y.3, y.2, e))) (λ z. elim z [ ]) w) w))
      (λ p m w. let x = inner_below l ds b.4 p m in ⊎_elim
      (λ w. let y = inner_below r rest b.5 p w in clash l r x.0 y.0 b.4 b.5 x.1 y.1 (x.2 ∙ sym y.2) next_to)
      (λ w. ⊎_elim (λ e. absurd (omega (arith, x.3, x.2, e))) (λ w. ⊎_elim (λ e. clash l r x.0 r b.4 b.5 x.1 (under_itself r) (x.2 ∙ sym e) next_to) (λ z. elim z [ ]) w) w)
      (member_split (spots ys) (position l ∷ position r ∷ []) p w))))
      (λ _. tt)

  -- a position of a node under one of some trees
  Of : List Tree → ℕ → Type 0
  Of ts p = (t : Tree) × Member ts t × ((u : Tree) × IsUnder u t × (position u ≡ p))

  over_of : (ts : List Tree) (ds : List D) → AllByRecursion (IsBuilt ns) ts → (p : ℕ) → Member (spots (over_pairs h c Y ts ds)) p → Of ts p
  unfolding Of Below
  over_of [] ds b p m = elim m [ ]
  over_of (t ∷ ts) ds b p m = let xs = inner_pairs h c Y t ds in let rest = over_pairs h c Y ts (drop (length (siblings c t)) ds) in
      let v = over_of ts (drop (length (siblings c t)) ds) b.1 p in
      ⊎_elim (λ w. let y = inner_below t ds b.0 p w in (t, inl refl, (y.0, y.1, y.2)))
      (λ w. ⊎_elim (λ e. (t, inl refl, (t, under_itself t, e))) (λ w. let y = v w in (y.0, inr y.1, y.2)) w)
      (member_split (spots xs) (position t ∷ spots rest) p (subst (λ z. Member z p) (map-append (λ (x : ℕ × D). x.0) xs ((position t, value h (tree_claim h c Y t ds)) ∷ rest)) m))

  single_of : (ts : List Tree) (ds : List D) (p : ℕ) → Member (spots (single_pairs h ts ds)) p → Of ts p
  unfolding Of
  single_of [] ds p m = elim m [ ]
  single_of (t ∷ ts) ds p (inl e) = (t, inl refl, (t, under_itself t, e))
  single_of (t ∷ ts) ds p (inr m) = let y = single_of ts (drop 1 ds) p m in (y.0, inr y.1, y.2)

  -- trees in order, with gaps
  abbrev Ordered : List Tree → Type 0
  Ordered [] = Unit {0}
  Ordered (t ∷ ts) = ((u : Tree) → Member ts u → end_leaf t ≤ first_leaf u) × Ordered ts

  over_once : (ts : List Tree) (ds : List D) → AllByRecursion (IsBuilt ns) ts → Ordered ts → Distinct (spots (over_pairs h c Y ts ds))
  unfolding Of Below
  over_once [] ds b o = tt
  over_once (t ∷ ts) ds b o = let xs = inner_pairs h c Y t ds in let rest = over_pairs h c Y ts (drop (length (siblings c t)) ds) in
      subst Distinct (sym (map-append (λ (x : ℕ × D). x.0) xs ((position t, value h (tree_claim h c Y t ds)) ∷ rest)))
      (distinct_append (spots xs) (position t ∷ spots rest) (inner_once t ds b.0) (
        (λ m. let y = over_of ts (drop (length (siblings c t)) ds) b.1 (position t) m in
            clash t y.0 t y.2.0 b.0 (all_member (IsBuilt ns) ts y.0 b.1 y.1) (under_itself t) y.2.1 (sym y.2.2) (o.0 y.0 y.1)),
        over_once ts (drop (length (siblings c t)) ds) b.1 o.1,
      )
      (λ p m w. let x = inner_below t ds b.0 p m in ⊎_elim (λ e. absurd (omega (arith, x.3, x.2, e)))
      (λ w. let y = over_of ts (drop (length (siblings c t)) ds) b.1 p w in clash t y.0 x.0 y.2.0 b.0 (all_member (IsBuilt ns) ts y.0 b.1 y.1) x.1 y.2.1 (x.2 ∙ sym y.2.2) (o.0 y.0 y.1)) w))

  single_once : (ts : List Tree) (ds : List D) → AllByRecursion (IsBuilt ns) ts → Ordered ts → Distinct (spots (single_pairs h ts ds))
  unfolding Of
  single_once [] ds b o = tt
  single_once (t ∷ ts) ds b o = (
    (λ m. let y = single_of ts (drop 1 ds) (position t) m in
        clash t y.0 t y.2.0 b.0 (all_member (IsBuilt ns) ts y.0 b.1 y.1) (under_itself t) y.2.1 (sym y.2.2) (o.0 y.0 y.1)),
    single_once ts (drop 1 ds) b.1 o.1,
  )

  spans_ordered : (o n : ℕ) (ts : List Tree) → Spans o n ts → Ordered ts
  spans_ordered o n [] k = tt
  spans_ordered o n (t ∷ ts) k = ((λ u m. omega (arith, k.0, spans_first (o + width t) n ts u k.1 m)), spans_ordered (o + width t) n ts k.1)

  -- parts of a list in order
  Sub : List Tree → List Tree → Type 0
  Sub us ts = (u : Tree) → Member us u → Member ts u

  ordered_drop : (n : ℕ) (ts : List Tree) → Ordered ts → Ordered (drop n ts)
  ordered_drop zero ts o = o
  ordered_drop (suc n) [] o = tt
  ordered_drop (suc n) (t ∷ ts) o = ordered_drop n ts o.1

  take_member : (n : ℕ) (ts : List Tree) (u : Tree) → Member (take n ts) u → Member ts u
  take_member zero ts u m = elim m [ ]
  take_member (suc n) [] u m = elim m [ ]
  take_member (suc n) (t ∷ ts) u (inl e) = inl e
  take_member (suc n) (t ∷ ts) u (inr m) = inr (take_member n ts u m)

  drop_member : (n : ℕ) (ts : List Tree) (u : Tree) → Member (drop n ts) u → Member ts u
  drop_member zero ts u m = m
  drop_member (suc n) [] u m = elim m [ ]
  drop_member (suc n) (t ∷ ts) u m = inr (drop_member n ts u m)

  ordered_take : (n : ℕ) (ts : List Tree) → Ordered ts → Ordered (take n ts)
  ordered_take zero ts o = tt
  ordered_take (suc n) [] o = tt
  ordered_take (suc n) (t ∷ ts) o = ((λ u m. o.0 u (take_member n ts u m)), ordered_take n ts o.1)

  ordered_left : (xs ys : List Tree) → Ordered (xs ++ ys) → Ordered xs
  ordered_left [] ys o = tt
  ordered_left (x ∷ xs) ys o = ((λ u m. o.0 u (member_left xs ys u m)), ordered_left xs ys o.1)

  ordered_right : (xs ys : List Tree) → Ordered (xs ++ ys) → Ordered ys
  ordered_right [] ys o = o
  ordered_right (x ∷ xs) ys o = ordered_right xs ys o.1

  ordered_across : (xs ys : List Tree) → Ordered (xs ++ ys) → (u v : Tree) → Member xs u → Member ys v → end_leaf u ≤ first_leaf v
  ordered_across [] ys o u v m w = elim m [ ]
  ordered_across (x ∷ xs) ys o u v (inl e) w = subst (λ z. end_leaf z ≤ first_leaf v) e (o.0 v (member_right xs ys v w))
  ordered_across (x ∷ xs) ys o u v (inr m) w = ordered_across xs ys o.1 u v m w

module _ {D : Type 0} (ns : List Tree) (h : Hashing D) (c : ℕ → Bool) (Y : ℕ → D) where
  ord_before : (b : Bagging) (k : ℕ) (ts : List Tree) → Ordered ns h c Y ts → Ordered ns h c Y (single_before b k ts)
  ord_before ForwardFold k ts o = tt
  ord_before BackwardFold k ts o = ordered_drop ns h c Y k ts o

  ord_after : (b : Bagging) (k met : ℕ) (ts : List Tree) → Ordered ns h c Y ts → Ordered ns h c Y (single_after b k met ts)
  ord_after ForwardFold k met ts o = o
  ord_after BackwardFold k met ts o = ordered_take ns h c Y (k - met) ts o

  in_before : (b : Bagging) (k : ℕ) (ts : List Tree) (u : Tree) → Member (single_before b k ts) u → Member ts u
  in_before ForwardFold k ts u m = elim m [ ]
  in_before BackwardFold k ts u m = drop_member ns h c Y k ts u m

  in_after : (b : Bagging) (k met : ℕ) (ts : List Tree) (u : Tree) → Member (single_after b k met ts) u → Member ts u
  in_after ForwardFold k met ts u m = m
  in_after BackwardFold k met ts u m = take_member ns h c Y (k - met) ts u m

  all_once : (b : Bagging) (k : ℕ) (before over after : List Tree) (ds es fs : List D) → AllByRecursion (IsBuilt ns) before
      → AllByRecursion (IsBuilt ns) over → AllByRecursion (IsBuilt ns) after → Ordered ns h c Y (before ++ (over ++ after))
      → Distinct (map (λ (x : ℕ × D). x.0) (single_pairs h (single_before b k before) ds ++ (over_pairs h c Y over es ++ single_pairs h (single_after b k (length before + length over) after) fs)))
  unfolding Of
  all_once b k before over after ds es fs hb ho ha o =
      let met = length before + length over in
      let one = single_pairs h (single_before b k before) ds in
      let two = over_pairs h c Y over es in
      let three = single_pairs h (single_after b k met after) fs in
      let o2 = ordered_right ns h c Y before (over ++ after) o in
      let b1 = all_single_before (IsBuilt ns) b k before hb in
      let b3 = all_single_after (IsBuilt ns) b k met after ha in
      subst Distinct (sym (map-append (λ (x : ℕ × D). x.0) one (two ++ three) ∙ ap (λ z. map (λ (x : ℕ × D). x.0) one ++ z) (map-append (λ (x : ℕ × D). x.0) two three)))
      (distinct_append (map (λ (x : ℕ × D). x.0) one) _ (single_once ns h c Y (single_before b k before) ds b1 (ord_before b k before (ordered_left ns h c Y before (over ++ after) o)))
      (distinct_append (map (λ (x : ℕ × D). x.0) two) (map (λ (x : ℕ × D). x.0) three) (over_once ns h c Y over es ho (ordered_left ns h c Y over after o2))
      (single_once ns h c Y (single_after b k met after) fs b3 (ord_after b k met after (ordered_right ns h c Y over after o2)))
      (λ p m w. let x = over_of ns h c Y over es ho p m in let y = single_of ns h c Y (single_after b k met after) fs p w in let ym = in_after b k met after y.0 y.1 in
      clash ns h c Y x.0 y.0 x.2.0 y.2.0 (all_member (IsBuilt ns) over x.0 ho x.1) (all_member (IsBuilt ns) after y.0 ha ym) x.2.1 y.2.1
      (x.2.2 ∙ sym y.2.2) (ordered_across ns h c Y over after o2 x.0 y.0 x.1 ym)))
      (λ p m w. let x = single_of ns h c Y (single_before b k before) ds p m in let xm = in_before b k before x.0 x.1 in
      ⊎_elim
      (λ w. let y = over_of ns h c Y over es ho p w in
      clash ns h c Y x.0 y.0 x.2.0 y.2.0 (all_member (IsBuilt ns) before x.0 hb xm) (all_member (IsBuilt ns) over y.0 ho y.1) x.2.1 y.2.1
      (x.2.2 ∙ sym y.2.2) (ordered_across ns h c Y before (over ++ after) o x.0 y.0 xm (member_left over after y.0 y.1)))
      (λ w. let y = single_of ns h c Y (single_after b k met after) fs p w in let ym = in_after b k met after y.0 y.1 in
      clash ns h c Y x.0 y.0 x.2.0 y.2.0 (all_member (IsBuilt ns) before x.0 hb xm) (all_member (IsBuilt ns) after y.0 ha ym) x.2.1 y.2.1
      (x.2.2 ∙ sym y.2.2) (ordered_across ns h c Y before (over ++ after) o x.0 y.0 xm (member_right over after y.0 ym)))
      (member_split (map (λ (x : ℕ × D). x.0) two) (map (λ (x : ℕ × D). x.0) three) p w)))

pub extracts_once : {D : Type 0} → ExtractsOnce D
extracts_once s r l m =
    let ts = peaks_of s.rule r.leaves in
    let ns = (forest s.rule r.leaves).nodes in
    let c = in_range r.start (end_of r) in
    let Y = leaf_given s.hashing r in
    let built = peaks_built s.rule r.leaves in
    let o = subst (Ordered ns s.hashing c Y) (groups r.start (end_of r) 0 r.leaves ts (omega (arith, l)) (peaks_spans s.rule r.leaves))
    (spans_ordered ns s.hashing c Y 0 r.leaves ts (peaks_spans s.rule r.leaves)) in
    all_once ns s.hashing c Y s.bagging r.inactive (wholly_before r.start ts) (overlapping r.start (end_of r) ts) (wholly_after (end_of r) ts) _ _ _
    (all_filter _ _ ts built) (all_filter _ _ ts built) (all_filter _ _ ts built) o
