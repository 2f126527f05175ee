-- The digests that an accepted range input has for the parts of the root, by numbers of peaks and by the digests of nodes.
use Rattle.std.proofs.Common.{◌≡◌, ℕ, ◌+◌, ◌-◌, ◌<◌, ◌≤◌, Bool, cond, List, [], ◌∷◌, ◌++◌, length, map, take, drop, min, inl, inr, refl, ap, ap₂, sym, ◌∙◌, subst, arith, eq-eqb, ne_eqb, Some}
use Rattle.std.proofs.lemmas.List.{length-take}
use Rattle.std.specs.Option.{unwrap_or}
use Rattle.merkle_base.specs.Hashing.{Hashing}
use Rattle.merkle_base.specs.Places.{peaks_of, wholly_before}
use Rattle.merkle_base.specs.Scheme.{Scheme}
use Rattle.merkle_base.specs.Table.{digest_for}
use Rattle.merkle_base.specs.Tree.{Tree, position}
use Rattle.merkle_base.specs.declared.family.Bagging.{Bagging}
use Rattle.merkle_base.specs.declared.family.Bagging.TheVariants.{ForwardFold, BackwardFold}
use Rattle.merkle_base.proofs.PeakLists.{peaks_spans}
use Rattle.merkle_hasher.specs.Subtrees.{subtree_of}
use Rattle.merkle_hasher.specs.declared.subtree.Subtree.{Subtree}
use Rattle.merkle_root_theory.specs.Check.{RangeInput, chosen, leaf_given}
use Rattle.merkle_root_theory.specs.Claim.{tree_claim}
use Rattle.merkle_root_theory.specs.Collision.{Member}
use Rattle.merkle_root_theory.specs.Expression.{value}
use Rattle.merkle_root_theory.specs.Extract.{inner_pairs, over_pairs, single_pairs, extracted}
use Rattle.merkle_root_theory.specs.Layouts.{count_before, count_after}
use Rattle.merkle_root_theory.specs.Outside.{fold_all, folded_prefix, single_before, single_after, folded_suffix}
use Rattle.merkle_root_theory.specs.Plan.{siblings}
use Rattle.merkle_root_theory.specs.Range.{end_of, overlapping, wholly_after}
use Rattle.merkle_root_theory.specs.Walk.{peak_values}
use Rattle.merkle_root_theory.proofs.Collisions.{member_left, member_right}
use Rattle.merkle_root_theory.proofs.LayoutCounts.{length-fold_all, length-bag_all, length-single_before, length-layout}
use Rattle.merkle_root_theory.proofs.PeakGroups.{groups}
use Rattle.merkle_claim_theory.specs.Order.{Distinct}
use Rattle.merkle_claim_theory.proofs.ExtractedPositionsDistinct.{extracts_once}
use Rattle.merkle_claim_theory.proofs.PlacesOnce.{member_map}

-- ---- pairs by position
module _ {D : Type 0} where
  told_once : (xs : List (ℕ × D)) → Distinct (map (λ x. x.0) xs) → (p : ℕ) (d : D) → Member xs (p, d) → digest_for (map (λ x. x.0) xs) (map (λ x. x.1) xs) p ≡ Some d
  told_once [] u p d m = elim m [ ]
  told_once (x ∷ xs) u p d (inl e) =
      ap (λ z. cond z (Some x.1) (digest_for (map (λ x. x.0) xs) (map (λ x. x.1) xs) p)) (eq-eqb x.0 p (ap (λ y. y.0) e)) ∙ ap (λ y. Some y.1) e
  told_once (x ∷ xs) u p d (inr m) =
      let other = λ (e : x.0 ≡ p). u.0 (subst (Member (map (λ x. x.0) xs)) (sym e) (member_map (λ (y : ℕ × D). y.0) xs (p, d) m)) in
      ap (λ z. cond z (Some x.1) (digest_for (map (λ x. x.0) xs) (map (λ x. x.1) xs) p)) (ne_eqb x.0 p other) ∙ told_once xs u.1 p d m

  -- each extracted pair is found by its position
  pub node_told : (s : Scheme D) (r : RangeInput D) → 0 < length r.elements → end_of r ≤ r.leaves → (none : D) (p : ℕ) (d : D) → Member (extracted s r) (p, d)
      → unwrap_or (digest_for (map (λ x. x.0) (extracted s r)) (map (λ x. x.1) (extracted s r)) p) none ≡ d
  node_told s r some within none p d m = ap (λ o. unwrap_or o none) (told_once (extracted s r) (extracts_once s r some within) p d m)

  -- ---- the peaks over the range
  module _ (h : Hashing D) (c : ℕ → Bool) (X : ℕ → D) (f : ℕ → D) where
    over_values : (ts : List Tree) (ds : List D) → ((p : ℕ) (d : D) → Member (over_pairs h c X ts ds) (p, d) → f p ≡ d) → map (λ t. f (position t)) ts ≡ peak_values h c X ts ds
    over_values [] ds w = refl
    over_values (t ∷ ts) ds w =
        let x = value h (tree_claim h c X t ds) in
        let more = over_pairs h c X ts (drop (length (siblings c t)) ds) in
        ap₂ (λ y ys. y ∷ ys) (w (position t) x (member_right (inner_pairs h c X t ds) ((position t, x) ∷ more) (position t, x) (inl refl)))
        (over_values ts (drop (length (siblings c t)) ds) (λ p d m. w p d (member_right (inner_pairs h c X t ds) ((position t, x) ∷ more) (p, d) (inr m))))

between : {A : Type 0} (g : Tree → A) (xs ys zs : List Tree) → take (length ys) (drop (length xs) (map g (xs ++ (ys ++ zs)))) ≡ map g ys
between g [] [] zs = refl
between g [] (y ∷ ys) zs = ap (λ l. g y ∷ l) (between g [] ys zs)
between g (x ∷ xs) ys zs = between g xs ys zs

at_positions : (F : Type 0) {D : Type 0} (f : ℕ → D) (ts : List Tree) → map (λ (q : Subtree F). f q.position) (map subtree_of ts) ≡ map (λ t. f (position t)) ts
at_positions F f [] = refl
at_positions F f (t ∷ ts) = ap (λ l. f (position t) ∷ l) (at_positions F f ts)

module _ {D : Type 0} (s : Scheme D) (r : RangeInput D) (some : 0 < length r.elements) where
  abbrev ts : List Tree
  ts = peaks_of s.rule r.leaves

  abbrev before : List Tree
  before = wholly_before r.start ts

  abbrev over : List Tree
  over = overlapping r.start (end_of r) ts

  abbrev after : List Tree
  after = wholly_after (end_of r) ts

  abbrev met : ℕ
  met = length before + length over

  abbrev i : ℕ
  i = count_before s.bagging r.inactive before

  abbrev j : ℕ
  j = count_after s.bagging r.inactive met after

  split : ts ≡ before ++ (over ++ after)
  split = groups r.start (end_of r) 0 r.leaves ts (omega (arith, some)) (peaks_spans s.rule r.leaves)

  pub over_told : (f : ℕ → D) → ((p : ℕ) (d : D) → Member (extracted s r) (p, d) → f p ≡ d)
      → map (λ t. f (position t)) over ≡ peak_values s.hashing (chosen r) (leaf_given s.hashing r) over (drop (i + j) r.digests)
  over_told f is =
      over_values s.hashing (chosen r) (leaf_given s.hashing r) f over (drop (i + j) r.digests) (λ p d m.
      let n = length-layout s.bagging r.inactive before over after in
      let folded = length (fold_all (folded_prefix s.bagging r.inactive before)) in
      let single = single_before s.bagging r.inactive before in
      is p d (member_right (single_pairs s.hashing single (drop folded r.digests)) _ (p, d)
      (member_left _ (single_pairs s.hashing (single_after s.bagging r.inactive met after) (drop (length single) (drop folded r.digests))) (p, d)
      (subst (λ k. Member (over_pairs s.hashing (chosen r) (leaf_given s.hashing r) over (drop k r.digests)) (p, d)) (sym n) m))))

  -- the given ones before, those of the overlapping peaks, and the given ones after
  pub claim_digests : {F : Type 0} (f : ℕ → D) → ((p : ℕ) (d : D) → Member (extracted s r) (p, d) → f p ≡ d)
      → (folded alone count single suffix : ℕ) → folded ≡ length (folded_prefix s.bagging r.inactive (wholly_before r.start (peaks_of s.rule r.leaves)))
      → alone ≡ length (single_before s.bagging r.inactive (wholly_before r.start (peaks_of s.rule r.leaves)))
      → count ≡ length (overlapping r.start (end_of r) (peaks_of s.rule r.leaves))
      → single ≡ length (single_after s.bagging r.inactive
      (length (wholly_before r.start (peaks_of s.rule r.leaves)) + length (overlapping r.start (end_of r) (peaks_of s.rule r.leaves)))
      (wholly_after (end_of r) (peaks_of s.rule r.leaves)))
      → suffix ≡ length (folded_suffix s.bagging r.inactive
      (length (wholly_before r.start (peaks_of s.rule r.leaves)) + length (overlapping r.start (end_of r) (peaks_of s.rule r.leaves)))
      (wholly_after (end_of r) (peaks_of s.rule r.leaves)))
      → (subs : List (Subtree F)) → subs ≡ map subtree_of (peaks_of s.rule r.leaves)
      → take (min folded 1 + alone) r.digests
      ++ (map (λ (q : Subtree F). f q.position) (take count (drop (folded + alone) subs)) ++ take (single + min suffix 1) (drop (min folded 1 + alone) r.digests))
      ≡ take i r.digests ++ (peak_values s.hashing (chosen r) (leaf_given s.hashing r) over (drop (i + j) r.digests) ++ take j (drop i r.digests))
  claim_digests {F = F} f is folded alone count single suffix e1 e2 e3 e4 e5 subs e6 =
      let front : min folded 1 + alone ≡ i = omega (arith, e1, e2, length-fold_all (folded_prefix s.bagging r.inactive before)) in
      let back : single + min suffix 1 ≡ j = omega (arith, e4, e5, length-bag_all (met + (r.inactive - met)) (folded_suffix s.bagging r.inactive met after)) in
      let whole : folded + alone ≡ length before = omega (arith, e1, e2, length-single_before s.bagging r.inactive before, prefix_within s.bagging r.inactive before) in
      let these : take count (drop (folded + alone) subs) ≡ map subtree_of over =
      ap₂ (λ m n. take m (drop n subs)) e3 whole ∙ ap (λ l. take (length over) (drop (length before) l)) (e6 ∙ ap (map subtree_of) split) ∙ between subtree_of before over after in
      let middle : map (λ (q : Subtree F). f q.position) (take count (drop (folded + alone) subs)) ≡ peak_values s.hashing (chosen r) (leaf_given s.hashing r) over (drop (i + j) r.digests) =
      ap (map (λ (q : Subtree F). f q.position)) these ∙ at_positions F f over ∙ over_told f is in
      ap₂ (λ l m. l ++ m) (ap (λ m. take m r.digests) front) (ap₂ (λ l m. l ++ m) middle (ap₂ (λ m n. take m (drop n r.digests)) back front))
    where
      prefix_within : (bagging : Bagging) (k : ℕ) (us : List Tree) → length (folded_prefix bagging k us) ≤ length us
      prefix_within ForwardFold k us = omega arith
      prefix_within BackwardFold k us = omega (arith, length-take k us)
