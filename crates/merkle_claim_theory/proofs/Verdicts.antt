-- Verdicts, and that the check's test decides.
use Rattle.std.proofs.Common.{◌≡◌, ℕ, nat_le, nat_eq, ◌+◌, ◌≤◌, List, [], ◌∷◌, ◌⊎◌, inl, inr, refl, ap, sym, ◌∙◌, subst, ⊎_elim, arith, length, flat_map, Some}
use Rattle.std.proofs.Common.{MatchOption, slice_get, Decides, le-leb, leb-true}
use Rattle.std.specs.List.{AllByRecursion}
use Rattle.std.proofs.lemmas.Bool.{eqb-true, eq-eqb}
use Rattle.std.proofs.lemmas.Bool.Decides.{Decides-and, Decides-or, Decides-like, Decides-ltb, Decides-eqb}
use Rattle.std.proofs.lemmas.List.{nil_from_length}
use Rattle.merkle_base.specs.Tree.{Tree, leaf, join, position, first_leaf, width, IsUnder, IsBuilt, end_leaf}
use Rattle.merkle_base.specs.Forest.{forest}
use Rattle.merkle_base.proofs.Growth.{built_at}
use Rattle.merkle_base.proofs.Nodes.{first_under, end_under, width_pos, built_under}
use Rattle.merkle_base.proofs.Paths.{position_under}
use Rattle.merkle_root_theory.specs.Expression.{Place, Node, Input}
use Rattle.merkle_base.specs.Hashing.{Hashing, EqDecides}
use Rattle.merkle_root_theory.specs.Collision.{Member, Collision, Collides}
use Rattle.merkle_claim_theory.specs.FirstCollision.{first_collision, IsFirstCollision}
use Rattle.merkle_claim_theory.specs.Order.{node_places, Distinct}
use Rattle.merkle_base.specs.Scheme.{Scheme}
use Rattle.merkle_base.specs.Places.{peaks_of}
use Rattle.merkle_root_theory.specs.Range.{leaf_of}
use Rattle.merkle_claim_theory.specs.Verdict.{Verdicts, CheckDecides}
use Rattle.merkle_claim_theory.proofs.HonestClaims.{member_split}
use Rattle.merkle_claim_theory.proofs.PlacesOnce.{distinct_append}
use Rattle.merkle_claim_theory.proofs.FirstCollisions.{finds_first}
use Rattle.merkle_claim_theory.proofs.Audits.{none_shows, no_collision}
use Rattle.merkle_claim_theory.proofs.RangeNoCollision.{honest_has_no_collision}
use Rattle.merkle_base.proofs.PeakLists.{Spans, peaks_built, peaks_spans}
use Rattle.merkle_root_theory.proofs.RangeChecks.{accepted_is_honest, old_honest}
use Rattle.merkle_claim_theory.proofs.Multiproofs.{accepted_multi_is_honest, all_member}
use Rattle.merkle_claim_theory.proofs.PinnedChecks.{accepted_pinned_is_honest, spans_first}
use Rattle.merkle_base.proofs.Lists.{one_there}

-- ---- no node's place stands twice
node_in : (t : Tree) (x : Place) → Member (node_places t) x → (u : Tree) × IsUnder u t × (x ≡ Node (position u))
node_in (leaf p i) x m = elim m [ ]
node_in (join p l r) x (inl e) = (join p l r, inl refl, sym e)
node_in (join p l r) x (inr m) =
    ⊎_elim (λ w. let v = node_in l x w in (v.0, inr (inl v.1), v.2)) (λ w. let v = node_in r x w in (v.0, inr (inr v.1), v.2))
    (member_split (node_places l) (node_places r) x m)

nodes_in : (ts : List Tree) (x : Place) → Member (flat_map node_places ts) x → (t : Tree) × Member ts t × Member (node_places t) x
nodes_in [] x m = elim m [ ]
nodes_in (t ∷ ts) x m = ⊎_elim (λ w. (t, inl refl, w)) (λ w. let v = nodes_in ts x w in (v.0, inr v.1, v.2)) (member_split (node_places t) (flat_map node_places ts) x m)

same_number : (p q : ℕ) → Node p ≡ Node q → p ≡ q
same_number p q e = cc

module _ (ns : List Tree) where
  -- nodes under two built trees with one place are one
  under_both : (a b u v : Tree) (x : Place) → IsBuilt ns a → IsBuilt ns b → IsUnder u a → IsUnder v b → x ≡ Node (position u) → x ≡ Node (position v) → u ≡ v
  under_both a b u v x ha hb p q d e =
      one_there (subst (λ z. slice_get ns z ≡ Some u) (same_number (position u) (position v) (sym d ∙ e)) (built_at ns u (built_under ns u a p ha)))
      (built_at ns v (built_under ns v b q hb))

  pub apart_under : (a b u v : Tree) → IsBuilt ns a → IsBuilt ns b → IsUnder u a → IsUnder v b → u ≡ v → end_leaf a ≤ first_leaf b → ⊥
  apart_under a b u v ha hb p q e l = absurd (omega (arith, end_under ns u a p ha, first_under ns v b q hb, ap first_leaf e, width_pos u, l))

  distinct_tree : (t : Tree) → IsBuilt ns t → Distinct (node_places t)
  distinct_tree (leaf p i) b = tt
  distinct_tree (join p l r) b = (
    (λ m. ⊎_elim
        (λ w. let v = node_in l (Node p) w in absurd (omega (arith, same_number p (position v.0) v.2, position_under ns v.0 l v.1 b.4, b.1)))
        (λ w. let v = node_in r (Node p) w in absurd (omega (arith, same_number p (position v.0) v.2, position_under ns v.0 r v.1 b.5, b.2)))
        (member_split (node_places l) (node_places r) (Node p) m)),
    distinct_append (node_places l) (node_places r) (distinct_tree l b.4) (distinct_tree r b.5) (λ x m w.
        let u = node_in l x m in let v = node_in r x w in
        apart_under l r u.0 v.0 b.4 b.5 u.1 v.1 (under_both l r u.0 v.0 x b.4 b.5 u.1 v.1 u.2 v.2) (omega (arith, b.3))),
  )

  distinct_peaks : (o n : ℕ) (ts : List Tree) → Spans o n ts → AllByRecursion (IsBuilt ns) ts → Distinct (flat_map node_places ts)
  distinct_peaks o n [] c h = tt
  distinct_peaks o n (t ∷ ts) c h = distinct_append (node_places t) (flat_map node_places ts) (distinct_tree t h.0) (distinct_peaks (o + width t) n ts c.1 h.1) (λ x m w.
      let u = node_in t x m in let y = nodes_in ts x w in let v = node_in y.0 x y.2 in let by = all_member (IsBuilt ns) ts y.0 h.1 y.1 in
      apart_under t y.0 u.0 v.0 h.0 by u.1 v.1 (under_both t y.0 u.0 v.0 x h.0 by u.1 v.1 u.2 v.2) (omega (arith, c.0, spans_first (o + width t) n ts y.0 c.1 y.1)))

pub distinct_nodes : {D : Type 0} (s : Scheme D) (n : ℕ) → Distinct (flat_map node_places (peaks_of s.rule n))
distinct_nodes s n = distinct_peaks (forest s.rule n).nodes 0 n (peaks_of s.rule n) (peaks_spans s.rule n) (peaks_built s.rule n)

-- ---- verdicts
verdict : {D P : Type 0} (h : Hashing D) → EqDecides h → (xs ys : List (Input D)) → P ⊎ ((c : Collision D) × Collides h xs ys c)
    → MatchOption (first_collision h xs ys) P (λ c. IsFirstCollision h xs ys c)
verdict h laws xs ys w = none_shows (λ c. IsFirstCollision h xs ys c) (first_collision h xs ys) (no_collision h xs ys w) (finds_first h laws xs ys)

pub verdicts : {D : Type 0} → Verdicts D
verdicts = record {
  range = λ s size max_nodes sound xs k few low r ok. verdict s.hashing sound.laws _ _ (accepted_is_honest s size max_nodes sound xs k few low r ok);
  multi = λ s size max_nodes sound xs k few low r ok. verdict s.hashing sound.laws _ _ (accepted_multi_is_honest s size max_nodes sound xs k few low r ok);
  pinned = λ s size max_nodes sound xs k few low r pins ok. verdict s.hashing sound.laws _ _ (accepted_pinned_is_honest s size max_nodes sound xs k few low r pins ok);
  clear = λ s laws xs k r honest. honest_has_no_collision s laws (leaf_of s.hashing xs) (length xs) k (distinct_nodes s (length xs)) r (old_honest s xs k r honest);
}

-- ---- the test
le_decides : (m n : ℕ) → Decides (nat_le m n) (m ≤ n)
le_decides m n = (leb-true m n, le-leb m n)

empty_decides : {A : Type 0} (xs : List A) → Decides (nat_eq (length xs) 0) (xs ≡ [])
empty_decides xs = ((λ e. nil_from_length xs (eqb-true (length xs) 0 e)), (λ e. eq-eqb (length xs) 0 (ap length e)))

pub check_decides : {D : Type 0} → CheckDecides D
check_decides s laws r root = Decides-or _ _
    (Decides-like _ (λ w. record {
      nonempty = w.0;
      within = w.1.0;
      leaves = w.1.1.0;
      inactive = w.1.1.1.0;
      counts = w.1.1.1.1.0;
      root_is = w.1.1.1.1.1;
    }) (λ w. (w.nonempty, (w.within, (w.leaves, (w.inactive, (w.counts, w.root_is))))))
    (Decides-and _ _ (Decides-ltb _ _) (Decides-and _ _ (le_decides _ _) (Decides-and _ _ (le_decides _ _) (Decides-and _ _ (le_decides _ _) (Decides-and _ _ (Decides-eqb _ _) (laws _ _)))))))
    (Decides-like _ (λ w. (record { elements = w.0; start = w.1.0; leaves = w.1.1.0; inactive = w.1.1.1.0; digests = w.1.1.1.1.0 }, w.1.1.1.1.1))
    (λ w. (w.0.elements, (w.0.start, (w.0.leaves, (w.0.inactive, (w.0.digests, w.1))))))
    (Decides-and _ _ (empty_decides r.elements)
    (Decides-and _ _ (Decides-eqb _ _)
    (Decides-and _ _ (Decides-eqb _ _) (Decides-and _ _ (Decides-eqb _ _) (Decides-and _ _ (empty_decides r.digests) (laws _ _)))))))
