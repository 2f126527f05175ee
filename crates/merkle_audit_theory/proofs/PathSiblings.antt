-- The other children on the path to a leaf are the siblings that a proof of the leaf needs.
use Rattle.std.proofs.Common.{◌≡◌, ℕ, ◌+◌, ◌<◌, ◌≤◌, List, [], ◌∷◌, ◌++◌, map, arith, ap, sym, subst, ◌∙◌, inl, inr, ⊎_elim}
use Rattle.std.specs.List.Sorted.{IsPermutation}
use Rattle.std.proofs.lemmas.Bool.{cases_lt}
use Rattle.std.proofs.lemmas.List.{map-append}
use Rattle.std.proofs.lemmas.List.Sorted.{IsPermutation-refl, IsPermutation-sym, IsPermutation-trans, IsPermutation-cons, IsPermutation-to_front}
use Rattle.merkle_base.specs.Tree.{Tree, leaf, join, position, first_leaf, width, IsBuilt}
use Rattle.merkle_base.specs.Forest.{forest}
use Rattle.merkle_base.proofs.Nodes.{node_built}
use Rattle.merkle_leaves.specs.Path.{path}
use Rattle.merkle_leaves.proofs.PathSteps.{path_left, path_right}
use Rattle.merkle_root_theory.specs.Plan.{siblings}
use Rattle.merkle_root_theory.specs.Check.{in_range}
use Rattle.merkle_root_theory.proofs.PeakGroups.{meets_not, meets_yes}
use Rattle.merkle_root_theory.proofs.Walks.{siblings_unmet, siblings_join, siblings_inside}
use Rattle.merkle_audit_theory.specs.Siblings.{PathHasSiblings}

siblings_left : (ns : List Tree) (k p : ℕ) (l r : Tree) → IsBuilt ns (join p l r) → first_leaf l ≤ k → k < first_leaf r
    → siblings (in_range k (k + 1)) (join p l r) ≡ siblings (in_range k (k + 1)) l ++ r ∷ []
siblings_left ns k p l r h low high =
    let c = in_range k (k + 1) in
    siblings_join c p l r (meets_yes k (k + 1) ns (join p l r) h (omega (arith, low)) (omega (arith, high, h.3)) (omega arith))
    ∙ ap (λ z. siblings c l ++ z) (siblings_unmet c r (meets_not k (k + 1) ns r h.5 (inr (omega (arith, high)))))

siblings_right : (ns : List Tree) (k p : ℕ) (l r : Tree) → IsBuilt ns (join p l r) → first_leaf r ≤ k → k < first_leaf r + width r
    → siblings (in_range k (k + 1)) (join p l r) ≡ l ∷ siblings (in_range k (k + 1)) r
siblings_right ns k p l r h low high =
    let c = in_range k (k + 1) in
    siblings_join c p l r (meets_yes k (k + 1) ns (join p l r) h (omega (arith, low, h.3)) (omega (arith, high, h.3)) (omega arith))
    ∙ ap (λ z. z ++ siblings c r) (siblings_unmet c l (meets_not k (k + 1) ns l h.4 (inl (omega (arith, low, h.3)))))

abbrev others : ℕ → Tree → List ℕ
others k t = map (λ x. x.1) (path k t)

-- the path goes right: the left child is the first sibling; it goes left: the right child is the last one
beside : (ns : List Tree) (k : ℕ) (t : Tree) → IsBuilt ns t → first_leaf t ≤ k → k < first_leaf t + width t → IsPermutation (others k t) (map position (siblings (in_range k (k + 1)) t))
beside ns k (leaf p n) h low high =
    subst (λ z. IsPermutation {X = ℕ} [] (map position z))
    (sym (siblings_inside k (k + 1) ns (leaf p n) h (omega (arith, high)) (omega (arith, low)))) (IsPermutation-refl [])
beside ns k (join p l r) h low high = ⊎_elim
    (λ x.
    let e : others k (join p l r) ≡ position r ∷ others k l = ap (map (λ x. x.1)) (path_left k p l r x) in
    let f : map position (siblings (in_range k (k + 1)) (join p l r)) ≡ map position (siblings (in_range k (k + 1)) l) ++ position r ∷ [] =
    ap (map position) (siblings_left ns k p l r h low x) ∙ map-append position (siblings (in_range k (k + 1)) l) (r ∷ []) in
    rw (e, f) (IsPermutation-sym _ _
    (IsPermutation-trans _ _ _ (IsPermutation-to_front _ _)
    (IsPermutation-cons (position r) _ _ (IsPermutation-sym _ _ (beside ns k l h.4 low (omega (arith, x, h.3))))))))
    (λ x.
    let e : others k (join p l r) ≡ position l ∷ others k r = ap (map (λ x. x.1)) (path_right k p l r x) in
    let f : map position (siblings (in_range k (k + 1)) (join p l r)) ≡ position l ∷ map position (siblings (in_range k (k + 1)) r) =
    ap (map position) (siblings_right ns k p l r h x (omega (arith, high, h.3))) in
    rw (e, f) (IsPermutation-cons (position l) _ _ (beside ns k r h.5 x (omega (arith, high, h.3)))))
    (cases_lt k (first_leaf r))

pub path_has_siblings : PathHasSiblings
path_has_siblings rule n p k t at low high = beside (forest rule n).nodes k t (node_built rule n p t at) low high
