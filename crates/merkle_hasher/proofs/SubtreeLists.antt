-- The peaks by position and height, and as subtrees.
use Rattle.std.proofs.Common.{◌≡◌, ℕ, ◌+◌, ◌^◌, ◌≤◌, List, [], ◌∷◌, map, Some, slice_get, arith, refl, ap, ap₂, sym, ◌∙◌, subst}
use Rattle.merkle_base.specs.Forest.{forest}
use Rattle.merkle_base.specs.Heights.{IsLawful}
use Rattle.merkle_base.specs.Places.{peaks_of, placed}
use Rattle.merkle_base.specs.Tree.{Tree, position, height, first_leaf, width}
use Rattle.merkle_base.proofs.PeakLists.{Spans, peaks_spans}
use Rattle.merkle_hasher.specs.declared.subtree.Subtree.{Subtree}
use Rattle.merkle_hasher.specs.Subtrees.{IsNodeOf, AreNodes, AreNodesFrom, subtree_of, subtrees_from}
use Rattle.merkle_hasher.proofs.PeakNodes.{peaks_at}
use Rattle.merkle_hasher.proofs.Spans.{count_is}

module _ (rule : List ℕ → List ℕ) (m max_nodes : ℕ) (law : IsLawful rule m max_nodes) where
  -- the leaves of a node are as many as its height says
  ends : (s : ℕ) (t : Tree) → slice_get (forest rule m).nodes (position t) ≡ Some t → s + 2 ^ height t ≡ s + width t
  ends s t at =
      let wide : width t ≡ 2 ^ height t = count_is rule m max_nodes law (position t) (height t) (first_leaf t) t (record { at = at; height_is = refl; first_is = refl }) in
      omega (arith, wide)

  -- nodes that follow one another from location s on
  nodes_from-placed : (s n : ℕ) (ts : List Tree) → Spans s n ts → AreNodes rule m ts → AreNodesFrom rule m s (map placed ts)
  nodes_from-placed s n [] c w = tt
  nodes_from-placed s n (t ∷ ts) c w = (
    (t, record { at = w.0; height_is = refl; first_is = c.0 }),
    subst (λ (q : ℕ). AreNodesFrom rule m q (map placed ts)) (sym (ends s t w.0)) (nodes_from-placed (s + width t) n ts c.1 w.1),
  )

  subtrees_from-placed : {F : Type 0} (s n : ℕ) (ts : List Tree) → Spans s n ts → AreNodes rule m ts → subtrees_from {F = F} s (map placed ts) ≡ map subtree_of ts
  subtrees_from-placed s n [] c w = refl
  subtrees_from-placed {F = F} s n (t ∷ ts) c w =
      let others : subtrees_from {F = F} (s + 2 ^ height t) (map placed ts) ≡ map subtree_of ts =
      ap (λ (q : ℕ). subtrees_from {F = F} q (map placed ts)) (ends s t w.0) ∙ subtrees_from-placed (s + width t) n ts c.1 w.1 in
      let make : ℕ → List (Subtree F) → List (Subtree F) = λ q us. record { position = position t; height = height t; first_leaf = q } ∷ us in
      ap₂ make (sym c.0) others

  -- the peaks of n leaves
  module _ (n s : ℕ) (left : List (ℕ × ℕ)) (within : n ≤ m) (zero_is : s ≡ 0) (left_is : left ≡ map placed (peaks_of rule n)) where
    pub peaks_stand : AreNodesFrom rule m s left
    peaks_stand =
        subst (λ (q : ℕ). AreNodesFrom rule m q left) (sym zero_is)
        (subst (λ (ps : List (ℕ × ℕ)). AreNodesFrom rule m 0 ps) (sym left_is) (nodes_from-placed 0 n (peaks_of rule n) (peaks_spans rule n) (peaks_at rule m n within)))

    pub peaks_listed : {F : Type 0} → subtrees_from {F = F} s left ≡ map subtree_of (peaks_of rule n)
    peaks_listed {F = F} = ap₂ (subtrees_from {F = F}) zero_is left_is ∙ subtrees_from-placed 0 n (peaks_of rule n) (peaks_spans rule n) (peaks_at rule m n within)

  -- the first of some peaks, at p and of height h, and the others, which begin where its leaves end
  module _ (s p h : ℕ) (left more : List (ℕ × ℕ)) (e : left ≡ (p, h) ∷ more) (w : AreNodesFrom rule m s left) where
    stand : AreNodesFrom rule m s ((p, h) ∷ more)
    stand = subst (λ (ps : List (ℕ × ℕ)). AreNodesFrom rule m s ps) e w

    pub first_node : (t : Tree) × IsNodeOf rule m p h s t
    first_node = stand.0

    module _ (end : ℕ) (end_is : (t : Tree) → IsNodeOf rule m p h s t → end ≡ first_leaf t + width t) where
      after : s + 2 ^ h ≡ end
      after = let (t, v) = first_node in omega (arith, end_is t v, v.first_is, count_is rule m max_nodes law p h s t v)

      pub others_stand : AreNodesFrom rule m end more
      others_stand = subst (λ (q : ℕ). AreNodesFrom rule m q more) after stand.1

      pub first_and_others : {F : Type 0} → subtrees_from {F = F} s left ≡ record { position = p; height = h; first_leaf = s } ∷ subtrees_from end more
      first_and_others {F = F} =
          let first : Subtree F = record { position = p; height = h; first_leaf = s } in
          ap (subtrees_from s) e ∙ ap (λ (q : ℕ). first ∷ subtrees_from q more) after
