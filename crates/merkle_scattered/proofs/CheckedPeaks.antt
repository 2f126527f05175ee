-- The peaks of a list as a check of scattered leaves represents them, one after another.
use Rattle.std.proofs.Common.{◌≡◌, ℕ, cond, ◌+◌, List, [], ◌∷◌, ◌++◌, map, drop, refl, ap, ap₂, sym, ◌∙◌, arith}
use Rattle.std.proofs.lemmas.Bool.{le-ltb}
use Rattle.std.proofs.lemmas.List.{map-append}
use Rattle.merkle_base.specs.Tree.{Tree, first_leaf, end_leaf}
use Rattle.merkle_hasher.specs.declared.subtree.Subtree.{Subtree}
use Rattle.merkle_hasher.specs.Subtrees.{subtree_of}
use Rattle.merkle_scattered.specs.declared.checked_node.CheckedNode.{CheckedNode}
use Rattle.merkle_scattered.specs.Confirmed.{located_before, checked_node}
use Rattle.merkle_scattered.proofs.LocatedIndices.{located_before-drop}

module _ {F D : Type 0} (es : List (ℕ × D)) where
  -- the peaks so far are listed, and the elements before the leaf after them are counted
  abbrev pub ListsPeaks : List (CheckedNode F) → ℕ → ℕ → List Tree → Type 0
  ListsPeaks ns from begin done = (ns ≡ map (checked_node es) done) × (from ≡ located_before begin es)

  pub list_begins : (ns : List (CheckedNode F)) (from : ℕ) → ns ≡ [] → from ≡ 0 → ListsPeaks ns from 0 []
  list_begins ns from e f = (e, f ∙ sym (none_first es))
    where
      none_first : (es : List (ℕ × D)) → located_before 0 es ≡ 0
      none_first [] = refl
      none_first (x ∷ xs) = ap (λ b. cond b (1 + located_before 0 xs) 0) (le-ltb x.0 0 (omega arith))

  pub list_more : (sub : Subtree F) (t : Tree) → sub ≡ subtree_of t → (from to end : ℕ) (left : List (ℕ × D)) → left ≡ drop from es
      → end ≡ end_leaf t → to ≡ from + located_before end left
      → (ns new : List (CheckedNode F)) → new ≡ ns ++ record { subtree = sub; from = from; to = to } ∷ []
      → (done : List Tree) → ListsPeaks ns from (first_leaf t) done → ListsPeaks new to (end_leaf t) (done ++ t ∷ [])
  list_more sub t is from to end left left_is end_is to_is ns new pushed done u =
      let rest : to ≡ located_before (end_leaf t) es =
      to_is ∙ ap₂ (λ (n : ℕ) z. from + located_before n z) end_is left_is ∙ ap (λ n. n + located_before (end_leaf t) (drop n es)) u.1
      ∙ sym (located_before-drop (first_leaf t) (end_leaf t) (omega arith) es) in
      let make : Subtree F → ℕ → ℕ → CheckedNode F = λ s i j. record { subtree = s; from = i; to = j } in (
        pushed ∙ ap₂ (λ xs x. xs ++ x ∷ []) u.0 (ap (λ s. make s from to) is ∙ ap₂ (λ i j. make (subtree_of t) i j) u.1 rest) ∙ sym (map-append (checked_node es) done (t ∷ [])),
        rest,
      )
