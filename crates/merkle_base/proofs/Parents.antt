-- The parents that come with a leaf.
use Rattle.std.proofs.Common.{◌≡◌, ℕ, suc, ◌+◌, ◌<◌, List, [], ◌∷◌, ◌++◌, length, map, Some, slice_get, arith, refl, ap, sym, ◌∙◌, length-append}
use Rattle.merkle_base.specs.Tree.{Tree, leaf, join, height}
use Rattle.merkle_base.specs.Forest.{forest, size}
use Rattle.merkle_base.specs.Heights.{MergesEqual, parent_heights}
use Rattle.merkle_base.specs.Places.{HasInner}
use Rattle.merkle_base.proofs.Births.{forest_born, leaf_at}
use Rattle.merkle_base.proofs.Growth.{forest_grown}
use Rattle.merkle_base.proofs.Lookup.{get_append_add, size_suc}
use Rattle.merkle_base.proofs.Nodes.{size_le}

-- the tree in the place of a height
tree_of_height : (js : List Tree) (done : List ℕ) (h : ℕ) (rest : List ℕ) → map height js ≡ done ++ h ∷ rest → (t : Tree) × (slice_get js (length done) ≡ Some t) × (height t ≡ h)
tree_of_height [] [] h rest e = absurd (cc)
tree_of_height [] (d ∷ done) h rest e = absurd (cc)
tree_of_height (t ∷ js) [] h rest e = (t, refl, cc)
tree_of_height (t ∷ js) (d ∷ done) h rest e = let r : map height js ≡ done ++ h ∷ rest = cc in tree_of_height js done h rest r

-- a node after the leaf's is merged
inner_above : (rule : List ℕ → List ℕ) (n p : ℕ) (t : Tree) → slice_get (forest rule (suc n)).nodes p ≡ Some t → size rule n < p → 0 < height t
inner_above rule n p (leaf q k) e above =
    let a = leaf_at rule (suc n) p q k e in
    let here : q ≡ p = (forest_grown rule (suc n)).placed p (leaf q k) e in
    absurd (omega (arith, above, here, a.0, size_le rule k n (omega (arith, a.1))))
inner_above rule n p (join q l r) e above = omega arith

-- the node that comes after the leaf and some parents has the next of their heights
pub parent_there : (rule : List ℕ → List ℕ) (max_leaves : ℕ) → MergesEqual rule max_leaves → (n : ℕ) → n < max_leaves
    → (done : List ℕ) (h : ℕ) (rest : List ℕ) → done ++ h ∷ rest ≡ parent_heights rule n →
    HasInner rule max_leaves (size rule n + 1 + length done) h
parent_there rule max_leaves equal n l done h rest e =
    let b = forest_born rule max_leaves equal n l in
    let k = tree_of_height b.0 done h rest (b.2 ∙ sym e) in
    let there : slice_get (forest rule (suc n)).nodes (size rule n + suc (length done)) ≡ Some k.0 =
    ap (λ (ns : List Tree). slice_get ns (size rule n + suc (length done))) b.1 ∙ get_append_add (forest rule n).nodes (leaf (size rule n) n ∷ b.0) (suc (length done)) ∙ k.1 in
    let place : size rule n + suc (length done) ≡ size rule n + 1 + length done = omega arith in
    let here : slice_get (forest rule (suc n)).nodes (size rule n + 1 + length done) ≡ Some k.0 = ap (slice_get (forest rule (suc n)).nodes) (sym place) ∙ there in
    (suc n, k.0, omega (arith, l), here, k.2, omega (arith, k.2, inner_above rule n (size rule n + 1 + length done) k.0 here (omega arith)))

-- the nodes up to a parent, within the next size
pub parents_fit : (rule : List ℕ → List ℕ) (max_leaves : ℕ) → MergesEqual rule max_leaves → (n : ℕ) → n < max_leaves → (done rest : List ℕ) → done ++ rest ≡ parent_heights rule n →
    size rule n + 1 + length done + length rest ≡ size rule (suc n)
parents_fit rule max_leaves equal n l done rest e = omega (arith, size_suc rule max_leaves equal n l, length-append done rest, ap length e)
