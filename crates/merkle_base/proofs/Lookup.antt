-- A node by its position, and the peaks by their index.
use Rattle.std.proofs.Common.{◌≡◌, ℕ, zero, suc, ◌+◌, ◌^◌, ◌<◌, ◌≤◌, List, [], ◌∷◌, ◌++◌, length, map, take, length-append, Some, slice_get, slice_index, arith, refl, sym, ap, inl, inr, ◌∙◌}
use Rattle.std.specs.List.{AllByRecursion}
use Rattle.std.proofs.lemmas.List.{length-map}
use Rattle.std.proofs.lemmas.Bool.{cases_lt}
use Rattle.merkle_base.specs.Tree.{Tree, leaf, position, height, first_leaf, IsBuilt, IsBalanced}
use Rattle.merkle_base.specs.Forest.{forest, size, Covers}
use Rattle.merkle_base.specs.Heights.{MergesEqual, peak_heights, parent_heights, weight}
use Rattle.merkle_base.specs.Laws.{IsGrown}
use Rattle.merkle_base.proofs.Growth.{forest_grown, built_at}
use Rattle.merkle_base.proofs.Nodes.{node_anywhere, end_under_one, size_step}
use Rattle.merkle_base.proofs.Balance.{heights_forest, peaks_balanced, balanced_count, node_balanced, covers_weight}
use Rattle.merkle_base.proofs.Births.{forest_born, all_get}

pub get_append_add : {A : Type 0} (xs ys : List A) (k : ℕ) → slice_get (xs ++ ys) (length xs + k) ≡ slice_get ys k
get_append_add [] ys k = (let e : 0 + k ≡ k = omega arith in ap (slice_get ys) e)
get_append_add (x ∷ xs) ys k = (let e : suc (length xs) + k ≡ suc (length xs + k) = omega arith in rw e (get_append_add xs ys k))

pub index_map : (ts : List Tree) (k : ℕ) (t : Tree) → slice_get ts k ≡ Some t → height t ≡ slice_index (map height ts) k
index_map [] k t e = absurd (cc)
index_map (x ∷ ts) zero t e = (let d : x ≡ t = cc in ap height (sym d))
index_map (x ∷ ts) (suc k) t e = index_map ts k t e

-- the size of the next forest
pub size_suc : (rule : List ℕ → List ℕ) (m : ℕ) → MergesEqual rule m → (n : ℕ) → n < m → size rule (suc n) ≡ size rule n + 1 + length (parent_heights rule n)
size_suc rule m equal n l =
    let b = forest_born rule m equal n l in
    omega (arith, ap length b.1, length-append (forest rule n).nodes (leaf (size rule n) n ∷ b.0), ap length b.2, length-map b.0 height)

-- the height of the node that comes k-th with leaf n
pub height_at : (rule : List ℕ → List ℕ) (m : ℕ) → MergesEqual rule m → (n k w : ℕ) (t : Tree) → n < m → size rule n + k < size rule (suc n)
    → slice_get (forest rule w).nodes (size rule n + k) ≡ Some t → height t ≡ slice_index (0 ∷ parent_heights rule n) k
height_at rule m equal n k w t l b e =
    let f = forest_born rule m equal n l in
    let here : slice_get (forest rule (suc n)).nodes (size rule n + k) ≡ Some t = node_anywhere rule w (suc n) (size rule n + k) t e b in
    let there : slice_get (leaf (size rule n) n ∷ f.0) k ≡ Some t = sym (get_append_add (forest rule n).nodes (leaf (size rule n) n ∷ f.0) k) ∙ (rw f.1 at here) in
    index_map (leaf (size rule n) n ∷ f.0) k t there ∙ ap (λ (hs : List ℕ). slice_index (0 ∷ hs) k) f.2

pub size_zero : (rule : List ℕ → List ℕ) → size rule 0 ≡ 0
unfolding forest
size_zero rule = refl

pub size_large : (rule : List ℕ → List ℕ) (n : ℕ) → n ≤ size rule n
size_large rule zero = omega arith
size_large rule (suc n) = omega (arith, size_large rule n, size_step rule n)

-- ---- peaks
-- a peak is a node
pub peak_node : (rule : List ℕ → List ℕ) (n i : ℕ) (t : Tree) → slice_get (forest rule n).peaks i ≡ Some t → slice_get (forest rule n).nodes (position t) ≡ Some t
peak_node rule n i t e = built_at (forest rule n).nodes t (all_get (IsBuilt (forest rule n).nodes) (forest rule n).peaks i t (forest_grown rule n).built e)

covers_at : (n i : ℕ) (ts : List Tree) (t : Tree) → Covers n ts → AllByRecursion IsBalanced ts → slice_get ts i ≡ Some t → first_leaf t + weight (take (suc i) (map height ts)) ≡ n
covers_at n i [] t c b e = absurd (cc)
covers_at n zero (x ∷ ts) t c b e = (let d : x ≡ t = cc in omega (arith, c.0, balanced_count x b.0, ap first_leaf d))
covers_at n (suc i) (x ∷ ts) t c b e = omega (arith, c.0, covers_at (first_leaf x) i ts t c.1 b.1 e, balanced_count x b.0)

-- where a peak's leaves begin
pub peak_first : (rule : List ℕ → List ℕ) (n : ℕ) → MergesEqual rule n → (i : ℕ) (t : Tree) → slice_get (forest rule n).peaks i ≡ Some t →
    (first_leaf t + weight (take (suc i) (peak_heights rule n)) ≡ n) × (height t ≡ slice_index (peak_heights rule n) i)
peak_first rule n equal i t e = (
  ap (λ (hs : List ℕ). first_leaf t + weight (take (suc i) hs)) (sym (heights_forest rule n))
      ∙ covers_at n i (forest rule n).peaks t (forest_grown rule n).covers (peaks_balanced rule n equal n (omega arith)) e,
  index_map (forest rule n).peaks i t e ∙ ap (λ (hs : List ℕ). slice_index hs i) (heights_forest rule n),
)

-- a node of height h has 2 ^ h leaves, so there are that many
pub height_bound : (rule : List ℕ → List ℕ) (n : ℕ) → MergesEqual rule n → (p : ℕ) (t : Tree) → slice_get (forest rule n).nodes p ≡ Some t → first_leaf t + 2 ^ height t ≤ n
height_bound rule n equal p t e =
    let g : IsGrown n (forest rule n) = forest_grown rule n in
    omega (arith, end_under_one (forest rule n).nodes n t (forest rule n).peaks g.covers g.built (g.under p t e), balanced_count t (node_balanced rule n equal n p t (omega arith) e))
