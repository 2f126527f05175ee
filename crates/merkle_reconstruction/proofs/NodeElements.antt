-- Elements of a list of nodes as the code represents them.
use Rattle.std.proofs.Common.{◌≡◌, ℕ, ◌+◌, ◌<◌, List, [], ◌∷◌, ◌++◌, map, take, length, get_or, zero, suc, arith, refl, ap, sym, ◌∙◌, subst, add-one}
use Rattle.merkle_base.specs.Tree.{Tree}
use Rattle.merkle_hasher.specs.declared.subtree.Subtree.{Subtree}
use Rattle.merkle_hasher.specs.Subtrees.{Denotes, AreNodes, subtree_of}

-- element i of the subtrees of some nodes means node i
pub element_means : {F : Type 0} (rule : List ℕ → List ℕ) (m : ℕ) (xs : List (Subtree F)) (ts : List Tree) → xs ≡ map subtree_of ts → AreNodes rule m ts → (i : ℕ) → i < length xs → (d : Subtree F)
    → (t : Tree) × Denotes rule m (get_or xs i d) t × (take (i + 1) ts ≡ take i ts ++ t ∷ [])
element_means {F = F} rule m xs ts e h i l d = subst (λ ys. (i < length ys) → (t : Tree) × Denotes rule m (get_or ys i d) t × (take (i + 1) ts ≡ take i ts ++ t ∷ [])) (sym e) (step ts i h) l
  where
    one : (t : Tree) (ts : List Tree) → take (0 + 1) (t ∷ ts) ≡ take 0 (t ∷ ts) ++ t ∷ []
    one t ts = refl

    step : (ts : List Tree) (i : ℕ) → AreNodes rule m ts → i < length (map (subtree_of {F = F}) ts) → (t : Tree)
        × Denotes rule m (get_or (map subtree_of ts) i d) t × (take (i + 1) ts ≡ take i ts ++ t ∷ [])
    step [] i h l = absurd (omega arith)
    step (t ∷ ts) zero h l = (t, record { at = h.0; height_is = refl; first_is = refl }, one t ts)
    step (t ∷ ts) (suc i) h l = let w = step ts i h.1 (omega arith) in (w.0, w.1, ap (λ n. take n (t ∷ ts)) (add-one (suc i)) ∙ ap (λ z. t ∷ z) (ap (λ n. take n ts) (sym (add-one i)) ∙ w.2))
