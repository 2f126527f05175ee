-- Elements at ascending locations, and what is computed of a node under which there are some or none.
use Rattle.std.proofs.Common.{◌≡◌, ℕ, suc, Bool, true, false, cond, ◌||◌, ◌<◌, ◌≤◌, List, [], ◌∷◌, Option, inl, inr, refl, ap, ap₂, ◌∙◌, arith}
use Rattle.std.proofs.lemmas.Bool.{ne_eqb, or_right, cases_lt}
use Rattle.merkle_base.specs.Hashing.{Hashing}
use Rattle.merkle_base.specs.Tree.{Tree, leaf, join, position, first_leaf, end_leaf, IsBuilt}
use Rattle.merkle_root_theory.specs.Expression.{Node, supplied, computed}
use Rattle.merkle_root_theory.specs.Plan.{tree_meets}
use Rattle.merkle_forest_theory.specs.Ascending.{AscendsFrom}
use Rattle.merkle_claim_theory.specs.MultiClaim.{also, or_empty, multi_tree}
use Rattle.merkle_scattered.specs.Confirmed.{locations_of, is_located}

-- none of the elements lies before the location from which they ascend
pub unlocated : {D : Type 0} (e : ℕ) (es : List (ℕ × D)) → AscendsFrom e (locations_of es) → (i : ℕ) → i < e → is_located es i ≡ false
unlocated e [] u i l = refl
unlocated e (x ∷ es) u i l = ap₂ (λ a b. a || b) (ne_eqb i x.0 (λ q. absurd (omega (arith, q, l, u.0)))) (unlocated (suc x.0) es u.1 i (omega (arith, l, u.0)))

pub met_at : (ns : List Tree) (c : ℕ → Bool) (i : ℕ) (t : Tree) → IsBuilt ns t → first_leaf t ≤ i → i < end_leaf t → c i ≡ true → tree_meets c t ≡ true
met_at ns c i (leaf p j) h a b e = let same : j ≡ i = omega (arith, a, b) in ap c same ∙ e
met_at ns c i (join p l r) h a b e = elim (cases_lt i (first_leaf r)) [
  | inl x ↦ ap (λ w. w || tree_meets c r) (met_at ns c i l h.4 a (omega (arith, x, h.3)) e)
  | inr x ↦ or_right (tree_meets c l) _ (met_at ns c i r h.5 x (omega (arith, b, h.3)) e)
]

module _ {D : Type 0} (h : Hashing D) (a : ℕ → Option D) where
  -- a node without elements is given
  pub given_unmet : (c : ℕ → Bool) (X : ℕ → D) (t : Tree) → tree_meets c t ≡ false → multi_tree h a c X t ≡ supplied (or_empty h (a (position t)))
  given_unmet c X (leaf p i) e = ap (λ z. cond z (also (a p) (supplied (X i))) (supplied (or_empty h (a p)))) e
  given_unmet c X (join p l r) e = ap (λ z. cond z (also (a p) (computed (Node p) (multi_tree h a c X l) (multi_tree h a c X r))) (supplied (or_empty h (a p)))) e
