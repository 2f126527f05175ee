-- The places of a list's inputs in order.
use Rattle.std.specs.Prelude.{◌≡◌, ℕ, suc, zero, pred, ◌-◌, nat_lt, cond, List, [], ◌∷◌, ◌++◌, map, flat_map, length, option_map}
use Rattle.merkle_root_theory.specs.Expression.{Place, Join, PrefixFold, SuffixFold, Node, Input}
use Rattle.merkle_base.specs.Hashing.{Hashing}
use Rattle.merkle_base.specs.Tree.{Tree, leaf, join}
use Rattle.merkle_root_theory.specs.Plan.{root_plan, plan_expression}
use Rattle.merkle_base.specs.declared.family.Bagging.{Bagging}
use Rattle.merkle_base.specs.declared.family.Bagging.TheVariants.{ForwardFold, BackwardFold}
use Rattle.merkle_root_theory.specs.Check.{inputs_of}
use Rattle.merkle_root_theory.specs.Collision.{Member}
use Rattle.merkle_claim_theory.specs.Exact.{IsMap}

-- prefix folds from n down to 1
abbrev pub down : ℕ → List Place
down zero = []
down (suc n) = PrefixFold (suc n) ∷ down n

-- n suffix folds from i up
abbrev pub up : ℕ → ℕ → List Place
up i zero = []
up i (suc n) = SuffixFold i ∷ up (suc i) n

-- the places of the folds over m peaks, in order: f is the greater of k and 1
abbrev pub fold_places : Bagging → ℕ → ℕ → List Place
fold_places ForwardFold k m = down (pred m)
fold_places BackwardFold k m = let f = suc (pred k) in cond (nat_lt f m) (Join ∷ (down (pred f) ++ up f (pred (m - f)))) (down (pred m))

-- the places of a tree's nodes: a node before its children, the left child before the right
abbrev pub node_places : Tree → List Place
node_places (leaf p i) = []
node_places (join p l r) = Node p ∷ node_places l ++ node_places r

-- the places of a list's inputs: the folds, and then the nodes of each peak
abbrev pub PlacesInOrder : Type 0 → Type 0
PlacesInOrder D = (h : Hashing D) (X : ℕ → D) (bagging : Bagging) (k : ℕ) (t : Tree) (ts : List Tree)
    → map (λ (i : Input D). i.place) (inputs_of h (option_map (plan_expression X) (root_plan bagging k (t ∷ ts))))
    ≡ fold_places bagging k (suc (length ts)) ++ flat_map node_places (t ∷ ts)

-- no element stands twice
abbrev pub Distinct : {A : Type 0} → List A → Type 0
Distinct [] = Unit {0}
Distinct (x ∷ xs) = (Member xs x → ⊥) × Distinct xs

-- if no position stands twice in the peaks of a list, no place stands with two arguments among its inputs
abbrev pub PlacesOnce : Type 0 → Type 0
PlacesOnce D = (h : Hashing D) (X : ℕ → D) (bagging : Bagging) (k : ℕ) (t : Tree) (ts : List Tree) → Distinct (flat_map node_places (t ∷ ts))
    → IsMap (inputs_of h (option_map (plan_expression X) (root_plan bagging k (t ∷ ts))))
