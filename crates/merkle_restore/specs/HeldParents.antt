-- The merged nodes that are held with both their children, and the first of them whose digest is not that of these.
use Rattle.std.specs.Prelude.{◌≡◌, ℕ, List, [], ◌∷◌, drop, Bool, false, not, cond, Option, Some, None, MatchOption}
use Rattle.std.specs.List.{flat_map}
use Rattle.merkle_base.specs.Tree.{Tree, leaf, join, position}
use Rattle.merkle_base.specs.Forest.{forest}
use Rattle.merkle_base.specs.Hashing.{Hashing}

-- a position with two digests, if there are both
abbrev pub with_both : {D : Type 0} → ℕ → Option D → Option D → List (ℕ × D × D)
with_both p (Some a) (Some b) = (p, a, b) ∷ []
with_both p o u = []

-- the position of a merged node and the digests of its children, if both are held
abbrev pub parent_of : {D : Type 0} → (node : ℕ → Option D) → Tree → List (ℕ × D × D)
parent_of node (leaf p k) = []
parent_of node (join p l r) = with_both p (node (position l)) (node (position r))

-- the parents with both children held among the nodes of n leaves from position q on
abbrev pub parents_from : {D : Type 0} → (List ℕ → List ℕ) → (n : ℕ) → (node : ℕ → Option D) → (q : ℕ) → List (ℕ × D × D)
parents_from rule n node q = flat_map (parent_of node) (drop q (forest rule n).nodes)

-- whether a digest is held, and is not d
abbrev pub is_other : {D : Type 0} → (same : D → D → Bool) → Option D → D → Bool
is_other same None d = false
is_other same (Some x) d = not (same x d)

-- the first of some parents at whose position another digest is held than that of the children
abbrev pub first_wrong : {D : Type 0} → Hashing D → (node : ℕ → Option D) → List (ℕ × D × D) → Option ℕ
first_wrong h node [] = None
first_wrong h node (e ∷ es) = cond (is_other h.same (node e.0) (h.node e.0 e.1 e.2)) (Some e.0) (first_wrong h node es)

-- what was found is the first wrong one of the parents before; if nothing was, that is the first wrong one of those which are left
abbrev pub Finds : {D : Type 0} → Hashing D → (node : ℕ → Option D) → Option ℕ → (before left : List (ℕ × D × D)) → Type 0
Finds h node found before left =
    MatchOption found (first_wrong h node before ≡ first_wrong h node left) (λ p. first_wrong h node before ≡ Some p)
