-- What a search down the nodes of a tree sees.
use Rattle.std.specs.Prelude.{◌≡◌, ℕ, Bool, ◌&&◌, nat_lt, cond, List, Option, Some, None, option_map}
use Rattle.std.specs.List.{AllByRecursion}
use Rattle.merkle_base.specs.Tree.{Tree, leaf, join, position, first_leaf, end_leaf}
use Rattle.merkle_root_theory.specs.Expression.{Place, Node, Pair, Input}
use Rattle.merkle_root_theory.specs.Plan.{tree_meets}
use Rattle.merkle_claim_theory.specs.Order.{node_places}

-- the digests of a node's children, if it has some
abbrev pub children_of : {D : Type 0} → (ℕ → D) → Tree → Option (D × D)
children_of f (leaf p i) = None
children_of f (join p l r) = Some (f (position l), f (position r))

-- the digests of a node's children, if it has some and overlaps a..b
abbrev pub met_children : {D : Type 0} → (a b : ℕ) → (ℕ → D) → Tree → Option (D × D)
met_children a b f (leaf p i) = None
met_children a b f (join p l r) = cond (nat_lt (first_leaf l) b && nat_lt a (end_leaf r)) (Some (f (position l), f (position r))) None

-- the digests that v has at a node's children, if a chosen location lies under the node
abbrev pub chosen_children : {D : Type 0} → (ℕ → Bool) → (Tree → D) → Tree → Option (D × D)
chosen_children c v (leaf p i) = None
chosen_children c v (join p l r) = cond (tree_meets c (join p l r)) (Some (v l, v r)) None

-- two digests that are hashed at a node
abbrev pub node_at : {D : Type 0} → Tree → D × D → Input D
node_at t x = record { place = Node (position t); argument = Pair x.0 x.1 }

-- nothing is hashed at any of these places
abbrev pub NothingAt : {D : Type 0} → (Place → Option (Input D)) → List Place → Type 0
NothingAt f ps = AllByRecursion (λ p. f p ≡ None) ps

-- at each node of a tree, f has what e says; where e says nothing, f has nothing below
abbrev pub Sees : {D : Type 0} → (Tree → Option (D × D)) → (Place → Option (Input D)) → Tree → Type 0
Sees e f (leaf p i) = Unit {0}
Sees e f (join p l r) = (f (Node p) ≡ option_map (node_at (join p l r)) (e (join p l r)))
    × (e (join p l r) ≡ None → NothingAt f (node_places (join p l r)))
    × Sees e f l × Sees e f r
