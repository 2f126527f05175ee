-- What a walk over a claim's nodes finds: the first of them at which something else is listed.
use Rattle.std.specs.Prelude.{◌≡◌, ℕ, cond, ◌&&◌, List, [], ◌∷◌, Option, Some, None, flat_map, option_map}
use Rattle.std.specs.List.{AllByRecursion}
use Rattle.merkle_base.specs.Hashing.{Hashing}
use Rattle.merkle_base.specs.Tree.{Tree, leaf, join}
use Rattle.merkle_root_theory.specs.Expression.{Place, Node, Pair, Input, Expression, supplied, computed, cross_checked, value, visited}
use Rattle.merkle_root_theory.specs.Collision.{Collision}
use Rattle.merkle_root_theory.specs.Plan.{node_expression}
use Rattle.merkle_claim_theory.specs.FirstCollision.{or_else}
use Rattle.merkle_claim_theory.specs.Order.{Distinct}
use Rattle.merkle_audit_theory.specs.Cuts.{IsCutOf, IsSublist, places_in}
use Rattle.merkle_audit_theory.specs.Differences.{is_difference}
use Rattle.merkle_audit_theory.specs.Searches.{input_at, looked_up}
use Rattle.merkle_audit_theory.specs.Seen.{node_at}

-- the first difference from the node at p on, where x is claimed there and y is listed, if anything is: at the node, or else the first below
-- its left child, l, or else the first below its right one, r
abbrev pub found_over : {D : Type 0} → Hashing D → ℕ → (claimed : D × D) → (listed : Option (D × D)) → (l r : Option (Collision D)) → Option (Collision D)
found_over h p x None l r = or_else l r
found_over h p x (Some y) l r =
    cond (h.same x.0 y.0 && h.same x.1 y.1) (or_else l r) (Some (record { place = Node p; claimed = Pair x.0 x.1; listed = Pair y.0 y.1 }))

-- the first difference between what is hashed for a node's expression and the digests of children that f lists
abbrev pub found_in : {D : Type 0} → Hashing D → (f : Tree → Option (D × D)) → Tree → Expression D → Option (Collision D)
found_in h f t (supplied d) = None
found_in h f t (cross_checked d e) = found_in h f t e
found_in h f (leaf p i) (computed place x y) = None
found_in h f (join p l r) (computed place x y) =
    found_over h p (value h x, value h y) (f (join p l r)) (found_in h f l x) (found_in h f r y)

-- the first difference for some nodes, each with its expression
abbrev pub found_among : {D : Type 0} → Hashing D → (f : Tree → Option (D × D)) → List (Tree × Expression D) → Option (Collision D)
found_among h f [] = None
found_among h f (c ∷ cs) = or_else (found_in h f c.0 c.1) (found_among h f cs)

-- at each node of a tree, g has what f lists
abbrev pub Lists : {D : Type 0} → (f : Tree → Option (D × D)) → (g : Place → Option (Input D)) → Tree → Type 0
Lists f g (leaf p i) = Unit {0}
Lists f g (join p l r) = (g (Node p) ≡ option_map (node_at (join p l r)) (f (join p l r))) × Lists f g l × Lists f g r

-- what is hashed for some nodes, each with its expression
abbrev pub claim_nodes : {D : Type 0} → Hashing D → List (Tree × Expression D) → List (Input D)
claim_nodes h cs = flat_map (λ c. visited h c.1) cs

-- each expression is its node's with some parts supplied, for the leaf digests X, and at each of its nodes g has what f lists
abbrev pub AreClaims : {D : Type 0} → (X : ℕ → D) → (f : Tree → Option (D × D)) → (g : Place → Option (Input D)) → List (Tree × Expression D) → Type 0
AreClaims X f g cs = AllByRecursion (λ c. IsCutOf c.1 (node_expression X c.0) × Lists f g c.0) cs

-- where the nodes that are hashed for a claim are some of those at ps, in their order, what a walk over its nodes finds is the first difference
-- from what is listed at these places
abbrev pub WalkFindsFirst : Type 0 → Type 0
WalkFindsFirst D = (h : Hashing D) (X : ℕ → D) (f : Tree → Option (D × D)) (g : Place → Option (Input D)) (cs : List (Tree × Expression D))
    → AreClaims X f g cs → (ps : List Place) → Distinct ps → IsSublist (places_in (claim_nodes h cs)) ps
    → found_among h f cs ≡ looked_up (is_difference h) ps (input_at (claim_nodes h cs)) g
