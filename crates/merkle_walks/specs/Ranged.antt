-- What a check of a range claims of nodes, with pins or without.
use Rattle.std.specs.Prelude.{ℕ, Bool, ◌||◌, cond, List, [], ◌∷◌, length, drop, Option, Some, None}
use Rattle.merkle_base.specs.Hashing.{Hashing}
use Rattle.merkle_base.specs.Table.{digest_for}
use Rattle.merkle_base.specs.Tree.{Tree, leaf, join}
use Rattle.merkle_root_theory.specs.Check.{in_range}
use Rattle.merkle_root_theory.specs.Claim.{next}
use Rattle.merkle_root_theory.specs.Expression.{Node, Expression, supplied, computed}
use Rattle.merkle_root_theory.specs.Plan.{siblings, tree_meets}
use Rattle.merkle_root_theory.specs.Walk.{leaf_from}
use Rattle.merkle_claim_theory.specs.PinnedClaim.{outside_tree}
use Rattle.merkle_walks.specs.declared.range.Pins.{Pins}
use Rattle.merkle_walks.specs.declared.range.GivenRange.{GivenRange}

-- the pin at a position
abbrev pub pin_in : {F D : Type 0} → Pins F D → ℕ → Option D
pin_in pins p = digest_for pins.positions.items pins.digests.now p

-- the pin at each position, if there are pins
abbrev pub pins_in : {F D : Type 0} → Option (Pins F D) → Option (ℕ → Option D)
pins_in None = None
pins_in (Some pins) = Some (pin_in pins)

-- what is claimed of a node outside a range of which a proof has the digest d; o: the pin at each position, if there are pins; w: whether a
-- location lies before the range
abbrev pub outside_claim : {D : Type 0} → Hashing D → (o : Option (ℕ → Option D)) → (w : ℕ → Bool) → Tree → (d : D) → Expression D
outside_claim h None w t d = supplied d
outside_claim h (Some b) w t d = outside_tree h b w t d

-- what is claimed of a node; ds: the digests for the siblings below it
abbrev pub claim_tree : {D : Type 0} → Hashing D → (o : Option (ℕ → Option D)) → (w c : ℕ → Bool) → (ℕ → D) → Tree → (ds : List D) → Expression D
claim_tree h o w c X (leaf p i) ds = cond (c i) (supplied (X i)) (outside_claim h o w (leaf p i) (next h ds))
claim_tree h o w c X (join p l r) ds = cond (tree_meets c l || tree_meets c r)
    (computed (Node p) (claim_tree h o w c X l ds) (claim_tree h o w c X r (drop (length (siblings c l)) ds)))
    (outside_claim h o w (join p l r) (next h ds))

-- what is claimed of several nodes, one after another; ds: the digests for the siblings below them
abbrev pub claim_trees : {D : Type 0} → Hashing D → (o : Option (ℕ → Option D)) → (w c : ℕ → Bool) → (ℕ → D) → List Tree → (ds : List D)
    → List (Tree × Expression D)
claim_trees h o w c X [] ds = []
claim_trees h o w c X (t ∷ ts) ds = (t, claim_tree h o w c X t ds) ∷ claim_trees h o w c X ts (drop (length (siblings c t)) ds)

-- what is claimed of a node outside the range that is given
abbrev pub outside_given : {F D : Type 0} → Hashing D → GivenRange F D → Tree → (d : D) → Expression D
outside_given h g t d = outside_claim h (pins_in g.pins) (in_range 0 g.start) t d

-- what is claimed of a node by the leaves that are given; ds: the digests for the siblings below it
abbrev pub tree_given : {F D : Type 0} → Hashing D → GivenRange F D → Tree → (ds : List D) → Expression D
tree_given h g t ds = claim_tree h (pins_in g.pins) (in_range 0 g.start) (in_range g.start g.end) (leaf_from h g.start g.leaves.now) t ds

-- what is claimed of several nodes by the leaves that are given; ds: the digests for the siblings below them
abbrev pub trees_given : {F D : Type 0} → Hashing D → GivenRange F D → List Tree → (ds : List D) → List (Tree × Expression D)
trees_given h g ts ds = claim_trees h (pins_in g.pins) (in_range 0 g.start) (in_range g.start g.end) (leaf_from h g.start g.leaves.now) ts ds
