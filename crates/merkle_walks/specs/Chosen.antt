-- What a check of scattered leaves claims of nodes, as an audit walks over them.
use Rattle.std.specs.Prelude.{ℕ, Bool, nat_eq, List, map}
use Rattle.std.specs.List.{list_any}
use Rattle.std.specs.List.Sorted.{IsStrictlyIncreasing}
use Rattle.std.specs.Option.{unwrap_or}
use Rattle.merkle_base.specs.Hashing.{Hashing}
use Rattle.merkle_base.specs.Table.{digest_for}
use Rattle.merkle_base.specs.Tree.{Tree}
use Rattle.merkle_root_theory.specs.Expression.{Expression, value}
use Rattle.merkle_claim_theory.specs.MultiClaim.{multi_tree}
use Rattle.merkle_walks.specs.declared.scattered.LeafProof.{LeafProof}

-- whether a location is one of some
abbrev pub is_among : List ℕ → ℕ → Bool
is_among is i = list_any (nat_eq i) is

-- what a check claims of a node, by the positions, digests, locations and leaves that it is given
abbrev pub tree_given : {F D : Type 0} → Hashing D → LeafProof F D → Tree → Expression D
tree_given h g t = multi_tree h (digest_for g.positions.now g.digests.now) (is_among g.locations.now)
    (λ i. unwrap_or (digest_for g.locations.now g.leaves.now i) h.empty) t

-- the digest that a check has at a node
abbrev pub digest_given : {F D : Type 0} → Hashing D → LeafProof F D → Tree → D
digest_given h g t = value h (tree_given h g t)

-- some nodes, each with what a check claims of it
abbrev pub claims_given : {F D : Type 0} → Hashing D → LeafProof F D → List Tree → List (Tree × Expression D)
claims_given h g ts = map (λ t. (t, tree_given h g t)) ts

-- the positions and the locations of a proof of scattered leaves ascend strictly
pub record ProofAscends {F D : Type 0} (g : LeafProof F D) : Type 0 where
  pub positions : IsStrictlyIncreasing g.positions.now
  pub locations : IsStrictlyIncreasing g.locations.now
