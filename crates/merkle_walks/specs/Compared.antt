-- What is hashed for an accepted input, in comparison with what is listed.
use Rattle.std.specs.Prelude.{◌≡◌, ℕ, List, ◌++◌, map, flat_map, Option, option_map}
use Rattle.std.specs.List.{AllByRecursion}
use Rattle.merkle_base.specs.Places.{peaks_of}
use Rattle.merkle_base.specs.Scheme.{Scheme}
use Rattle.merkle_base.specs.Tree.{Tree}
use Rattle.merkle_root_theory.specs.Expression.{Place, Input}
use Rattle.merkle_claim_theory.specs.Order.{node_places}
use Rattle.merkle_audit_theory.specs.Differences.{is_difference}
use Rattle.merkle_audit_theory.specs.Searches.{input_at, looked_up}
use Rattle.merkle_audit_theory.specs.Tiers.{AreOfTier}
use Rattle.merkle_walk_theory.specs.Compared.{Lists}
use Rattle.merkle_walks.specs.Hashed.{fold_at, located, top_of}
use Rattle.merkle_walks.specs.declared.collision.Collision.{Collision}
use Rattle.merkle_walks.specs.declared.top.Top.{Top}

-- the top and the nodes are what is hashed for a claim on n leaves, xs, and what was found is its first difference at a node from the digests of
-- children that f lists
pub record IsCompared {F D : Type 0} (s : Scheme D) (n : ℕ) (xs : List (Input D)) (f : Tree → Option (D × D))
    (t : Top F D) (found : Option (Collision F D)) : Type 0 where
  pub nodes : List (Input D)
  pub parts : xs ≡ top_of t ++ nodes
  pub above : AreOfTier 1 (map fold_at t.folds.items)
  pub below : AreOfTier 2 nodes
  pub first : (g : Place → Option (Input D)) → AllByRecursion (Lists f g) (peaks_of s.rule n)
      → option_map located found ≡ looked_up (is_difference s.hashing) (flat_map node_places (peaks_of s.rule n)) (input_at xs) g
