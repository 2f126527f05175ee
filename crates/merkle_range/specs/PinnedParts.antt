-- What the pinned check compares beside the range check.
use Rattle.std.specs.Prelude.{ℕ, List, drop, length, Option}
use Rattle.merkle_base.specs.Hashing.{Hashing}
use Rattle.merkle_base.specs.Tree.{Tree}
use Rattle.merkle_base.specs.declared.family.Bagging.{Bagging}
use Rattle.merkle_root_theory.specs.Plan.{tree_meets, meets}
use Rattle.merkle_root_theory.specs.Check.{in_range}
use Rattle.merkle_root_theory.specs.Range.{range_parts, range_siblings}
use Rattle.merkle_claim_theory.specs.Rebuilt.{AllRebuilt, rebuilt_node, rebuilt_part}

-- what lies before the range in a proof of a..e under the peaks ts is rebuilt from pins to the digests at its places; b: the pin at a
-- position
pub record IsBeforeRebuilt {D : Type 0} (h : Hashing D) (bagging : Bagging) (k a e : ℕ) (ts : List Tree) (b : ℕ → Option D) (ds : List D) : Type 0 where
  pub parts : AllRebuilt h (meets (in_range 0 a)) (rebuilt_part h b) (range_parts bagging k a e ts) ds
  pub nodes : AllRebuilt h (tree_meets (in_range 0 a)) (rebuilt_node h b) (range_siblings a e ts) (drop (length (range_parts bagging k a e ts)) ds)
