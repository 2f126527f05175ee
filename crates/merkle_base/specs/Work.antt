-- What calls that count their work count.
use Rattle.std.specs.Prelude.{ℕ}

-- how much work was counted: digests of merged nodes, and comparisons of a position
pub record WorkCounts : Type 0 where
  pub node_digests : ℕ  -- the digests of merged nodes that were computed
  pub probes : ℕ  -- the comparisons of a position with the size in nodes of a leaf count
