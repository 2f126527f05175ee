-- Positions of nodes, ascending.
use Rattle.std.specs.Prelude.{ℕ, List, nat_eq, filter}
use Rattle.std.specs.List.{Contains, list_any, range_with_len}
use Rattle.std.specs.List.Sorted.{IsStrictlyIncreasing}
use Rattle.merkle_base.specs.Tree.{Tree, position}
use Rattle.merkle_base.specs.Forest.{size}
use Rattle.merkle_root_theory.specs.Reads.{nodes_read}

-- zs has the numbers of xs, ascending, each once
pub record IsAscendingOf (xs zs : List ℕ) : Type 0 where
  pub rises : IsStrictlyIncreasing zs
  pub keeps : (p : ℕ) → Contains xs p → Contains zs p
  pub adds_none : (p : ℕ) → Contains zs p → Contains xs p

-- the positions below m where one of the nodes stands, ascending, each once
abbrev pub positions_among : ℕ → List Tree → List ℕ
positions_among m ts = filter (λ p. list_any (λ t. nat_eq (position t) p) ts) (range_with_len 0 m)

-- the positions of what a proof of a..b reads: of the peaks outside a..b and of the path siblings, ascending, each once
abbrev pub range_positions : (List ℕ → List ℕ) → (n a b : ℕ) → List ℕ
range_positions rule n a b = positions_among (size rule n) (nodes_read rule n a b)
