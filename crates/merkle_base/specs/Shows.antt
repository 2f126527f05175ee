-- When what holds nodes answers those of a list.
use Rattle.std.specs.Prelude.{◌≡◌, ℕ, List, length, Option, Some, slice_get}
use Rattle.merkle_base.specs.Forest.{size}
use Rattle.merkle_base.specs.Hashing.{Hashing}
use Rattle.merkle_base.specs.Digests.{node_digests}

-- n is the number of nodes of X, and each node that is answered has its digest of X
pub record Shows {D : Type 0} (h : Hashing D) (rule : List ℕ → List ℕ) (n : ℕ) (node : ℕ → Option D) (X : List D) : Type 0 where
  pub sized : n ≡ size rule (length X)
  pub right : (p : ℕ) (d : D) → node p ≡ Some d → slice_get (node_digests h rule X) p ≡ Some d
