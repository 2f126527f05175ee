-- Digests listed by position.
use Rattle.std.specs.Prelude.{ℕ, cond, nat_eq, List, [], ◌∷◌, Option, Some, None, slice_index_or}
use Rattle.merkle_base.specs.Digests.{node_digests}
use Rattle.merkle_base.specs.Scheme.{Scheme}

-- the digest in ds at the index that p has in ps, if it is there
abbrev pub digest_for : {D : Type 0} → List ℕ → List D → ℕ → Option D
digest_for [] ds p = None
digest_for (q ∷ ps) [] p = None
digest_for (q ∷ ps) (d ∷ ds) p = cond (nat_eq q p) (Some d) (digest_for ps ds p)

-- the digest of a list at a position
abbrev pub digest_at_position : {D : Type 0} → Scheme D → List D → ℕ → D
digest_at_position s xs p = slice_index_or (node_digests s.hashing s.rule xs) p s.hashing.empty
