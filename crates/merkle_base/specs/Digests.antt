-- The digests of a list of leaf digests, at the nodes of its forest.
use Rattle.std.specs.Prelude.{ℕ, List, map, reverse, length, slice_index_or}
use Rattle.merkle_base.specs.Tree.{Tree, leaf, join}
use Rattle.merkle_base.specs.Forest.{forest}
use Rattle.merkle_base.specs.Hashing.{Hashing}

-- the digest of X at a node: the entry at a leaf, else the node of its children's digests
abbrev pub digest_at : {D : Type 0} → Hashing D → List D → Tree → D
digest_at h X (leaf p n) = slice_index_or X n h.empty
digest_at h X (join p l r) = h.node p (digest_at h X l) (digest_at h X r)

-- the digests of X at all nodes of its forest, by position
abbrev pub node_digests : {D : Type 0} → Hashing D → (List ℕ → List ℕ) → List D → List D
node_digests h rule X = map (digest_at h X) (forest rule (length X)).nodes

-- the digests of X at its peaks, oldest first
abbrev pub peak_digests : {D : Type 0} → Hashing D → (List ℕ → List ℕ) → List D → List D
peak_digests h rule X = map (digest_at h X) (reverse (forest rule (length X)).peaks)
