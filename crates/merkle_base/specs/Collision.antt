-- Two different pairs of children with one digest, at a node of two lists of one length.
use Rattle.std.specs.Prelude.{◌≡◌, ℕ, List, length, Some, slice_get}
use Rattle.merkle_base.specs.Tree.{Tree, join}
use Rattle.merkle_base.specs.Forest.{forest}
use Rattle.merkle_base.specs.Hashing.{Hashing}
use Rattle.merkle_base.specs.Digests.{digest_at}

-- X and Y, of one length, collide at a node of their forest: its children have one digest in both, and are not the same
abbrev pub Collide : {D : Type 0} → Hashing D → (List ℕ → List ℕ) → List D → List D → Type 0
Collide h rule X Y =
    (p : ℕ) × (l r : Tree) × (slice_get (forest rule (length X)).nodes p ≡ Some (join p l r))
    × (h.node p (digest_at h X l) (digest_at h X r) ≡ h.node p (digest_at h Y l) (digest_at h Y r))
    × ((digest_at h X l ≡ digest_at h Y l) × (digest_at h X r ≡ digest_at h Y r) → ⊥)
