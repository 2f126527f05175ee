-- Nodes that have all their leaves among those whose digests are given.
use Rattle.std.specs.Prelude.{◌≡◌, ℕ, ◌+◌, ◌≤◌, List, [], ◌∷◌, ◌++◌, Some, map, slice_get, length, ⊤}
use Rattle.std.specs.List.{AllByRecursion}
use Rattle.merkle_base.specs.Forest.{forest}
use Rattle.merkle_base.specs.Tree.{Tree, position, first_leaf, end_leaf}
use Rattle.merkle_base.specs.Hashing.{Hashing}
use Rattle.merkle_base.specs.Table.{digest_for}
use Rattle.merkle_root_theory.specs.Check.{in_range}
use Rattle.merkle_root_theory.specs.Plan.{tree_digest, siblings}
use Rattle.merkle_root_theory.specs.Walk.{leaf_from}
use Rattle.merkle_hasher.specs.declared.subtree.Subtree.{Subtree}
use Rattle.merkle_hasher.specs.Subtrees.{Denotes}

-- the subtree is the node t of the forest of n leaves, and its leaves are among the `count` leaves from location start on
abbrev pub IsInside : {F : Type 0} → (List ℕ → List ℕ) → ℕ → ℕ → ℕ → Subtree F → Tree → Type 0
IsInside rule n start count s t = Denotes rule n s t × (start ≤ first_leaf t) × (end_leaf t ≤ start + count)

-- d is the digest of the node that a subtree is, if all its leaves are among those from location start on that have these digests
abbrev pub IsDigestInside : {F D : Type 0} → Hashing D → (List ℕ → List ℕ) → ℕ → ℕ → List D → Subtree F → D → Type 0
IsDigestInside h rule n start leaves s d = (t : Tree) → IsInside rule n start (length leaves) s t → d ≡ tree_digest h (leaf_from h start leaves) t

-- d is the digest of the node at p, if there is one, in the forest of n leaves, the leaves having the digests `leaf`
abbrev pub IsDigestAt : {D : Type 0} → Hashing D → (List ℕ → List ℕ) → ℕ → (ℕ → D) → ℕ → D → Type 0
IsDigestAt h rule n leaf p d = (t : Tree) → slice_get (forest rule n).nodes p ≡ Some t → d ≡ tree_digest h leaf t

-- each of the subtrees has height 2 or more and is a node that has its leaves among the `count` leaves from location start on
abbrev pub AreTall : {F : Type 0} → (List ℕ → List ℕ) → ℕ → ℕ → ℕ → List (Subtree F) → Type 0
AreTall {F = F} rule n start count ss = AllByRecursion (λ (s : Subtree F). ((t : Tree) × IsInside rule n start count s t) × (2 ≤ s.height)) ss

-- each of the positions is that of a node whose children have the digests beside it
abbrev pub AreParents : {D : Type 0} → Hashing D → (List ℕ → List ℕ) → ℕ → (ℕ → D) → List (ℕ × D × D) → Type 0
AreParents {D = D} h rule n leaf es = AllByRecursion (λ (e : ℕ × D × D). IsDigestAt h rule n leaf e.0 (h.node e.0 e.1 e.2)) es

-- each of the subtrees has two children with these digests, in order
abbrev pub AreChildDigests : {F D : Type 0} → Hashing D → (List ℕ → List ℕ) → ℕ → (ℕ → D) → List (Subtree F) → List D → Type 0
AreChildDigests h rule n leaf [] [] = ⊤
AreChildDigests h rule n leaf [] (x ∷ ds) = ⊥
AreChildDigests h rule n leaf (s ∷ ss) [] = ⊥
AreChildDigests h rule n leaf (s ∷ ss) (x ∷ []) = ⊥
AreChildDigests h rule n leaf (s ∷ ss) (x ∷ y ∷ ds) = IsDigestAt h rule n leaf s.position (h.node s.position x y) × AreChildDigests h rule n leaf ss ds

-- each digest that ds lists for a position in ps is that of the node there
abbrev pub AreKnown : {D : Type 0} → Hashing D → (List ℕ → List ℕ) → ℕ → (ℕ → D) → List ℕ → List D → Type 0
AreKnown {D = D} h rule n leaf ps ds = (p : ℕ) (d : D) → digest_for ps ds p ≡ Some d → IsDigestAt h rule n leaf p d

-- each of the subtrees is a node of this height that has its leaves among the `count` leaves from location start on
abbrev pub AreLevel : {F : Type 0} → (List ℕ → List ℕ) → ℕ → ℕ → ℕ → ℕ → List (Subtree F) → Type 0
AreLevel {F = F} rule n start count height ss = AllByRecursion (λ (s : Subtree F). ((t : Tree) × IsInside rule n start count s t) × (s.height ≡ height)) ss

-- each digest is that of the node at the position at its index
abbrev pub AreListed : {D : Type 0} → Hashing D → (List ℕ → List ℕ) → ℕ → (ℕ → D) → List ℕ → List D → Type 0
AreListed h rule n leaf [] [] = ⊤
AreListed h rule n leaf [] (d ∷ ds) = ⊥
AreListed h rule n leaf (p ∷ ps) [] = ⊥
AreListed h rule n leaf (p ∷ ps) (d ∷ ds) = IsDigestAt h rule n leaf p d × AreListed h rule n leaf ps ds

-- each digest that ds lists for a position in ps is that of the node there, the leaves from location start on having these digests
abbrev pub AreKnownFrom : {D : Type 0} → Hashing D → (List ℕ → List ℕ) → ℕ → (start : ℕ) → (leaves : List D) → List ℕ → List D → Type 0
AreKnownFrom h rule n start leaves ps ds = AreKnown h rule n (leaf_from h start leaves) ps ds

-- the siblings outside a..b at or below the subtree are added to a list of positions
abbrev pub ListsSiblings : {F : Type 0} → (List ℕ → List ℕ) → ℕ → Subtree F → (a b : ℕ) → (old new : List ℕ) → Type 0
ListsSiblings rule n s a b old new = (t : Tree) → Denotes rule n s t → new ≡ old ++ map position (siblings (in_range a b) t)
