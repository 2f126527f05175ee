-- The leaf digests of elements.
use Rattle.std.specs.Prelude.{◌≡◌, ℕ, suc, List, [], ◌∷◌, ◌++◌, map}
use Rattle.std.specs.Borrow.{Bor}
use Rattle.merkle_base.specs.Forest.{size}
use Rattle.merkle_base.specs.Hashing.{Hashing}

-- the bytes of elements that are lent
abbrev pub bytes_of : List (Bor (List ℕ)) → List (List ℕ)
bytes_of elements = map (λ e. e.now) elements

-- the leaf digests of elements from location a on
abbrev pub leaf_digests : {D : Type 0} → Hashing D → (List ℕ → List ℕ) → ℕ → List (List ℕ) → List D
leaf_digests h rule a [] = []
leaf_digests h rule a (e ∷ es) = h.leaf (size rule a) e ∷ leaf_digests h rule (suc a) es

-- the digests of leaves, each of which is given as its position and its element
abbrev pub positioned_digests : {D : Type 0} → Hashing D → List (ℕ × Bor (List ℕ)) → List D
positioned_digests h leaves = map (λ l. h.leaf l.0 l.1.now) leaves

-- digests, followed by those of the leaves that wait to be hashed
abbrev pub queued : {D : Type 0} → Hashing D → List D → List (ℕ × Bor (List ℕ)) → List D
queued h digests waiting = digests ++ positioned_digests h waiting

-- one more digest is queued behind the others
abbrev pub Queues : {D : Type 0} → Hashing D → (old : List D) → (waiting : List (ℕ × Bor (List ℕ))) → (new : List D)
    → (waiting_new : List (ℕ × Bor (List ℕ))) → D → Type 0
Queues h old waiting new waiting_new d = queued h new waiting_new ≡ queued h old waiting ++ d ∷ []
