-- What a located collision is of a hasher that hashes joined bytes.
use Rattle.std.specs.Prelude.{◌≡◌, ◌≢◌, ℕ, Bool, List, ◌++◌}
use Rattle.std.specs.Int.{to_be_bytes, w64}
use Rattle.merkle_base.specs.Hashing.{Hashing}
use Rattle.merkle_base.specs.Tree.{Tree}
use Rattle.merkle_base.specs.Digests.{digest_at}
use Rattle.merkle_leaves.specs.Standard.{standard}
use Rattle.merkle_root_theory.specs.Expression.{Place, Root, Join, PrefixFold, SuffixFold, Node, Argument, Pair, Bytes, Input}
use Rattle.merkle_root_theory.specs.Collision.{Collision, Collides}
use Rattle.merkle_root_theory.specs.RootString.{ByteLaws}
use Rattle.merkle_root_theory.specs.RootNames.{RootsCollide}
use Rattle.merkle_root_theory.specs.Check.{RangeInput, range_inputs}
use Rattle.merkle_base.specs.Scheme.{Scheme}
use Rattle.merkle_root_theory.specs.Range.{list_inputs}
use Rattle.merkle_claim_theory.specs.Multiproof.{MultiInput}
use Rattle.merkle_claim_theory.specs.Verdict.{multi_inputs, pinned_inputs}

-- a node and a fold are the plain hash of joined bytes, a node's with its position in 8 bytes before them
pub record IsPlain {D : Type 0} (h : Hashing D) : Type 0 where
  pub node : (p : ℕ) (l r : D) → h.node p l r ≡ h.hash (to_be_bytes w64 p ++ h.bytes l ++ h.bytes r)
  pub fold : (a b : D) → h.fold a b ≡ h.hash (h.bytes a ++ h.bytes b)

-- the byte string of two digests at a place
abbrev pub joined_at : {D : Type 0} → (D → List ℕ) → Place → D → D → List ℕ
joined_at bytes (Node p) l r = to_be_bytes w64 p ++ bytes l ++ bytes r
joined_at bytes Root l r = bytes l ++ bytes r
joined_at bytes Join l r = bytes l ++ bytes r
joined_at bytes (PrefixFold i) l r = bytes l ++ bytes r
joined_at bytes (SuffixFold i) l r = bytes l ++ bytes r

-- the byte string of an argument at a place
abbrev pub string_at : {D : Type 0} → (D → List ℕ) → Place → Argument D → List ℕ
string_at bytes place (Pair l r) = joined_at bytes place l r
string_at bytes place (Bytes b) = b

-- two different byte strings with one hash
pub record IsHashCollision {D : Type 0} (hash : List ℕ → D) (a b : List ℕ) : Type 0 where
  pub differ : a ≢ b
  pub one_hash : hash a ≡ hash b

-- two arguments are both digests, or both byte strings
abbrev pub SameForm : {D : Type 0} → Argument D → Argument D → Type 0
SameForm (Pair l r) (Pair l' r') = Unit {0}
SameForm (Pair l r) (Bytes b) = ⊥
SameForm (Bytes a) (Pair l r) = ⊥
SameForm (Bytes a) (Bytes b) = Unit {0}

-- the hasher over a plain hash function hashes joined bytes
abbrev pub StandardIsPlain : Type 0 → Type 0
StandardIsPlain D = (hash : List ℕ → D) (bytes : D → List ℕ) (same : D → D → Bool) (empty : D) → IsPlain (standard hash bytes same empty)

-- two roots that collide are two different byte strings with one hash, whatever the hasher
abbrev pub RootCollision : Type 0 → Type 0
RootCollision D = (h : Hashing D) (xs ys : List (Input D)) → RootsCollide h xs ys → (a b : List ℕ) × IsHashCollision h.hash a b

-- where two arguments of one form collide at a place, their byte strings do under the plain hash
abbrev pub PlainCollision : Type 0 → Type 0
PlainCollision D = (h : Hashing D) → IsPlain h → (size : ℕ) → ByteLaws h size → (xs ys : List (Input D))
    → (c : Collision D) → SameForm c.claimed c.listed → Collides h xs ys c
    → IsHashCollision h.hash (string_at h.bytes c.place c.claimed) (string_at h.bytes c.place c.listed)

-- each collision of a range input with a list is one of two byte strings under the plain hash
abbrev pub RangeCollision : Type 0 → Type 0
RangeCollision D = (s : Scheme D) → IsPlain s.hashing → (size : ℕ) → ByteLaws s.hashing size → (r : RangeInput D) (xs : List D) (k : ℕ)
    → (c : Collision D) → Collides s.hashing (range_inputs s r) (list_inputs s xs k) c
    → IsHashCollision s.hashing.hash (string_at s.hashing.bytes c.place c.claimed) (string_at s.hashing.bytes c.place c.listed)

-- each collision of an input of scattered leaves with a list is one of two byte strings under the plain hash
abbrev pub MultiCollision : Type 0 → Type 0
MultiCollision D = (s : Scheme D) → IsPlain s.hashing → (size : ℕ) → ByteLaws s.hashing size → (r : MultiInput D) (xs : List D) (k : ℕ)
    → (c : Collision D) → Collides s.hashing (multi_inputs s r) (list_inputs s xs k) c
    → IsHashCollision s.hashing.hash (string_at s.hashing.bytes c.place c.claimed) (string_at s.hashing.bytes c.place c.listed)

-- each collision of a range input with pins with a list is one of two byte strings under the plain hash
abbrev pub PinnedCollision : Type 0 → Type 0
PinnedCollision D = (s : Scheme D) → IsPlain s.hashing → (size : ℕ) → ByteLaws s.hashing size → (r : RangeInput D) (pins xs : List D) (k : ℕ)
    → (c : Collision D) → Collides s.hashing (pinned_inputs s r pins) (list_inputs s xs k) c
    → IsHashCollision s.hashing.hash (string_at s.hashing.bytes c.place c.claimed) (string_at s.hashing.bytes c.place c.listed)

-- each collision of two range inputs is one of two byte strings under the plain hash
abbrev pub PairCollision : Type 0 → Type 0
PairCollision D = (s : Scheme D) → IsPlain s.hashing → (size : ℕ) → ByteLaws s.hashing size → (r q : RangeInput D)
    → (c : Collision D) → Collides s.hashing (range_inputs s r) (range_inputs s q) c
    → IsHashCollision s.hashing.hash (string_at s.hashing.bytes c.place c.claimed) (string_at s.hashing.bytes c.place c.listed)

-- each collision of two lists at a node is one of two byte strings under the plain hash
abbrev pub NodeCollision : Type 0 → Type 0
NodeCollision D = (h : Hashing D) → IsPlain h → (size : ℕ) → ByteLaws h size → (X Y : List D) (p : ℕ) (l r : Tree)
    → h.node p (digest_at h X l) (digest_at h X r) ≡ h.node p (digest_at h Y l) (digest_at h Y r)
    → ((digest_at h X l ≡ digest_at h Y l) × (digest_at h X r ≡ digest_at h Y r) → ⊥)
    → IsHashCollision h.hash (joined_at h.bytes (Node p) (digest_at h X l) (digest_at h X r)) (joined_at h.bytes (Node p) (digest_at h Y l) (digest_at h Y r))
