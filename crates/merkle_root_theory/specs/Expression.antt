-- What a check hashes, as a tree: every place, the digests that it takes there, and the digests that the proof gives.
use Rattle.merkle_base.specs.Hashing.{Hashing}
use Rattle.std.specs.Prelude.{◌≡◌, ℕ, Bool, true, false, not, List, [], ◌∷◌, ◌++◌, filter}

-- where the computation of a root hashes
pub data Place : Type 0 where
  Root Join : Place
  PrefixFold SuffixFold Node : ℕ → Place

-- what is hashed at a place: two digests, or at the root a byte string
pub data Argument (D : Type 0) : Type 0 where
  Pair : D → D → Argument D
  Bytes : List ℕ → Argument D

-- the digest of two digests that are hashed at a place
abbrev pub hashed_at : {D : Type 0} → Hashing D → Place → D → D → D
hashed_at h (Node p) l r = h.node p l r
hashed_at h place l r = h.fold l r

-- the digest of an argument at a place
abbrev pub digest_of_argument : {D : Type 0} → Hashing D → Place → Argument D → D
digest_of_argument h place (Pair l r) = hashed_at h place l r
digest_of_argument h place (Bytes b) = h.hash b

-- what is hashed, with the place where it is hashed
pub record Input (D : Type 0) : Type 0 where
  pub place : Place
  pub argument : Argument D

-- how a digest comes about: given, hashed of two others at a place, or hashed and also told by the proof
pub data Expression (D : Type 0) : Type 0 where
  supplied : D → Expression D
  computed : Place → Expression D → Expression D → Expression D
  cross_checked : D → Expression D → Expression D

-- the digest of an expression
abbrev pub value : {D : Type 0} → Hashing D → Expression D → D
value h (supplied d) = d
value h (computed place l r) = hashed_at h place (value h l) (value h r)
value h (cross_checked d e) = value h e

-- each digest that the proof supplies beside a computed one equals it
abbrev pub Holds : {D : Type 0} → Hashing D → Expression D → Type 0
Holds h (supplied d) = Unit {0}
Holds h (computed place l r) = Holds h l × Holds h r
Holds h (cross_checked d e) = (d ≡ value h e) × Holds h e

-- every input of an expression, each before those below it, the left side before the right
abbrev pub visited : {D : Type 0} → Hashing D → Expression D → List (Input D)
visited h (supplied d) = []
visited h (computed place l r) = record { place = place; argument = Pair (value h l) (value h r) } ∷ visited h l ++ visited h r
visited h (cross_checked d e) = visited h e

-- whether a place is that of a merged node
abbrev pub is_node : Place → Bool
is_node (Node p) = true
is_node place = false

-- the inputs of an expression in the order in which collisions are looked for: the folds, and then the nodes
abbrev pub inputs : {D : Type 0} → Hashing D → Expression D → List (Input D)
inputs h e = filter (λ i. not (is_node i.place)) (visited h e) ++ filter (λ i. is_node i.place) (visited h e)

-- two expressions of one computation, each with some parts given
pub data Alike {D : Type 0} : Expression D → Expression D → Type 0 where
  cut_left : (d : D) (e : Expression D) → Alike (supplied d) e
  cut_right : (e : Expression D) (d : D) → Alike e (supplied d)
  both : (place : Place) {l l' r r' : Expression D} → Alike l l' → Alike r r' → Alike (computed place l r) (computed place l' r')
  cross_checked_left : (d : D) {e f : Expression D} → Alike e f → Alike (cross_checked d e) f

-- what is given or told on one side is the value on the other
abbrev pub Agree : {D : Type 0} (h : Hashing D) {e f : Expression D} → Alike e f → Type 0
Agree h (cut_left d e) = d ≡ value h e
Agree h (cut_right e d) = value h e ≡ d
Agree h (both place a b) = Agree h a × Agree h b
Agree h (cross_checked_left d {f = f} a) = (d ≡ value h f) × Agree h a
