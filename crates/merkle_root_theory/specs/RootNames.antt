-- What a root that a range check accepts is a hash of, and what equal roots of two families or two baggings are.
use Rattle.std.specs.Prelude.{◌≡◌, ℕ, List, ◌∷◌, ◌++◌, Option}
use Rattle.std.specs.Int.{to_be_bytes, w64}
use Rattle.merkle_base.specs.Bagging.{bagging_byte}
use Rattle.merkle_base.specs.Hashing.{Hashing}
use Rattle.merkle_base.specs.Root.{list_root}
use Rattle.merkle_root_theory.specs.Expression.{Root, Bytes, Expression, Input}
use Rattle.merkle_root_theory.specs.Collision.{Collides}
use Rattle.merkle_root_theory.specs.Check.{RangeInput, root_of, all_inputs, range_inputs}
use Rattle.merkle_base.specs.Scheme.{Scheme}
use Rattle.merkle_root_theory.specs.Range.{Accepts, list_inputs}

-- the root is the hash of a string that begins with the family's byte, the bagging's byte and the leaf count in 8 bytes
abbrev pub NamesRoot : {D : Type 0} → Scheme D → ℕ → D → Type 0
NamesRoot s n root = (rest : List ℕ) × (root ≡ s.hashing.hash (s.domain ∷ bagging_byte s.bagging ∷ to_be_bytes w64 n ++ rest))

-- each root that is computed is the hash of a string that begins with its family's byte, its bagging's byte and its leaf count
abbrev pub RootIsNamed : Type 0 → Type 0
RootIsNamed D = (s : Scheme D) (n k : ℕ) (e : Option (Expression D)) → NamesRoot s n (root_of s n k e)

-- each root that a range check accepts is the hash of a string that begins with its family's byte, its bagging's byte and the input's leaf
-- count
abbrev pub YesNamesRoot : Type 0 → Type 0
YesNamesRoot D = (s : Scheme D) (r : RangeInput D) (root : D) → Accepts s r root → NamesRoot s r.leaves root

-- two schemes differ in the family's byte or in the bagging, over one plain hash
pub record AreApart {D : Type 0} (s t : Scheme D) : Type 0 where
  pub one_hash : s.hashing.hash ≡ t.hashing.hash
  pub apart : (s.domain ≡ t.domain) × (s.bagging ≡ t.bagging) → ⊥

-- two different byte strings with one hash, each the root's argument on its side
abbrev pub RootsCollide : {D : Type 0} → Hashing D → List (Input D) → List (Input D) → Type 0
RootsCollide h xs ys = (a b : List ℕ) × Collides h xs ys (record { place = Root; claimed = Bytes a; listed = Bytes b })

-- two equal roots of schemes that differ in family or bagging come from two different strings with one hash, whatever is hashed for them
abbrev pub EqualRootsCollide : Type 0 → Type 0
EqualRootsCollide D = (s t : Scheme D) → AreApart s t → (n m k j : ℕ) (e f : Option (Expression D)) → root_of s n k e ≡ root_of t m j f
    → RootsCollide s.hashing (all_inputs s n k e) (all_inputs t m j f)

-- where an accepted root is also that of a list under another family's byte or bagging, two different strings have one hash
abbrev pub OtherListCollides : Type 0 → Type 0
OtherListCollides D = (s t : Scheme D) → AreApart s t → (r : RangeInput D) (root : D) → Accepts s r root
    → (xs : List D) (k : ℕ) → list_root t xs k ≡ root → RootsCollide s.hashing (range_inputs s r) (list_inputs t xs k)

-- where one root is accepted under two families' bytes or baggings, two different strings have one hash
abbrev pub OtherYesCollides : Type 0 → Type 0
OtherYesCollides D = (s t : Scheme D) → AreApart s t → (r q : RangeInput D) (root : D) → Accepts s r root → Accepts t q root
    → RootsCollide s.hashing (range_inputs s r) (range_inputs t q)
