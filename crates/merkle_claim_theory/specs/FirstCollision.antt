-- The first collision of two lists of inputs, found by tests.
use Rattle.std.specs.Prelude.{◌≡◌, Bool, true, false, not, cond, ◌&&◌, ◌==◌, List, [], ◌∷◌, ◌++◌, Option, Some, None, bytes_eq, MatchOption}
use Rattle.merkle_root_theory.specs.Expression.{Place, Root, Join, PrefixFold, SuffixFold, Node, Argument, Pair, Bytes, digest_of_argument, Input}
use Rattle.merkle_base.specs.Hashing.{Hashing, EqDecides}
use Rattle.merkle_root_theory.specs.Collision.{Collision, Collides}

-- whether two places are one
abbrev pub same_place : Place → Place → Bool
same_place Root Root = true
same_place Join Join = true
same_place (PrefixFold i) (PrefixFold j) = i == j
same_place (SuffixFold i) (SuffixFold j) = i == j
same_place (Node p) (Node q) = p == q
same_place _ _ = false

-- whether two arguments are one
abbrev pub same_argument : {D : Type 0} → Hashing D → Argument D → Argument D → Bool
same_argument h (Pair a b) (Pair c d) = h.same a c && h.same b d
same_argument h (Bytes a) (Bytes b) = bytes_eq a b
same_argument h (Pair a b) (Bytes c) = false
same_argument h (Bytes c) (Pair a b) = false

-- whether two inputs are at one place, with two arguments and one digest
abbrev pub is_collision : {D : Type 0} → Hashing D → Input D → Input D → Bool
is_collision h x y = same_place x.place y.place && not (same_argument h x.argument y.argument)
    && h.same (digest_of_argument h x.place x.argument) (digest_of_argument h y.place y.argument)

-- the first of two answers, or else the second
abbrev pub or_else : {X : Type 0} → Option X → Option X → Option X
or_else None y = y
or_else (Some x) y = Some x

-- the first of the claimed inputs that collides with y
abbrev pub first_for : {D : Type 0} → Hashing D → List (Input D) → Input D → Option (Collision D)
first_for h [] y = None
first_for h (x ∷ xs) y = cond (is_collision h x y) (Some (record { place = y.place; claimed = x.argument; listed = y.argument })) (first_for h xs y)

-- the first of the listed inputs with which one collides
abbrev pub first_collision : {D : Type 0} → Hashing D → List (Input D) → List (Input D) → Option (Collision D)
first_collision h xs [] = None
first_collision h xs (y ∷ ys) = or_else (first_for h xs y) (first_collision h xs ys)

-- a collision at a listed input, with none at an input before it
pub record IsFirstCollision {D : Type 0} (h : Hashing D) (xs ys : List (Input D)) (c : Collision D) : Type 0 where
  pub collides : Collides h xs ys c
  pub before : List (Input D)
  pub after : List (Input D)
  pub split : ys ≡ before ++ record { place = c.place; argument = c.listed } ∷ after
  pub none_before : (d : Collision D) → Collides h xs before d → ⊥

-- the search finds the first collision, or there is none
abbrev pub FindsFirst : Type 0 → Type 0
FindsFirst D = (h : Hashing D) → EqDecides h
    → (xs ys : List (Input D)) → MatchOption (first_collision h xs ys) ((c : Collision D) → Collides h xs ys c → ⊥) (λ c. IsFirstCollision h xs ys c)
