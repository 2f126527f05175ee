-- Two different arguments at one place with one digest.
use Rattle.std.specs.Prelude.{◌≡◌, ◌≢◌, List, [], ◌∷◌, ◌⊎◌}
use Rattle.merkle_root_theory.specs.Expression.{Place, Argument, digest_of_argument, Input, Expression, inputs, value, Holds, Alike, Agree}
use Rattle.merkle_base.specs.Hashing.{Hashing, EqDecides}

-- x is one of the elements
abbrev pub Member : {X : Type 0} → List X → X → Type 0
Member [] x = ⊥
Member (y ∷ ys) x = (y ≡ x) ⊎ Member ys x

-- a place and two arguments there, one of a claim and one of a list
pub record Collision (D : Type 0) : Type 0 where
  pub place : Place
  pub claimed : Argument D
  pub listed : Argument D

-- c is a collision of two lists of inputs: both have its place, with two different arguments that have one digest
pub record Collides {D : Type 0} (h : Hashing D) (xs ys : List (Input D)) (c : Collision D) : Type 0 where
  pub claimed : Member xs (record { place = c.place; argument = c.claimed })
  pub listed : Member ys (record { place = c.place; argument = c.listed })
  pub differ : c.claimed ≢ c.listed
  pub one_digest : digest_of_argument h c.place c.claimed ≡ digest_of_argument h c.place c.listed

-- two expressions of one computation that have one value agree in what they are given, or their inputs collide
abbrev pub AgreeOrCollide : Type 0 → Type 0
AgreeOrCollide D = (h : Hashing D) → EqDecides h → (e f : Expression D) (a : Alike e f) → Holds h e → value h e ≡ value h f
    → Agree h a ⊎ ((c : Collision D) × Collides h (inputs h e) (inputs h f) c)
