-- A collision of two lists at a node, as a located collision of the inputs of their forests.
use Rattle.std.specs.Prelude.{◌≡◌, ℕ, List, length}
use Rattle.merkle_base.specs.Hashing.{Hashing}
use Rattle.merkle_base.specs.Places.{peaks_of}
use Rattle.merkle_base.specs.Collision.{Collide}
use Rattle.merkle_root_theory.specs.Expression.{Node, Input}
use Rattle.merkle_root_theory.specs.Collision.{Collision, Collides}
use Rattle.merkle_root_theory.specs.Range.{leaf_of}
use Rattle.merkle_claim_theory.specs.Exact.{forest_inputs}

-- the inputs of the nodes of a list's forest
abbrev pub node_inputs : {D : Type 0} → Hashing D → (List ℕ → List ℕ) → List D → List (Input D)
node_inputs h rule xs = forest_inputs h (leaf_of h xs) (peaks_of rule (length xs))

-- where two lists of one length collide at a node, the inputs of their forests collide at its place
abbrev pub CollideIsLocated : Type 0 → Type 0
CollideIsLocated D = (h : Hashing D) (rule : List ℕ → List ℕ) (X Z : List D) → length X ≡ length Z → (w : Collide h rule X Z)
    → (c : Collision D) × Collides h (node_inputs h rule X) (node_inputs h rule Z) c × (c.place ≡ Node w.0)

-- where the inputs of two lists' forests collide at a node's place, the lists, if of one length, collide at that node
abbrev pub LocatedIsCollide : Type 0 → Type 0
LocatedIsCollide D = (h : Hashing D) (rule : List ℕ → List ℕ) (X Z : List D) → length X ≡ length Z
    → (c : Collision D) → Collides h (node_inputs h rule X) (node_inputs h rule Z) c → (p : ℕ) → c.place ≡ Node p
    → (w : Collide h rule X Z) × (w.0 ≡ p)
