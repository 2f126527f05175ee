-- What two lists with the same peaks show, and that an honest input shows no collision.
use Rattle.std.specs.Prelude.{◌≡◌, ℕ, Bool, true, ◌⊎◌, List, map, flat_map}
use Rattle.merkle_root_theory.specs.Expression.{Input, visited, inputs, is_node}
use Rattle.merkle_base.specs.Hashing.{Hashing, EqDecides}
use Rattle.merkle_root_theory.specs.Collision.{Member, Collision, Collides}
use Rattle.merkle_base.specs.Tree.{Tree}
use Rattle.merkle_root_theory.specs.Plan.{Plan, node_expression, tree_digest, plan_expression, honest_digests}
use Rattle.merkle_root_theory.specs.Claim.{InTree, claim_of}

-- the inputs of the nodes of peaks, oldest first
abbrev pub forest_inputs : {D : Type 0} → Hashing D → (ℕ → D) → List Tree → List (Input D)
forest_inputs h X ts = flat_map (λ t. visited h (node_expression X t)) ts

-- two lists with one digest at each peak are the same or collide at a node
abbrev pub SamePeaks : Type 0 → Type 0
SamePeaks D = (h : Hashing D) → EqDecides h → (X Y : ℕ → D) (ts : List Tree) → map (tree_digest h X) ts ≡ map (tree_digest h Y) ts
    → ((t : Tree) → Member ts t → (i : ℕ) → InTree t i → X i ≡ Y i)
    ⊎ ((c : Collision D) × Collides h (forest_inputs h X ts) (forest_inputs h Y ts) c × (is_node c.place ≡ true))

-- no place stands with two arguments
abbrev pub IsMap : {D : Type 0} → List (Input D) → Type 0
IsMap {D = D} xs = (x y : Input D) → Member xs x → Member xs y → x.place ≡ y.place → x ≡ y

-- an honest input's claim has no collision with the list
abbrev pub HonestNeverCollides : Type 0 → Type 0
HonestNeverCollides D = (h : Hashing D) (c : ℕ → Bool) (X Y : ℕ → D) (p : Plan) → ((i : ℕ) → c i ≡ true → Y i ≡ X i) → IsMap (inputs h (plan_expression X p))
    → (k : Collision D) → Collides h (inputs h (claim_of h c Y p (honest_digests h X c p))) (inputs h (plan_expression X p)) k → ⊥
