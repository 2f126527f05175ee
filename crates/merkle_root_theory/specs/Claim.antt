-- What a range check claims: the plan with the parts outside the range given by the proof, and the leaves in it by the elements.
use Rattle.std.specs.Prelude.{◌≡◌, ℕ, Bool, true, cond, ◌||◌, ◌⊎◌, ◌+◌, List, drop, get_or, length}
use Rattle.merkle_root_theory.specs.Expression.{Node, Expression, supplied, computed, value, inputs}
use Rattle.merkle_base.specs.Hashing.{Hashing, EqDecides}
use Rattle.merkle_base.specs.Tree.{Tree, leaf, join}
use Rattle.merkle_root_theory.specs.Plan.{Plan, peak, folding, plan_expression, tree_meets, meets, siblings, outside_parts, path_siblings, plan_digest, honest_digests}
use Rattle.merkle_root_theory.specs.Collision.{Collision, Collides}

-- the first of the digests that are left, or the empty digest
abbrev pub next : {D : Type 0} → Hashing D → List D → D
next h ds = get_or ds 0 h.empty

-- a tree's claim; ds: the digests for its siblings
abbrev pub tree_claim : {D : Type 0} → Hashing D → (ℕ → Bool) → (ℕ → D) → Tree → List D → Expression D
tree_claim h c X (leaf p i) ds = cond (c i) (supplied (X i)) (supplied (next h ds))
tree_claim h c X (join p l r) ds = cond (tree_meets c l || tree_meets c r)
    (computed (Node p) (tree_claim h c X l ds) (tree_claim h c X r (drop (length (siblings c l)) ds)))
    (supplied (next h ds))

-- a plan's claim; os: the digests for its outer parts; is: those for its inner nodes
abbrev pub claim : {D : Type 0} → Hashing D → (ℕ → Bool) → (ℕ → D) → Plan → List D → List D → Expression D
claim h c X (peak t) os is = cond (tree_meets c t) (tree_claim h c X t is) (supplied (next h os))
claim h c X (folding place l r) os is = cond (meets c l || meets c r)
    (computed place (claim h c X l os is) (claim h c X r (drop (length (outside_parts c l)) os) (drop (length (path_siblings c l)) is)))
    (supplied (next h os))

-- the claim of a proof's digests: the first of them are for the outer parts
abbrev pub claim_of : {D : Type 0} → Hashing D → (ℕ → Bool) → (ℕ → D) → Plan → List D → Expression D
claim_of h c X p ds = claim h c X p ds (drop (length (outside_parts c p)) ds)

-- an honest proof's claim has the list's value
abbrev pub HonestAccepted : Type 0 → Type 0
HonestAccepted D = (h : Hashing D) (c : ℕ → Bool) (X Y : ℕ → D) (p : Plan) → ((i : ℕ) → c i ≡ true → Y i ≡ X i)
    → value h (claim_of h c Y p (honest_digests h X c p)) ≡ plan_digest h X p

-- j is the location of a leaf of a tree
abbrev pub InTree : Tree → ℕ → Type 0
InTree (leaf p i) j = i ≡ j
InTree (join p l r) j = InTree l j ⊎ InTree r j

-- j is the location of a leaf under a plan
abbrev pub InPlan : Plan → ℕ → Type 0
InPlan (peak t) j = InTree t j
InPlan (folding place l r) j = InPlan l j ⊎ InPlan r j

-- what has as many digests as the plan asks, and the list's value, is honest or collides with the list
abbrev pub ClaimSound : Type 0 → Type 0
ClaimSound D = (h : Hashing D) → EqDecides h → (c : ℕ → Bool) (X Y : ℕ → D) (p : Plan) (ds : List D)
    → length ds ≡ length (outside_parts c p) + length (path_siblings c p)
    → value h (claim_of h c Y p ds) ≡ plan_digest h X p
    → ((ds ≡ honest_digests h X c p) × ((i : ℕ) → InPlan p i → c i ≡ true → Y i ≡ X i))
    ⊎ ((k : Collision D) × Collides h (inputs h (claim_of h c Y p ds)) (inputs h (plan_expression X p)) k)

-- two claims of one value agree at each location that both choose, or they collide
abbrev pub PairAgrees : Type 0 → Type 0
PairAgrees D = (h : Hashing D) → EqDecides h → (c d : ℕ → Bool) (X Y : ℕ → D) (p : Plan) (xs ys : List D)
    → value h (claim_of h c X p xs) ≡ value h (claim_of h d Y p ys)
    → ((i : ℕ) → InPlan p i → c i ≡ true → d i ≡ true → X i ≡ Y i)
    ⊎ ((k : Collision D) × Collides h (inputs h (claim_of h c X p xs)) (inputs h (claim_of h d Y p ys)) k)
