-- What a multi-check claims: the folds are computed, and the proof supplies digests at positions, some of which are computed too.
use Rattle.std.specs.Prelude.{◌≡◌, ℕ, Bool, true, cond, ◌||◌, ◌⊎◌, Option, Some, None, IfSome, unwrap_or}
use Rattle.merkle_root_theory.specs.Expression.{Node, Expression, supplied, computed, cross_checked, value, Holds, inputs}
use Rattle.merkle_base.specs.Hashing.{Hashing, EqDecides}
use Rattle.merkle_base.specs.Tree.{Tree, leaf, join}
use Rattle.merkle_root_theory.specs.Plan.{Plan, peak, folding, plan_expression, tree_meets, tree_digest, plan_digest}
use Rattle.merkle_root_theory.specs.Collision.{Collision, Collides}

-- an expression, beside the digest that the proof supplies for it, if it does
abbrev pub also : {D : Type 0} → Option D → Expression D → Expression D
also None e = e
also (Some d) e = cross_checked d e

-- the digest that the proof supplies, or the empty digest where it supplies none
abbrev pub or_empty : {D : Type 0} → Hashing D → Option D → D
or_empty h o = unwrap_or o h.empty

-- what a check of scattered leaves computes of a tree; a: the digest that the proof supplies at a position
abbrev pub multi_tree : {D : Type 0} → Hashing D → (ℕ → Option D) → (ℕ → Bool) → (ℕ → D) → Tree → Expression D
multi_tree h a c X (leaf p i) = cond (c i) (also (a p) (supplied (X i))) (supplied (or_empty h (a p)))
multi_tree h a c X (join p l r) = cond (tree_meets c l || tree_meets c r)
    (also (a p) (computed (Node p) (multi_tree h a c X l) (multi_tree h a c X r)))
    (supplied (or_empty h (a p)))

-- what a check of scattered leaves computes of a plan: each peak by `multi_tree`, and each fold
abbrev pub multi_claim : {D : Type 0} → Hashing D → (ℕ → Option D) → (ℕ → Bool) → (ℕ → D) → Plan → Expression D
multi_claim h a c X (peak t) = multi_tree h a c X t
multi_claim h a c X (folding place l r) = computed place (multi_claim h a c X l) (multi_claim h a c X r)

-- what is told at a tree's position is its digest, and so below it, down to the nodes under which no chosen location lies
abbrev pub TellsTree : {D : Type 0} → Hashing D → (ℕ → Option D) → (ℕ → Bool) → (ℕ → D) → Tree → Type 0
TellsTree h a c X (leaf p i) = IfSome (a p) (λ d. d ≡ X i)
TellsTree h a c X (join p l r) = IfSome (a p) (λ d. d ≡ tree_digest h X (join p l r))
    × cond (tree_meets c l || tree_meets c r) (TellsTree h a c X l × TellsTree h a c X r) (Unit {0})

-- for each peak of a plan, what is told at a node's position is its digest, down to the nodes under which no chosen location lies
abbrev pub Tells : {D : Type 0} → Hashing D → (ℕ → Option D) → (ℕ → Bool) → (ℕ → D) → Plan → Type 0
Tells h a c X (peak t) = TellsTree h a c X t
Tells h a c X (folding place l r) = Tells h a c X l × Tells h a c X r

-- the leaves of a tree that a check is given are the list's
abbrev pub SameTree : {D : Type 0} → (ℕ → Bool) → (ℕ → D) → (ℕ → D) → Tree → Type 0
SameTree c X Y (leaf p i) = c i ≡ true → Y i ≡ X i
SameTree c X Y (join p l r) = SameTree c X Y l × SameTree c X Y r

-- the leaves of a plan's peaks that a check is given are the list's
abbrev pub SameLeaves : {D : Type 0} → (ℕ → Bool) → (ℕ → D) → (ℕ → D) → Plan → Type 0
SameLeaves c X Y (peak t) = SameTree c X Y t
SameLeaves c X Y (folding place l r) = SameLeaves c X Y l × SameLeaves c X Y r

-- a claim that holds and has the list's value supplies the list's digests, or collides with the list
abbrev pub MultiClaimSound : Type 0 → Type 0
MultiClaimSound D = (h : Hashing D) → EqDecides h → (a : ℕ → Option D) (c : ℕ → Bool) (X Y : ℕ → D) (p : Plan)
    → Holds h (multi_claim h a c Y p) → value h (multi_claim h a c Y p) ≡ plan_digest h X p
    → (Tells h a c X p × SameLeaves c X Y p) ⊎ ((k : Collision D) × Collides h (inputs h (multi_claim h a c Y p)) (inputs h (plan_expression X p)) k)
