-- What a pinned check claims beside a range check: the parts before the range are rebuilt from the pins.
use Rattle.std.specs.Prelude.{◌≡◌, ℕ, Bool, true, cond, ◌||◌, ◌⊎◌, ◌+◌, List, [], ◌∷◌, Option, Some, None, drop, length, MatchOption}
use Rattle.merkle_root_theory.specs.Expression.{Node, Expression, supplied, computed, cross_checked, value, Holds, inputs}
use Rattle.merkle_base.specs.Hashing.{Hashing, EqDecides}
use Rattle.merkle_base.specs.Tree.{Tree, leaf, join}
use Rattle.merkle_root_theory.specs.Plan.{Plan, peak, folding, plan_expression, tree_meets, meets, siblings, outside_parts, path_siblings, tree_digest, plan_digest, honest_digests}
use Rattle.merkle_root_theory.specs.Claim.{next, InPlan}
use Rattle.merkle_claim_theory.specs.MultiClaim.{or_empty}
use Rattle.merkle_root_theory.specs.Collision.{Collision, Collides}

-- an expression, unless a digest is given for it
abbrev pub pinned_or : {D : Type 0} → Option D → Expression D → Expression D
pinned_or None e = e
pinned_or (Some d) e = supplied d

-- a tree rebuilt from the pins; b: the pin at a position
abbrev pub pin_tree : {D : Type 0} → Hashing D → (ℕ → Option D) → Tree → Expression D
pin_tree h b (leaf p i) = supplied (or_empty h (b p))
pin_tree h b (join p l r) = pinned_or (b p) (computed (Node p) (pin_tree h b l) (pin_tree h b r))

-- a plan rebuilt from the pins
abbrev pub pin_plan : {D : Type 0} → Hashing D → (ℕ → Option D) → Plan → Expression D
pin_plan h b (peak t) = pin_tree h b t
pin_plan h b (folding place l r) = computed place (pin_plan h b l) (pin_plan h b r)

-- a node given by the proof, rebuilt from the pins if it lies before the range; w: whether a location lies before the range
abbrev pub outside_tree : {D : Type 0} → Hashing D → (ℕ → Option D) → (ℕ → Bool) → Tree → D → Expression D
outside_tree h b w t d = cond (tree_meets w t) (cross_checked d (pin_tree h b t)) (supplied d)

-- a part of a plan given by the proof, rebuilt from the pins if it lies before the range; w: whether a location lies before the range
abbrev pub outside_plan : {D : Type 0} → Hashing D → (ℕ → Option D) → (ℕ → Bool) → Plan → D → Expression D
outside_plan h b w p d = cond (meets w p) (cross_checked d (pin_plan h b p)) (supplied d)

-- a tree's claim, what lies before the range being rebuilt
abbrev pub pinned_tree : {D : Type 0} → Hashing D → (ℕ → Option D) → (ℕ → Bool) → (ℕ → Bool) → (ℕ → D) → Tree → List D → Expression D
pinned_tree h b w c X (leaf p i) ds = cond (c i) (supplied (X i)) (outside_tree h b w (leaf p i) (next h ds))
pinned_tree h b w c X (join p l r) ds = cond (tree_meets c l || tree_meets c r)
    (computed (Node p) (pinned_tree h b w c X l ds) (pinned_tree h b w c X r (drop (length (siblings c l)) ds)))
    (outside_tree h b w (join p l r) (next h ds))

-- a plan's claim, what lies before the range being rebuilt
abbrev pub pinned_claim : {D : Type 0} → Hashing D → (ℕ → Option D) → (ℕ → Bool) → (ℕ → Bool) → (ℕ → D) → Plan → List D → List D → Expression D
pinned_claim h b w c X (peak t) os is = cond (tree_meets c t) (pinned_tree h b w c X t is) (outside_plan h b w (peak t) (next h os))
pinned_claim h b w c X (folding place l r) os is = cond (meets c l || meets c r)
    (computed place (pinned_claim h b w c X l os is) (pinned_claim h b w c X r (drop (length (outside_parts c l)) os) (drop (length (path_siblings c l)) is)))
    (outside_plan h b w (folding place l r) (next h os))

-- the claim of a proof's digests, what lies before the range being rebuilt
abbrev pub pinned_of : {D : Type 0} → Hashing D → (ℕ → Option D) → (ℕ → Bool) → (ℕ → Bool) → (ℕ → D) → Plan → List D → Expression D
pinned_of h b w c X p ds = pinned_claim h b w c X p ds (drop (length (outside_parts c p)) ds)

-- the pins at a tree's nodes, down to the first on each way, are the nodes' digests
abbrev pub PinsTree : {D : Type 0} → Hashing D → (ℕ → Option D) → (ℕ → D) → Tree → Type 0
PinsTree h b X (leaf p i) = or_empty h (b p) ≡ X i
PinsTree h b X (join p l r) = MatchOption (b p) (PinsTree h b X l × PinsTree h b X r) (λ d. d ≡ tree_digest h X (join p l r))

-- in each peak of a plan, the pins at its nodes, down to the first on each way, are the nodes' digests
abbrev pub PinsPlan : {D : Type 0} → Hashing D → (ℕ → Option D) → (ℕ → D) → Plan → Type 0
PinsPlan h b X (peak t) = PinsTree h b X t
PinsPlan h b X (folding place l r) = PinsPlan h b X l × PinsPlan h b X r

-- in each of some parts that lies before the range, the pins at its nodes, down to the first on each way, are the nodes' digests
abbrev pub PinsAll : {D : Type 0} → Hashing D → (ℕ → Option D) → (ℕ → Bool) → (ℕ → D) → List Plan → Type 0
PinsAll h b w X [] = Unit {0}
PinsAll h b w X (p ∷ ps) = (meets w p ≡ true → PinsPlan h b X p) × PinsAll h b w X ps

-- in each of some trees that lies before the range, the pins at its nodes, down to the first on each way, are the nodes' digests
abbrev pub PinsTrees : {D : Type 0} → Hashing D → (ℕ → Option D) → (ℕ → Bool) → (ℕ → D) → List Tree → Type 0
PinsTrees h b w X [] = Unit {0}
PinsTrees h b w X (t ∷ ts) = (tree_meets w t ≡ true → PinsTree h b X t) × PinsTrees h b w X ts

-- a pinned input that has as many digests as the plan asks, whose told digests hold, and that has the list's value:
-- its range input is honest and so are its pins, or it collides
abbrev pub PinnedClaimSound : Type 0 → Type 0
PinnedClaimSound D = (h : Hashing D) → EqDecides h → (b : ℕ → Option D) (w c : ℕ → Bool) (X Y : ℕ → D) (p : Plan) (ds : List D)
    → length ds ≡ length (outside_parts c p) + length (path_siblings c p)
    → Holds h (pinned_of h b w c Y p ds) → value h (pinned_of h b w c Y p ds) ≡ plan_digest h X p
    → ((ds ≡ honest_digests h X c p) × ((i : ℕ) → InPlan p i → c i ≡ true → Y i ≡ X i)
    × PinsAll h b w X (outside_parts c p) × PinsTrees h b w X (path_siblings c p))
    ⊎ ((k : Collision D) × Collides h (inputs h (pinned_of h b w c Y p ds)) (inputs h (plan_expression X p)) k)
