-- Honest multi inputs and honest pinned inputs have the list's value, and what they tell holds.
use Rattle.std.specs.Prelude.{◌≡◌, ℕ, Bool, true, cond, ◌||◌, Option, IfSome}
use Rattle.merkle_root_theory.specs.Expression.{value, Holds}
use Rattle.merkle_base.specs.Hashing.{Hashing}
use Rattle.merkle_base.specs.Tree.{Tree, leaf, join}
use Rattle.merkle_root_theory.specs.Plan.{Plan, peak, folding, tree_meets, outside_parts, path_siblings, tree_digest, plan_digest, honest_digests}
use Rattle.merkle_claim_theory.specs.MultiClaim.{or_empty, multi_claim}
use Rattle.merkle_claim_theory.specs.PinnedClaim.{PinsAll, PinsTrees, pinned_of}

-- in a tree, `a` has the digest of each maximal node under which no chosen location lies, and no wrong digest above them
abbrev pub HonestTree : {D : Type 0} → Hashing D → (ℕ → Option D) → (ℕ → Bool) → (ℕ → D) → Tree → Type 0
HonestTree h a c X (leaf p i) = cond (c i) (IfSome (a p) (λ d. d ≡ X i)) (or_empty h (a p) ≡ X i)
HonestTree h a c X (join p l r) = cond (tree_meets c l || tree_meets c r)
    (IfSome (a p) (λ d. d ≡ tree_digest h X (join p l r)) × HonestTree h a c X l × HonestTree h a c X r)
    (or_empty h (a p) ≡ tree_digest h X (join p l r))

-- in each peak of a plan, `a` has the digest of each maximal node under which no chosen location lies, and no wrong digest above them
abbrev pub HonestPlan : {D : Type 0} → Hashing D → (ℕ → Option D) → (ℕ → Bool) → (ℕ → D) → Plan → Type 0
HonestPlan h a c X (peak t) = HonestTree h a c X t
HonestPlan h a c X (folding place l r) = HonestPlan h a c X l × HonestPlan h a c X r

-- an honest multi claim holds, and has the list's value
abbrev pub HonestMultiAccepted : Type 0 → Type 0
HonestMultiAccepted D = (h : Hashing D) (a : ℕ → Option D) (c : ℕ → Bool) (X Y : ℕ → D) (p : Plan) → ((i : ℕ) → c i ≡ true → Y i ≡ X i) → HonestPlan h a c X p
    → Holds h (multi_claim h a c Y p) × (value h (multi_claim h a c Y p) ≡ plan_digest h X p)

-- an honest claim with honest pins holds, and has the list's value
abbrev pub HonestPinsAccepted : Type 0 → Type 0
HonestPinsAccepted D = (h : Hashing D) (b : ℕ → Option D) (w c : ℕ → Bool) (X Y : ℕ → D) (p : Plan) → ((i : ℕ) → c i ≡ true → Y i ≡ X i)
    → PinsAll h b w X (outside_parts c p) → PinsTrees h b w X (path_siblings c p)
    → Holds h (pinned_of h b w c Y p (honest_digests h X c p)) × (value h (pinned_of h b w c Y p (honest_digests h X c p)) ≡ plan_digest h X p)
