-- What the nodes that a structure holds are hashed to, and which lists have the same root.
use Rattle.std.specs.Prelude.{◌≡◌, ℕ, ◌≤◌, ◌⊎◌, ◌&&◌, cond, List, length, Option, is_some}
use Rattle.std.specs.Option.{option_map}
use Rattle.merkle_base.specs.Tree.{Tree, leaf, join, position}
use Rattle.merkle_base.specs.Forest.{size}
use Rattle.merkle_base.specs.Hashing.{Hashing}
use Rattle.merkle_base.specs.Places.{peaks_of}
use Rattle.merkle_base.specs.Root.{peaks_root}
use Rattle.merkle_base.specs.Scheme.{Scheme}
use Rattle.merkle_root_theory.specs.Expression.{Node, Expression, supplied, computed, Input}
use Rattle.merkle_root_theory.specs.Plan.{Plan, peak, folding, root_plan}
use Rattle.merkle_root_theory.specs.Check.{all_inputs}
use Rattle.merkle_root_theory.specs.Collision.{Collision, Collides}
use Rattle.merkle_root_theory.specs.Range.{ForRootOf, IsLawfulScheme, list_inputs}
use Rattle.merkle_claim_theory.specs.MultiClaim.{or_empty}
use Rattle.merkle_batch_theory.specs.Contents.{Contents, HoldsKept, Agrees, held_peaks}
use Rattle.merkle_restore_theory.specs.Damage.{IsWhole}

-- how the digest of a node follows from what is held: it is hashed of its children where both are held, and else taken as it is held
abbrev pub held_tree : {D : Type 0} → Hashing D → (node : ℕ → Option D) → Tree → Expression D
held_tree h node (leaf p k) = supplied (or_empty h (node p))
held_tree h node (join p l r) = cond (is_some (node (position l)) && is_some (node (position r)))
    (computed (Node p) (held_tree h node l) (held_tree h node r))
    (supplied (or_empty h (node p)))

-- how the digest of a plan follows from what is held: each peak by `held_tree`, and each fold
abbrev pub held_plan : {D : Type 0} → Hashing D → (node : ℕ → Option D) → Plan → Expression D
held_plan h node (peak t) = held_tree h node t
held_plan h node (folding place l r) = computed place (held_plan h node l) (held_plan h node r)

-- how the folded digest of the peaks of n leaves follows from what is held, if there are peaks
abbrev pub held_expression : {D : Type 0} → Scheme D → (node : ℕ → Option D) → (n k : ℕ) → Option (Expression D)
held_expression s node n k = option_map (held_plan s.hashing node) (root_plan s.bagging k (peaks_of s.rule n))

-- all that is hashed from what is held, up to the root of n leaves for k inactive peaks
abbrev pub held_inputs : {D : Type 0} → Scheme D → (node : ℕ → Option D) → (n k : ℕ) → List (Input D)
held_inputs s node n k = all_inputs s n k (held_expression s node n k)

-- what is hashed from what is held and what is hashed for the list X with j inactive peaks collide
abbrev pub HeldCollides : {D : Type 0} → Scheme D → (node : ℕ → Option D) → (n k : ℕ) → List D → ℕ → Type 0
HeldCollides {D} s node n k X j = (e : Collision D) × Collides s.hashing (held_inputs s node n k) (list_inputs s X j) e

-- the structure of n leaves agrees with each list that has its root for k inactive peaks, or what is hashed collides
abbrev pub AgreesByRoot : {D : Type 0} → Scheme D → Contents D → (n k : ℕ) → Type 0
AgreesByRoot s c n k = ForRootOf s (peaks_root s n k k (held_peaks s.rule n c)) (λ X j. Agrees s.hashing s.rule c X ⊎ HeldCollides s c.node n k X j)

-- a whole structure agrees with each list that has its root, or what is hashed collides
abbrev pub WholeAgrees : Type 0 → Type 0
WholeAgrees D = (s : Scheme D) (digest_size max_nodes : ℕ) → IsLawfulScheme s digest_size max_nodes
    → (c : Contents D) (n : ℕ) → HoldsKept s.rule c → c.boundary ≤ n → n ≤ s.max_leaves → size s.rule n ≡ c.size
    → IsWhole s.hashing s.rule n c.node → (k : ℕ) → k ≤ length (peaks_of s.rule n) → AgreesByRoot s c n k
