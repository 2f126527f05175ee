-- The pairs of positions and digests that a check of a range computes or is given.
use Rattle.std.specs.Prelude.{◌≡◌, ℕ, Bool, cond, ◌||◌, ◌⊎◌, ◌≤◌, ◌+◌, List, [], ◌∷◌, ◌++◌, length, drop, slice_get, Some}
use Rattle.std.specs.List.{AllByRecursion}
use Rattle.merkle_base.specs.Tree.{Tree, leaf, join, position}
use Rattle.merkle_base.specs.Digests.{node_digests}
use Rattle.merkle_root_theory.specs.Expression.{value}
use Rattle.merkle_base.specs.Hashing.{Hashing}
use Rattle.merkle_root_theory.specs.Plan.{tree_meets, siblings}
use Rattle.merkle_root_theory.specs.Claim.{next, tree_claim}
use Rattle.merkle_root_theory.specs.Outside.{fold_all, folded_prefix, single_before, single_after}
use Rattle.merkle_root_theory.specs.Check.{in_range, RangeInput, leaf_given}
use Rattle.merkle_base.specs.Scheme.{Scheme}
use Rattle.merkle_base.specs.Places.{peaks_of, wholly_before}
use Rattle.merkle_root_theory.specs.Range.{overlapping, wholly_after, range_parts, end_of, AcceptsNonempty, plan_root, IsLawfulScheme, RangeCollides}

-- the pairs below a node that overlaps the range: those of its left child, those of its right child, the left child, the right child;
-- ds: the digests for its siblings
abbrev pub inner_pairs : {D : Type 0} → Hashing D → (ℕ → Bool) → (ℕ → D) → Tree → List D → List (ℕ × D)
inner_pairs h c X (leaf p i) ds = []
inner_pairs h c X (join p l r) ds = cond (tree_meets c l || tree_meets c r)
    (inner_pairs h c X l ds ++ (inner_pairs h c X r (drop (length (siblings c l)) ds)
    ++ ((position l, value h (tree_claim h c X l ds)) ∷ (position r, value h (tree_claim h c X r (drop (length (siblings c l)) ds))) ∷ [])))
    []

-- the pairs of overlapping peaks, each after those below it
abbrev pub over_pairs : {D : Type 0} → Hashing D → (ℕ → Bool) → (ℕ → D) → List Tree → List D → List (ℕ × D)
over_pairs h c X [] ds = []
over_pairs h c X (t ∷ ts) ds = inner_pairs h c X t ds ++ ((position t, value h (tree_claim h c X t ds)) ∷ over_pairs h c X ts (drop (length (siblings c t)) ds))

-- the pairs of peaks that the proof gives, one digest for each
abbrev pub single_pairs : {D : Type 0} → Hashing D → List Tree → List D → List (ℕ × D)
single_pairs h [] ds = []
single_pairs h (t ∷ ts) ds = (position t, next h ds) ∷ single_pairs h ts (drop 1 ds)

-- the positions and digests that an input yields: those of the single peaks before, of the overlapping peaks with what is below them, and
-- of the single peaks after
abbrev pub extracted : {D : Type 0} → Scheme D → RangeInput D → List (ℕ × D)
extracted s r =
    let ts = peaks_of s.rule r.leaves in
    let before = wholly_before r.start ts in
    let over = overlapping r.start (end_of r) ts in
    let after = wholly_after (end_of r) ts in
    let folded = length (fold_all (folded_prefix s.bagging r.inactive before)) in
    let single = single_before s.bagging r.inactive before in
    single_pairs s.hashing single (drop folded r.digests)
    ++ (over_pairs s.hashing (in_range r.start (end_of r)) (leaf_given s.hashing r) over
    (drop (length (range_parts s.bagging r.inactive r.start (end_of r) ts)) r.digests)
    ++ single_pairs s.hashing (single_after s.bagging r.inactive (length before + length over) after) (drop (length single) (drop folded r.digests)))

-- a position with the list's digest there
abbrev pub IsNodePair : {D : Type 0} → Scheme D → List D → (ℕ × D) → Type 0
IsNodePair s xs x = slice_get (node_digests s.hashing s.rule xs) x.0 ≡ Some x.1

-- each position and digest that an accepted input yields is that of a node of each list with the root, or there is a collision
abbrev pub ExtractsNodes : Type 0 → Type 0
ExtractsNodes D = (s : Scheme D) (size max_nodes : ℕ) → IsLawfulScheme s size max_nodes
    → (xs : List D) (k : ℕ) → length xs ≤ s.max_leaves → k ≤ length (peaks_of s.rule (length xs)) → (r : RangeInput D)
    → AcceptsNonempty s r (plan_root s xs k) → AllByRecursion (IsNodePair s xs) (extracted s r) ⊎ RangeCollides s r xs k
