-- The claims of the checks, node by node, and what a walk over them finds.
use Rattle.std.specs.Prelude.{◌≡◌, ℕ, Bool, ◌+◌, List, [], ◌∷◌, ◌++◌, length, map, flat_map, drop, Option}
use Rattle.std.specs.List.{AllByRecursion}
use Rattle.merkle_base.specs.Hashing.{Hashing}
use Rattle.merkle_base.specs.Places.{peaks_of, wholly_before}
use Rattle.merkle_base.specs.Scheme.{Scheme}
use Rattle.merkle_base.specs.Tree.{Tree}
use Rattle.merkle_root_theory.specs.Check.{RangeInput, chosen, leaf_given, range_inputs, in_range}
use Rattle.merkle_root_theory.specs.Claim.{tree_claim}
use Rattle.merkle_root_theory.specs.Expression.{Place, Input, Expression}
use Rattle.merkle_root_theory.specs.Layouts.{count_before, count_after}
use Rattle.merkle_root_theory.specs.Plan.{peak, siblings}
use Rattle.merkle_root_theory.specs.Range.{end_of, overlapping, wholly_after, AcceptsNonempty}
use Rattle.merkle_claim_theory.specs.Multiproof.{MultiInput, multi_on}
use Rattle.merkle_claim_theory.specs.Order.{node_places}
use Rattle.merkle_claim_theory.specs.Pinned.{AcceptsPinnedSome}
use Rattle.merkle_claim_theory.specs.PinnedClaim.{pin_tree, pinned_tree}
use Rattle.merkle_claim_theory.specs.Rebuilt.{pin_at}
use Rattle.merkle_claim_theory.specs.Verdict.{multi_inputs, pinned_inputs}
use Rattle.merkle_audit_theory.specs.Differences.{is_difference}
use Rattle.merkle_audit_theory.specs.Searches.{input_at, looked_up}
use Rattle.merkle_walk_theory.specs.Compared.{found_among, Lists}

-- peaks that overlap a range, with what a range check claims of each; ds: the digests for their siblings
abbrev pub over_claims : {D : Type 0} → Hashing D → (ℕ → Bool) → (ℕ → D) → List Tree → List D → List (Tree × Expression D)
over_claims h c X [] ds = []
over_claims h c X (t ∷ ts) ds = (t, tree_claim h c X t ds) ∷ over_claims h c X ts (drop (length (siblings c t)) ds)

-- peaks that overlap a range, with what a check with pins claims of each, where w are the locations before the range; ds: the digests for
-- their siblings
abbrev pub pinned_over_claims : {D : Type 0} → Hashing D → (ℕ → Option D) → (w c : ℕ → Bool) → (ℕ → D) → List Tree → List D → List (Tree × Expression D)
pinned_over_claims h b w c X [] ds = []
pinned_over_claims h b w c X (t ∷ ts) ds = (t, pinned_tree h b w c X t ds) ∷ pinned_over_claims h b w c X ts (drop (length (siblings c t)) ds)

-- the digests of a range input that are for the siblings below the peaks that overlap its range
abbrev pub sibling_digests : {D : Type 0} → Scheme D → RangeInput D → List D
sibling_digests s r =
    let ts = peaks_of s.rule r.leaves in
    let before = wholly_before r.start ts in
    let met = length before + length (overlapping r.start (end_of r) ts) in
    drop (count_before s.bagging r.inactive before + count_after s.bagging r.inactive met (wholly_after (end_of r) ts)) r.digests

-- what a range check claims of the peaks that overlap its range
abbrev pub range_claims : {D : Type 0} → Scheme D → RangeInput D → List (Tree × Expression D)
range_claims s r =
    over_claims s.hashing (chosen r) (leaf_given s.hashing r) (overlapping r.start (end_of r) (peaks_of s.rule r.leaves)) (sibling_digests s r)

-- what a check of scattered leaves claims of each peak
abbrev pub multi_claims : {D : Type 0} → Scheme D → MultiInput D → List (Tree × Expression D)
multi_claims s r = map (λ t. (t, multi_on s r (peak t))) (peaks_of s.rule r.leaves)

-- what a check with pins claims of the peaks before its range, and of those that overlap it
abbrev pub pinned_claims : {D : Type 0} → Scheme D → RangeInput D → (pins : List D) → List (Tree × Expression D)
pinned_claims s r pins =
    let b = pin_at s r.start pins in
    map (λ t. (t, pin_tree s.hashing b t)) (wholly_before r.start (peaks_of s.rule r.leaves))
    ++ pinned_over_claims s.hashing b (in_range 0 r.start) (chosen r) (leaf_given s.hashing r)
    (overlapping r.start (end_of r) (peaks_of s.rule r.leaves)) (sibling_digests s r)

-- for each way to list digests of children, what a walk over claims finds is the first difference of these inputs, xs, from what is listed at
-- the nodes of the peaks of n leaves
abbrev pub WalkFindsFirstOf : {D : Type 0} → Scheme D → (n : ℕ) → List (Tree × Expression D) → (xs : List (Input D)) → Type 0
WalkFindsFirstOf {D} s n cs xs = (f : Tree → Option (D × D)) (g : Place → Option (Input D)) → AllByRecursion (Lists f g) (peaks_of s.rule n)
    → found_among s.hashing f cs ≡ looked_up (is_difference s.hashing) (flat_map node_places (peaks_of s.rule n)) (input_at xs) g

-- a walk over what an accepted input claims finds the first difference at a node, for the check of a range, of scattered leaves, and with pins
pub record WalksFindFirst (D : Type 0) : Type 0 where
  pub range : (s : Scheme D) (r : RangeInput D) (root : D) → AcceptsNonempty s r root → WalkFindsFirstOf s r.leaves (range_claims s r) (range_inputs s r)
  pub multi : (s : Scheme D) (r : MultiInput D) → WalkFindsFirstOf s r.leaves (multi_claims s r) (multi_inputs s r)
  pub pinned : (s : Scheme D) (r : RangeInput D) (pins : List D) (root : D) → AcceptsPinnedSome s r pins root
      → WalkFindsFirstOf s r.leaves (pinned_claims s r pins) (pinned_inputs s r pins)
