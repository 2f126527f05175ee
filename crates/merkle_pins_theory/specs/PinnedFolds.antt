-- What is hashed for a range input with pins, by the digests of the peaks.
use Rattle.std.specs.Prelude.{◌≡◌, ◌+◌, Bool, ℕ, List, [], ◌∷◌, ◌++◌, Option, length, map, flat_map, take, drop}
use Rattle.merkle_base.specs.Hashing.{Hashing}
use Rattle.merkle_base.specs.Places.{peaks_of, wholly_before}
use Rattle.merkle_base.specs.Scheme.{Scheme}
use Rattle.merkle_base.specs.Tree.{Tree}
use Rattle.merkle_root_theory.specs.Expression.{Input, visited}
use Rattle.merkle_root_theory.specs.Check.{RangeInput, in_range, chosen, leaf_given}
use Rattle.merkle_root_theory.specs.Layouts.{count_before, count_after}
use Rattle.merkle_root_theory.specs.Plan.{siblings}
use Rattle.merkle_root_theory.specs.Range.{end_of, overlapping, wholly_after}
use Rattle.merkle_root_theory.specs.Walk.{peak_values}
use Rattle.merkle_claim_theory.specs.Pinned.{AcceptsPinnedSome}
use Rattle.merkle_claim_theory.specs.PinnedClaim.{pin_tree, pinned_tree}
use Rattle.merkle_claim_theory.specs.Rebuilt.{rebuilt_node, pin_at}
use Rattle.merkle_claim_theory.specs.Verdict.{pinned_inputs}
use Rattle.merkle_audit_theory.specs.Folds.{top_inputs}

-- the nodes that are hashed under peaks that overlap a range, where w are the locations before it; ds: the digests for their siblings
abbrev pub pinned_over_inputs : {D : Type 0} → Hashing D → (ℕ → Option D) → (w c : ℕ → Bool) → (ℕ → D) → List Tree → List D → List (Input D)
pinned_over_inputs h b w c X [] ds = []
pinned_over_inputs h b w c X (t ∷ ts) ds = visited h (pinned_tree h b w c X t ds) ++ pinned_over_inputs h b w c X ts (drop (length (siblings c t)) ds)

-- what is hashed for an accepted range input with pins: the root and the folds, by the digests of the peaks, and then the nodes. The peaks
-- before the range are rebuilt from the pins, each apart; the last of the digests may stand for the bag of several peaks after it
abbrev pub PinnedByPeaks : Type 0 → Type 0
PinnedByPeaks D = (s : Scheme D) (r : RangeInput D) (pins : List D) (root : D) → AcceptsPinnedSome s r pins root
    → let ts = peaks_of s.rule r.leaves in
    let before = wholly_before r.start ts in
    let over = overlapping r.start (end_of r) ts in
    let after = wholly_after (end_of r) ts in
    let i = count_before s.bagging r.inactive before in
    let j = count_after s.bagging r.inactive (length before + length over) after in
    let b = pin_at s r.start pins in
    let rest = drop (i + j) r.digests in
    let all = map (rebuilt_node s.hashing b) before ++ (peak_values s.hashing (chosen r) (leaf_given s.hashing r) over rest ++ take j (drop i r.digests)) in
    pinned_inputs s r pins
    ≡ top_inputs s r.leaves r.inactive all
    ++ (flat_map (λ t. visited s.hashing (pin_tree s.hashing b t)) before
    ++ pinned_over_inputs s.hashing b (in_range 0 r.start) (chosen r) (leaf_given s.hashing r) over rest)
