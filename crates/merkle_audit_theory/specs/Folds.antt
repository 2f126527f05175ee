-- What is hashed for a list, and for scattered leaves, by the digests of the peaks.
use Rattle.std.specs.Prelude.{◌≡◌, ◌+◌, Bool, ℕ, suc, pred, ◌-◌, List, [], ◌∷◌, ◌++◌, length, map, flat_map, take, drop, fold}
use Rattle.merkle_base.specs.Digests.{peak_digests}
use Rattle.merkle_base.specs.Hashing.{Hashing}
use Rattle.merkle_base.specs.Places.{peaks_of, wholly_before}
use Rattle.merkle_base.specs.Root.{folded, root_string}
use Rattle.merkle_base.specs.Scheme.{Scheme}
use Rattle.merkle_base.specs.Tree.{Tree}
use Rattle.merkle_base.specs.declared.family.Bagging.{Bagging}
use Rattle.merkle_base.specs.declared.family.Bagging.TheVariants.{ForwardFold, BackwardFold}
use Rattle.merkle_root_theory.specs.Expression.{Root, Join, PrefixFold, SuffixFold, Pair, Bytes, Input, value, visited}
use Rattle.merkle_root_theory.specs.Check.{RangeInput, chosen, leaf_given, range_inputs}
use Rattle.merkle_root_theory.specs.Claim.{tree_claim}
use Rattle.merkle_root_theory.specs.Layouts.{count_before, count_after, count_inactive}
use Rattle.merkle_root_theory.specs.Outside.{folded_prefix}
use Rattle.merkle_root_theory.specs.Plan.{peak, siblings}
use Rattle.merkle_root_theory.specs.Range.{end_of, overlapping, wholly_after, list_inputs, AcceptsNonempty}
use Rattle.merkle_root_theory.specs.Walk.{peak_values}
use Rattle.merkle_audit_theory.specs.Located.{node_inputs}
use Rattle.merkle_claim_theory.specs.Multiproof.{MultiInput, multi_on}
use Rattle.merkle_claim_theory.specs.Verdict.{multi_inputs}

-- the prefix folds that take in further peaks from number i on, the last first
abbrev pub left_inputs : {D : Type 0} → Hashing D → D → ℕ → List D → List (Input D)
left_inputs h acc i [] = []
left_inputs h acc i (d ∷ ds) = left_inputs h (h.fold acc d) (suc i) ds ++ (record { place = PrefixFold i; argument = Pair acc d } ∷ [])

-- the bag of a peak and those after it
abbrev pub right_value : {D : Type 0} → Hashing D → D → List D → D
right_value h d [] = d
right_value h d (e ∷ es) = h.fold d (right_value h e es)

-- the folds of the bag of a peak and those after it, the outermost first, the first peak having number i
abbrev pub right_inputs : {D : Type 0} → Hashing D → ℕ → D → List D → List (Input D)
right_inputs h i d [] = []
right_inputs h i d (e ∷ es) = record { place = SuffixFold i; argument = Pair d (right_value h e es) } ∷ right_inputs h (suc i) e es

-- an accumulator and its folds, joined with the bag of the other peaks, if there are any
abbrev pub joined_inputs : {D : Type 0} → Hashing D → D → List (Input D) → ℕ → List D → List (Input D)
joined_inputs h acc left i [] = left
joined_inputs h acc left i (e ∷ es) = record { place = Join; argument = Pair acc (right_value h e es) } ∷ left ++ right_inputs h i e es

-- the folds of peaks with these digests, in order
abbrev pub fold_inputs : {D : Type 0} → Hashing D → Bagging → ℕ → List D → List (Input D)
fold_inputs h bagging k [] = []
fold_inputs h ForwardFold k (d ∷ ds) = left_inputs h d 1 ds
fold_inputs h BackwardFold k (d ∷ ds) =
    joined_inputs h (fold h.fold d (take (pred k) ds)) (left_inputs h d 1 (take (pred k) ds)) (suc (pred k)) (drop (pred k) ds)

-- the folds of peaks with these digests, in order, where the first digest stands for m peaks; j of the digests are folded left to right
abbrev pub numbered_inputs : {D : Type 0} → Hashing D → Bagging → (k j m : ℕ) → List D → List (Input D)
numbered_inputs h bagging k j m [] = []
numbered_inputs h ForwardFold k j m (d ∷ ds) = left_inputs h d m ds
numbered_inputs h BackwardFold k j m (d ∷ ds) =
    joined_inputs h (fold h.fold d (take (j - 1) ds)) (left_inputs h d m (take (j - 1) ds)) (suc (pred k)) (drop (j - 1) ds)

-- the root's string and the folds, of peaks with these digests
abbrev pub top_inputs : {D : Type 0} → Scheme D → (leaves inactive : ℕ) → List D → List (Input D)
top_inputs s n k ds =
    record { place = Root; argument = Bytes (root_string s.hashing s.domain s.bagging n k (folded s.hashing.fold s.bagging k ds)) }
    ∷ fold_inputs s.hashing s.bagging k ds

-- the digest that a check of scattered leaves has at a peak
abbrev pub multi_digest : {D : Type 0} → Scheme D → MultiInput D → Tree → D
multi_digest s r t = value s.hashing (multi_on s r (peak t))

-- what is hashed for a list: first the root and the folds, by the peaks' digests; then the nodes of each peak
pub record InputsByPeaks (D : Type 0) : Type 0 where
  pub list : (s : Scheme D) (xs : List D) (k : ℕ) → list_inputs s xs k
      ≡ top_inputs s (length xs) k (peak_digests s.hashing s.rule xs) ++ node_inputs s.hashing s.rule xs
  pub multi : (s : Scheme D) (r : MultiInput D) → multi_inputs s r
      ≡ top_inputs s r.leaves r.inactive (map (multi_digest s r) (peaks_of s.rule r.leaves))
      ++ flat_map (λ t. visited s.hashing (multi_on s r (peak t))) (peaks_of s.rule r.leaves)

-- the nodes that are hashed under peaks that overlap a range; ds: the digests for their siblings
abbrev pub over_inputs : {D : Type 0} → Hashing D → (ℕ → Bool) → (ℕ → D) → List Tree → List D → List (Input D)
over_inputs h c X [] ds = []
over_inputs h c X (t ∷ ts) ds = visited h (tree_claim h c X t ds) ++ over_inputs h c X ts (drop (length (siblings c t)) ds)

-- what is hashed for an accepted range input: the root and the folds, by the digests that it has for the parts, and then the nodes of the
-- peaks that overlap the range
abbrev pub RangeByPeaks : Type 0 → Type 0
RangeByPeaks D = (s : Scheme D) (r : RangeInput D) (root : D) → AcceptsNonempty s r root
    → let ts = peaks_of s.rule r.leaves in
    let before = wholly_before r.start ts in
    let over = overlapping r.start (end_of r) ts in
    let after = wholly_after (end_of r) ts in
    let i = count_before s.bagging r.inactive before in
    let j = count_after s.bagging r.inactive (length before + length over) after in
    let n = count_inactive s.bagging r.inactive before in
    let rest = drop (i + j) r.digests in
    let all = take i r.digests ++ (peak_values s.hashing (chosen r) (leaf_given s.hashing r) over rest ++ take j (drop i r.digests)) in
    range_inputs s r
    ≡ record { place = Root; argument = Bytes (root_string s.hashing s.domain s.bagging r.leaves r.inactive (folded s.hashing.fold s.bagging n all)) }
    ∷ numbered_inputs s.hashing s.bagging r.inactive n (suc (pred (length (folded_prefix s.bagging r.inactive before)))) all
    ++ over_inputs s.hashing (chosen r) (leaf_given s.hashing r) over rest
