-- What a range proof reads, and what it is made of.
use Rattle.std.specs.Prelude.{◌≡◌, ℕ, ◌+◌, ◌≤◌, ◌<◌, ◌⊎◌, List, ◌∷◌, ◌++◌, map, length, Option, Some, None, Result, IfOk, slice_get, take, drop, ◌-◌}
use Rattle.std.specs.List.{AllZip}
use Rattle.merkle_base.specs.Tree.{Tree, position}
use Rattle.merkle_base.specs.Forest.{forest}
use Rattle.merkle_base.specs.Hashing.{Hashing}
use Rattle.merkle_base.specs.Digests.{digest_at}
use Rattle.merkle_base.specs.Places.{peaks_of, wholly_before}
use Rattle.merkle_base.specs.declared.family.Bagging.{Bagging}
use Rattle.merkle_base.specs.declared.error.Error.{Error}
use Rattle.merkle_base.specs.declared.error.Error.TheVariants.{Empty, RangeOutOfBounds, LocationOverflow, InvalidProof, ElementPruned}
use Rattle.merkle_root_theory.specs.Check.{RangeInput}
use Rattle.merkle_base.specs.Scheme.{Scheme}
use Rattle.merkle_root_theory.specs.Layouts.{laid_out}
use Rattle.merkle_root_theory.specs.Reads.{nodes_read, reading_order, both_read}
use Rattle.merkle_root_theory.specs.Outside.{folded_prefix, single_before, single_after, folded_suffix}
use Rattle.merkle_root_theory.specs.Range.{overlapping, wholly_after, range_laid_out, range_siblings, IsHonestRange}
use Rattle.merkle_proof.specs.declared.proof.Proof.{Proof}

-- a range of a number of leaves
pub record LeafRange : Type 0 where
  pub leaves : ℕ
  pub start : ℕ
  pub end : ℕ

-- the range has leaves and lies within the leaves, a list may have as many, and k of its peaks may be inactive
abbrev pub FitsLeaves : (rule : List ℕ → List ℕ) → (max_leaves k : ℕ) → LeafRange → Type 0
FitsLeaves rule max_leaves k r = (r.start < r.end) × (r.end ≤ r.leaves) × (r.leaves ≤ max_leaves) × (k ≤ length (peaks_of rule r.leaves))

-- the peaks before a range that are folded into one digest of its proof
abbrev pub peaks_folded : Bagging → (rule : List ℕ → List ℕ) → (k : ℕ) → LeafRange → List Tree
peaks_folded bagging rule k r = folded_prefix bagging k (wholly_before r.start (peaks_of rule r.leaves))

-- the peaks before a range whose digests stand alone in its proof
abbrev pub peaks_before : Bagging → (rule : List ℕ → List ℕ) → (k : ℕ) → LeafRange → List Tree
peaks_before bagging rule k r = single_before bagging k (wholly_before r.start (peaks_of rule r.leaves))

-- the peaks that overlap a range
abbrev pub peaks_over : (rule : List ℕ → List ℕ) → LeafRange → List Tree
peaks_over rule r = overlapping r.start r.end (peaks_of rule r.leaves)

-- how many peaks lie before a range or overlap it
abbrev pub peaks_met : (rule : List ℕ → List ℕ) → LeafRange → ℕ
peaks_met rule r = length (wholly_before r.start (peaks_of rule r.leaves)) + length (overlapping r.start r.end (peaks_of rule r.leaves))

-- the peaks after a range whose digests stand alone in its proof
abbrev pub peaks_after : Bagging → (rule : List ℕ → List ℕ) → (k : ℕ) → LeafRange → List Tree
peaks_after bagging rule k r = single_after bagging k (peaks_met rule r) (wholly_after r.end (peaks_of rule r.leaves))

-- the peaks after a range that are folded into one digest of its proof
abbrev pub peaks_suffix : Bagging → (rule : List ℕ → List ℕ) → (k : ℕ) → LeafRange → List Tree
peaks_suffix bagging rule k r = folded_suffix bagging k (peaks_met rule r) (wholly_after r.end (peaks_of rule r.leaves))

-- a plan of a range: the range has leaves, the counts are those of the list and of its peaks, and these nodes are read: first the `before`
-- peaks before the range, then the `after` peaks after it
pub record IsPlan (rule : List ℕ → List ℕ) (max_leaves n a b peaks before after : ℕ) (reads : List ℕ) : Type 0 where
  pub nonempty : a < b
  pub within : b ≤ n
  pub within_max_leaves : n ≤ max_leaves
  pub peaks_are : peaks ≡ length (peaks_of rule n)
  pub before_are : before ≡ length (wholly_before a (peaks_of rule n))
  pub after_are : after ≡ length (wholly_after b (peaks_of rule n))
  pub reads_are : reads ≡ map position (nodes_read rule n a b)

-- why a range has no plan: it is empty, or ends past the leaves, or these are too many
abbrev pub IsRefusal : {F : Type 0} → (max_leaves n a b : ℕ) → Error F → Type 0
IsRefusal max_leaves n a b e =
    ((b ≤ a) × (e ≡ Empty))
    ⊎ (((a < b) × (n < b) × (e ≡ RangeOutOfBounds b)) ⊎ ((a < b) × (b ≤ n) × (max_leaves < n) × (e ≡ LocationOverflow n)))

-- the digests are answered at the positions, one at each
abbrev pub AreAnswered : {D : Type 0} → (ℕ → Option D → Type 0) → List ℕ → List D → Type 0
AreAnswered answered ps ds = AllZip (λ p d. answered p (Some d)) ps ds

-- the digests of a proof are those that are answered at the positions of its prefix, its single nodes, its suffix and its path siblings
pub record IsLaidOut {D : Type 0} (f : D → D → D) (answered : ℕ → Option D → Type 0) (prefix single suffix siblings : List ℕ) (digests : List D) : Type 0 where
  pub of_prefix : List D
  pub of_single : List D
  pub of_suffix : List D
  pub of_siblings : List D
  pub prefix_read : AreAnswered answered prefix of_prefix
  pub single_read : AreAnswered answered single of_single
  pub suffix_read : AreAnswered answered suffix of_suffix
  pub siblings_read : AreAnswered answered siblings of_siblings
  pub digests_are : digests ≡ laid_out f of_prefix of_single of_suffix of_siblings

-- the digests of a proof are those that are answered at the nodes that it reads, laid out
abbrev pub IsAnsweredProof : {D : Type 0} → (D → D → D) → Bagging → (List ℕ → List ℕ) → ℕ → LeafRange → (ℕ → Option D → Type 0) → List D → Type 0
IsAnsweredProof f bagging rule k r answered digests =
    let before = wholly_before r.start (peaks_of rule r.leaves) in
    let after = wholly_after r.end (peaks_of rule r.leaves) in
    let met = length before + length (overlapping r.start r.end (peaks_of rule r.leaves)) in
    IsLaidOut f answered (map position (folded_prefix bagging k before))
    (map position (single_before bagging k before ++ single_after bagging k met after))
    (map position (folded_suffix bagging k met after)) (map position (range_siblings r.start r.end (peaks_of rule r.leaves))) digests

-- something is answered at each of the positions before p, and nothing at p
pub record IsFirstMissing {D : Type 0} (answered : ℕ → Option D → Type 0) (ps : List ℕ) (p : ℕ) : Type 0 where
  pub before : List ℕ
  pub after : List ℕ
  pub digests : List D
  pub split : ps ≡ before ++ p ∷ after
  pub read : AreAnswered answered before digests
  pub missing : answered p None

-- why a plan isn't built: more peaks are called inactive than there are, or a node is missing
abbrev pub IsBuildRefusal : {F D : Type 0} → Bagging → (List ℕ → List ℕ) → LeafRange → ℕ → (ℕ → Option D → Type 0) → Error F → Type 0
IsBuildRefusal bagging rule r k answered e =
    ((length (peaks_of rule r.leaves) < k) × (e ≡ InvalidProof))
    ⊎ ((k ≤ length (peaks_of rule r.leaves))
    × ((p : ℕ) × (e ≡ ElementPruned p) × IsFirstMissing answered (map position (reading_order bagging k rule r.leaves r.start r.end)) p))

-- the proof has the digests of the layout, over those that stand at the positions of nodes
pub record IsBuiltProof {F D Peaks Heights : Type 0} (s : Scheme D) (node : ℕ → Option D) (k : ℕ) (r : LeafRange) (p : Proof F D Peaks Heights) : Type 0 where
  pub leaves : p.leaves ≡ r.leaves
  pub inactive : p.inactive_peaks ≡ k
  pub enough_peaks : k ≤ length (peaks_of s.rule r.leaves)
  pub digests : map Some p.digests.items ≡ range_laid_out s (both_read s.hashing.fold) (λ t. node (position t)) r.leaves k r.start r.end

-- each answer at the position of a node is the list's digest at it
abbrev pub AnswersList : {D : Type 0} → Hashing D → (List ℕ → List ℕ) → List D → (ℕ → Option D → Type 0) → Type 0
AnswersList {D} h rule xs answered = (p : ℕ) (t : Tree) (d : D) → slice_get (forest rule (length xs)).nodes p ≡ Some t
    → answered p (Some d) → d ≡ digest_at h xs t

-- a proof with the leaves of a list from a on up to b
abbrev pub list_input : {F D Peaks Heights : Type 0} → Proof F D Peaks Heights → List D → (a b : ℕ) → RangeInput D
list_input p xs a b = record { leaves = p.leaves; inactive = p.inactive_peaks; digests = p.digests.items; start = a; elements = take (b - a) (drop a xs) }

-- a proof is the honest one of a list's leaves from a on up to b, for k inactive peaks
abbrev pub IsHonestProof : {F D Peaks Heights : Type 0} → Scheme D → List D → (k a b : ℕ) → Proof F D Peaks Heights → Type 0
IsHonestProof s xs k a b p = IsHonestRange s xs k (list_input p xs a b)

-- the list has leaves from a on up to b, and the proof is the honest one of these
abbrev pub ProvesRange : {F D Peaks Heights : Type 0} → Scheme D → List D → (k a b : ℕ) → Proof F D Peaks Heights → Type 0
ProvesRange s xs k a b p = (a < b) × (b ≤ length xs) × IsHonestProof s xs k a b p

-- the list has a leaf at i, and the proof is the honest one of it
abbrev pub ProvesLeaf : {F D Peaks Heights : Type 0} → Scheme D → List D → (k i : ℕ) → Proof F D Peaks Heights → Type 0
ProvesLeaf s xs k i p = (i < length xs) × IsHonestProof s xs k i (i + 1) p

-- where a proof is answered, the list has leaves from a on up to b, and it is the honest proof of these
abbrev pub IsProvedRange : {F D E Peaks Heights : Type 0} → Scheme D → (k a b : ℕ) → Result (Proof F D Peaks Heights) E → List D → Type 0
IsProvedRange s k a b answer xs = IfOk answer (λ p. ProvesRange s xs k a b p)

-- where a proof is answered, the list has a leaf at i, and it is the honest proof of that leaf
abbrev pub IsProvedLeaf : {F D E Peaks Heights : Type 0} → Scheme D → (k i : ℕ) → Result (Proof F D Peaks Heights) E → List D → Type 0
IsProvedLeaf s k i answer xs = IfOk answer (λ p. ProvesLeaf s xs k i p)

-- where a proof is answered, it is the honest one of a list's leaves in the range
abbrev pub IsHonestBuilt : {F D E Peaks Heights : Type 0} → Scheme D → (k : ℕ) → LeafRange → Result (Proof F D Peaks Heights) E → List D → Type 0
IsHonestBuilt s k r answer xs = IfOk answer (λ p. IsHonestProof s xs k r.start r.end p)

-- a proof is built, from the nodes, for the leaves from a on up to b of n
abbrev pub IsBuiltFor : {F D Peaks Heights : Type 0} → Scheme D → (ℕ → Option D) → (k n a b : ℕ) → Proof F D Peaks Heights → Type 0
IsBuiltFor s node k n a b p = IsBuiltProof s node k (record { leaves = n; start = a; end = b }) p

-- there are leaves from a on up to b among n, and the proof is built for them from the nodes
abbrev pub IsBuiltRange : {F D Peaks Heights : Type 0} → Scheme D → (ℕ → Option D) → (k n a b : ℕ) → Proof F D Peaks Heights → Type 0
IsBuiltRange s node k n a b p = (a < b) × (b ≤ n) × IsBuiltFor s node k n a b p

-- there is a leaf at i among n, and the proof is built for it from the nodes
abbrev pub IsBuiltLeaf : {F D Peaks Heights : Type 0} → Scheme D → (ℕ → Option D) → (k n i : ℕ) → Proof F D Peaks Heights → Type 0
IsBuiltLeaf s node k n i p = (i < n) × IsBuiltFor s node k n i (i + 1) p

-- each answer is what the node at the position is, or that there is none
abbrev pub AnswersBy : {D : Type 0} → (ℕ → Option D) → (ℕ → Option D → Type 0) → Type 0
AnswersBy {D} node answered = (p : ℕ) (r : Option D) → answered p r → r ≡ node p

-- P for each list of as many leaves whose digests are answered
abbrev pub ForAnswered : {D : Type 0} → Hashing D → (rule : List ℕ → List ℕ) → LeafRange → (ℕ → Option D → Type 0) → (List D → Type 0) → Type 0
ForAnswered {D} h rule r answered P = (xs : List D) → length xs ≡ r.leaves → AnswersList h rule xs answered → P xs

-- the digests of a proof of the range are those that are answered at the nodes that it reads, laid out
abbrev pub IsAnsweredBy : {F D Peaks Heights : Type 0} → Hashing D → Bagging → (rule : List ℕ → List ℕ) → (k : ℕ) → LeafRange
    → (ℕ → Option D → Type 0) → Proof F D Peaks Heights → Type 0
IsAnsweredBy h bagging rule k r answered p = IsAnsweredProof h.fold bagging rule k r answered p.digests.items
