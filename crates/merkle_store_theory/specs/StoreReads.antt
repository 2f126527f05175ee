-- A store's proof and its refusals by the positions that a plan of the range reads.
use Rattle.std.specs.Prelude.{◌≡◌, ℕ, ◌+◌, ◌-◌, ◌&&◌, nat_lt, cond, List, [], ◌∷◌, ◌++◌, map, length, take, drop, reverse, Option, Some, None, slice_get}
use Rattle.std.specs.Option.{option_to_list, option_or}
use Rattle.merkle_base.specs.Tree.{position}
use Rattle.merkle_base.specs.Hashing.{Hashing}
use Rattle.merkle_base.specs.Places.{peaks_of, wholly_before, peak_positions}
use Rattle.merkle_base.specs.Root.{right_fold, folded}
use Rattle.merkle_base.specs.declared.family.Bagging.TheVariants.{ForwardFold}
use Rattle.merkle_base.specs.Scheme.{Scheme}
use Rattle.merkle_root_theory.specs.Outside.{single_after}
use Rattle.merkle_root_theory.specs.Range.{wholly_after}
use Rattle.merkle_root_theory.specs.Reads.{nodes_read}
use Rattle.merkle_claim_theory.specs.Store.{read_pair}
use Rattle.merkle_store_theory.specs.StoreValue.{StoreValue}
use Rattle.merkle_store_theory.specs.StoreProof.{found_at, held_prefix, asked_prefix, asked_met, first_lacking, ends_with, store_proof, store_refusal}

-- how many positions that are read are of peaks before the range, and how many of peaks after it; how many of the former are folded, and
-- how many of the latter stand alone; and how many peaks are folded in the store's own prefix
pub record Counts : Type 0 where
  pub before : ℕ
  pub after : ℕ
  pub folded : ℕ
  pub single : ℕ
  pub held : ℕ

-- n are the counts of the range a..b
pub record AreCounts {D : Type 0} (s : Scheme D) (v : StoreValue D) (a b : ℕ) (n : Counts) : Type 0 where
  pub before : n.before ≡ length (wholly_before a (peaks_of s.rule v.leaves))
  pub after : n.after ≡ length (wholly_after b (peaks_of s.rule v.leaves))
  pub folded : n.folded ≡ length (asked_prefix s v a)
  pub single : n.single ≡ length (single_after v.bagging v.inactive (asked_met s v a b) (wholly_after b (peaks_of s.rule v.leaves)))
  pub held : n.held ≡ length (held_prefix s v)

-- the positions, of those that are read, of the peaks whose digests stand alone
abbrev pub single_reads : Counts → List ℕ → List ℕ
single_reads n ps = drop n.folded (take n.before ps) ++ take n.single (drop n.before ps)

-- the positions, of those that are read, of the peaks folded in the suffix
abbrev pub suffix_reads : Counts → List ℕ → List ℕ
suffix_reads n ps = drop n.single (take n.after (drop n.before ps))

-- the positions, of those that are read, of the path siblings
abbrev pub sibling_reads : Counts → List ℕ → List ℕ
sibling_reads n ps = drop (n.before + n.after) ps

-- the digests at positions, read from a store's pairs
abbrev pub read_at : {D : Type 0} → Hashing D → StoreValue D → List ℕ → List D
read_at h v ps = map (λ p. read_pair h v.pairs p) ps

-- the fold of the asked prefix, if there is one, read by positions
abbrev pub prefix_at : {D : Type 0} → Hashing D → StoreValue D → (held : ℕ) → List ℕ → List D
prefix_at h v held [] = []
prefix_at h v held (p ∷ ps) = option_to_list (folded h.fold ForwardFold 0 (option_to_list v.prefix ++ read_at h v (drop held (p ∷ ps))))

-- the fold of the asked suffix, if there is one, read by positions
abbrev pub suffix_at : {D : Type 0} → Hashing D → StoreValue D → List ℕ → List D
suffix_at h v [] = []
suffix_at h v (p ∷ ps) = option_to_list (right_fold h.fold (read_at h v (take (length (p ∷ ps) - length v.suffix_peaks) (p ∷ ps)) ++ option_to_list v.suffix))

-- the digests of the proof; ps: the positions that are read
abbrev pub proof_at : {D : Type 0} → Hashing D → StoreValue D → Counts → List ℕ → List D
proof_at h v n ps = prefix_at h v n.held (take n.folded ps)
    ++ (read_at h v (single_reads n ps) ++ (suffix_at h v (suffix_reads n ps) ++ read_at h v (sibling_reads n ps)))

-- the refusal of a suffix with peaks; qs: the positions of the store's own
abbrev pub lacking_at : {D : Type 0} → StoreValue D → (qs ps : List ℕ) → Option ℕ
lacking_at v [] ps = first_lacking (found_at v.pairs) (reverse ps)
lacking_at v (q ∷ qs) ps = cond (ends_with ps (q ∷ qs)) (first_lacking (found_at v.pairs) (reverse (take (length ps - length v.suffix_peaks) ps))) (Some q)

-- the refusal of a suffix, if there is one
abbrev pub suffix_refusal_at : {D : Type 0} → StoreValue D → List ℕ → Option ℕ
suffix_refusal_at v [] = None
suffix_refusal_at v (p ∷ ps) = lacking_at v v.suffix_peaks (p ∷ ps)

-- the position that is named as pruned, if one is; peaks: the positions of all peaks
abbrev pub refusal_at : {D : Type 0} → StoreValue D → Counts → (peaks ps : List ℕ) → Option ℕ
refusal_at v n peaks ps =
    option_or (cond (nat_lt 0 n.folded && nat_lt n.folded n.held) (slice_get peaks n.before) None)
    (option_or (first_lacking (found_at v.pairs) (drop n.held (take n.folded ps)))
    (option_or (first_lacking (found_at v.pairs) (single_reads n ps))
    (option_or (suffix_refusal_at v (suffix_reads n ps))
    (first_lacking (found_at v.pairs) (sibling_reads n ps)))))

-- a store's proof and its refusal are the same by positions and counts as by the peaks
abbrev pub ReadsByPosition : Type 0 → Type 0
ReadsByPosition D = (s : Scheme D) (v : StoreValue D) (a b : ℕ) (n : Counts) → AreCounts s v a b n
    → (store_proof s v a b ≡ proof_at s.hashing v n (map position (nodes_read s.rule v.leaves a b)))
    × (store_refusal s v a b ≡ refusal_at v n (peak_positions s.rule v.leaves) (map position (nodes_read s.rule v.leaves a b)))
