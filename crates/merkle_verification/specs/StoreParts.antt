-- The parts of a store's proof, by counts.
use Rattle.std.specs.Prelude.{◌≡◌, ℕ, ◌≤◌, ◌+◌, ◌&&◌, nat_lt, cond, false, List, ◌∷◌, length, take, drop, Option, None, slice_get}
use Rattle.std.specs.Option.{option_or}
use Rattle.merkle_base.specs.declared.family.Bagging.{Bagging}
use Rattle.merkle_base.specs.declared.error.Error.{Error}
use Rattle.merkle_base.specs.declared.error.Error.TheVariants.{ElementPruned}
use Rattle.merkle_base.specs.Places.{peaks_of, wholly_before, peak_positions}
use Rattle.merkle_base.specs.Scheme.{Scheme}
use Rattle.merkle_root_theory.specs.Check.{RangeInput}
use Rattle.merkle_root_theory.specs.Extract.{extracted}
use Rattle.merkle_root_theory.specs.Outside.{folded_prefix}
use Rattle.merkle_root_theory.specs.Range.{end_of}
use Rattle.merkle_store_theory.specs.StoreValue.{StoreValue}
use Rattle.merkle_store_theory.specs.StoreProof.{found_at, ends_with, first_lacking}
use Rattle.merkle_store_theory.specs.StoreReads.{Counts, single_reads, suffix_reads, sibling_reads, suffix_refusal_at}
use Rattle.merkle_proof.specs.declared.range_plan.RangeCounts.{RangeCounts}

-- the counts of a plan, and how many peaks are folded in the store's own prefix
abbrev pub counts_with : RangeCounts → ℕ → Counts
counts_with c held = record { before = c.before; after = c.after; folded = c.folded; single = c.single; held = held }

-- `held` is the number of peaks folded in the prefix of a proof from location `start` on
abbrev pub IsFoldedCount : (List ℕ → List ℕ) → Bagging → (leaves inactive start held : ℕ) → Type 0
IsFoldedCount rule bagging leaves inactive start held = held ≡ length (folded_prefix bagging inactive (wholly_before start (peaks_of rule leaves)))

-- the position named where the asked prefix is nonempty and shorter than the store's
abbrev pub shorter_refusal : (List ℕ → List ℕ) → (leaves : ℕ) → Counts → Option ℕ
shorter_refusal rule leaves n = cond (nat_lt 0 n.folded && nat_lt n.folded n.held) (slice_get (peak_positions rule leaves) n.before) None

-- the position named as pruned if a node is lacking, prefixes shorter than the store's aside
abbrev pub parts_refusal : {D : Type 0} → StoreValue D → Counts → List ℕ → Option ℕ
parts_refusal v n ps =
    option_or (first_lacking (found_at v.pairs) (drop n.held (take n.folded ps)))
    (option_or (first_lacking (found_at v.pairs) (single_reads n ps))
    (option_or (suffix_refusal_at v (suffix_reads n ps))
    (first_lacking (found_at v.pairs) (sibling_reads n ps))))

-- no more peaks are folded or stand alone than there are, and all are among the positions that are read
pub record FitReads (c : RangeCounts) (ps : List ℕ) : Type 0 where
  pub folded : c.folded ≤ c.before
  pub single : c.single ≤ c.after
  pub read : c.before + c.after ≤ length ps

-- the positions don't end with those of the store's own suffix, whose first one is named as pruned
abbrev pub IsOtherSuffix : {F : Type 0} → (positions own : List ℕ) → Error F → Type 0
IsOtherSuffix positions own e = (q : ℕ) × (qs : List ℕ) × (own ≡ q ∷ qs) × (ends_with positions own ≡ false) × (e ≡ ElementPruned q)

-- an input with these parts, of whose accepted proof these pairs are extracted
pub record IsInput {D : Type 0} (s : Scheme D) (r : RangeInput D)
    (rule : List ℕ → List ℕ) (bagging : Bagging) (leaves inactive : ℕ) (digests : List D) (start end : ℕ) (pairs : List (ℕ × D)) : Type 0 where
  pub rule_is : rule ≡ s.rule
  pub bagging_is : bagging ≡ s.bagging
  pub leaves_is : leaves ≡ r.leaves
  pub inactive_is : inactive ≡ r.inactive
  pub digests_is : digests ≡ r.digests
  pub start_is : start ≡ r.start
  pub end_is : end ≡ end_of r
  pub pairs_is : pairs ≡ extracted s r
