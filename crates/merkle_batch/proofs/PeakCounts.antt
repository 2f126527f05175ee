-- As many peaks are read as the forest has.
use Rattle.std.proofs.Common.{◌≡◌, ℕ, suc, ◌+◌, ◌-◌, List, [], ◌∷◌, length, map, Option, Some, cond, slice_get, arith, refl, sym, ap, ◌∙◌, ltb}
use Rattle.std.specs.Option.{unwrap_or}
use Rattle.std.proofs.lemmas.Bool.{lt-ltb, le-ltb}
use Rattle.std.proofs.lemmas.List.{length-map}
use Rattle.merkle_base.specs.Places.{peak_positions, peaks_of}
use Rattle.merkle_base.specs.Tree.{position}
use Rattle.merkle_batch_theory.specs.Assignment.{ReadsAgree, digests_from}

-- a list whose entries are told at the positions from p on
pub listed : {D : Type 0} (truth : ℕ → D) (p : ℕ) (ds : List D) → ((i : ℕ) (d : D) → slice_get ds i ≡ Some d → truth (p + i) ≡ d) → ds ≡ digests_from truth p (length ds)
listed truth p [] e = refl
listed truth p (d ∷ ds) e =
    let here : d ≡ truth p = (let z : p + 0 ≡ p = omega arith in sym (e 0 d refl) ∙ ap truth z) in
    let rest = listed truth (p + 1) ds (λ i x f. (let z : p + 1 + i ≡ p + suc i = omega arith in ap truth z ∙ e (suc i) x f)) in
    ap (λ x. x ∷ ds) here ∙ ap (λ xs. truth p ∷ xs) rest

module _ {D : Type 0} (read : ℕ → Option D) (before : ℕ) (appended : List D) (none : D) where
  -- what is read before a position, and the appended nodes from there on
  abbrev told : ℕ → D
  told p = cond (ltb p before) (unwrap_or (read p) none) (unwrap_or (slice_get appended (p - before)) none)

  reads_told : ReadsAgree read before told
  reads_told p d less is = sym (ap (λ b. cond b (unwrap_or (read p) none) (unwrap_or (slice_get appended (p - before)) none)) (lt-ltb p before less) ∙ ap (λ o. unwrap_or o none) is)

  appended_told : appended ≡ digests_from told before (length appended)
  appended_told = listed told before appended (λ i d is.
      (let z : before + i - before ≡ i = omega arith in
      ap (λ b. cond b (unwrap_or (read (before + i)) none) (unwrap_or (slice_get appended (before + i - before)) none)) (le-ltb (before + i) before (omega arith))
      ∙ ap (λ (k : ℕ). unwrap_or (slice_get appended k) none) z ∙ ap (λ o. unwrap_or o none) is))

  -- digests that are those at the peaks, whatever those read are, are as many
  pub as_many : (rule : List ℕ → List ℕ) (n : ℕ) (peaks : List D)
      → ((truth : ℕ → D) → ReadsAgree read before truth → appended ≡ digests_from truth before (length appended)
      → peaks ≡ map truth (peak_positions rule n)) → length peaks ≡ length (peaks_of rule n)
  as_many rule n peaks right = ap length (right told reads_told appended_told) ∙ length-map (peak_positions rule n) told ∙ length-map (peaks_of rule n) position
