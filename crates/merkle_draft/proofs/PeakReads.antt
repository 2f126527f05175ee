-- The peaks that a draft reads.
use Rattle.std.proofs.Common.{◌≡◌, ℕ, zero, suc, ◌<◌, List, [], ◌∷◌, ◌++◌, length, map, Option, Some, true, slice_get, arith, sym, ap, ◌∙◌, subst}
use Rattle.std.specs.Prelude.{is_some}
use Rattle.merkle_base.specs.Tree.{position}
use Rattle.merkle_base.specs.Places.{peaks_of, placed}
use Rattle.merkle_draft.specs.DraftReads.{ArePeaksRead, IsMissingPeak}
use Rattle.merkle_draft.specs.NodeErrors.{IsGapAt}
use Rattle.merkle_draft.specs.declared.node_error.NodeError.{NodeError}
use Rattle.merkle_batch_theory.proofs.Kept.{get_map, get_mapped}
use Rattle.merkle_base.proofs.Lists.{get_push}

-- of these peaks those before position s are read
abbrev pub AreFirstRead : {D : Type 0} → List (ℕ × ℕ) → ℕ → (ℕ → Option D) → Type 0
AreFirstRead done s read = (i : ℕ) (q : ℕ × ℕ) → slice_get done i ≡ Some q → q.0 < s → is_some (read q.0) ≡ true

module _ {D : Type 0} (s : ℕ) (read : ℕ → Option D) where
  pub first_none : AreFirstRead [] s read
  first_none i q e less = absurd (cc)

  -- one more
  pub first_more : (done : List (ℕ × ℕ)) (p : ℕ × ℕ) → AreFirstRead done s read → (p.0 < s → is_some (read p.0) ≡ true) → AreFirstRead (done ++ p ∷ []) s read
  first_more [] p all new zero q e less = (let f : p ≡ q = cc in subst (λ x. x.0 < s → is_some (read x.0) ≡ true) f new less)
  first_more [] p all new (suc i) q e less = absurd (cc)
  first_more (x ∷ done) p all new zero q e less = all zero q e less
  first_more (x ∷ done) p all new (suc i) q e less = first_more done p (λ j r f l. all (suc j) r f l) new i q e less

  -- all of them
  pub all_read : (rule : List ℕ → List ℕ) (n : ℕ) (done : List (ℕ × ℕ)) → done ≡ map placed (peaks_of rule n) → AreFirstRead done s read → ArePeaksRead rule n s read
  all_read rule n done same all i t e less = all i (placed t) (ap (λ xs. slice_get xs i) same ∙ get_map placed (peaks_of rule n) i t e) less

-- a peak that is not there
pub peak_lacks : {F D : Type 0} (rule : List ℕ → List ℕ) (n s : ℕ) (read : ℕ → Option D) (done more : List (ℕ × ℕ)) (q : ℕ × ℕ) (e : NodeError F)
    → done ++ q ∷ more ≡ map placed (peaks_of rule n) → (q.0 < s) × IsGapAt read q.0 e → IsMissingPeak rule n s read e
peak_lacks rule n s read done more q e listed gap =
    let t = get_mapped placed (peaks_of rule n) (length done) q (ap (λ xs. slice_get xs (length done)) (sym listed) ∙ get_push done more q) in
    let here : q.0 ≡ position t.0 = ap (λ x. x.0) t.2 in
    (length done, t.0, t.1, omega (arith, gap.0, here), subst (λ (p : ℕ). IsGapAt read p e) here gap.1)
