-- Pruning before or after a batch.
use Rattle.std.proofs.Common.{◌≡◌, ℕ, suc, ◌+◌, ◌≤◌, List, [], ◌∷◌, ◌++◌, length, drop, reverse, Option, Some, None, Ok, Err, Result, Bool, true, cond}
use Rattle.std.proofs.Common.{slice_get, arith, refl, sym, ap, inl, inr, ◌∙◌, subst, ltb}
use Rattle.std.specs.FinMap.{get}
use Rattle.std.specs.List.{flat_map}
use Rattle.std.specs.Option.{ok_or, option_map, option_to_list}
use Rattle.std.proofs.lemmas.Bool.{lt-ltb, le-ltb, cases_lt}
use Rattle.merkle_base.specs.Tree.{position}
use Rattle.merkle_base.specs.Forest.{forest, size}
use Rattle.merkle_base.proofs.Nodes.{size_le}
use Rattle.merkle_base.specs.Places.{peak_positions}
use Rattle.merkle_base.specs.declared.error.Error.{Error}
use Rattle.merkle_batch_theory.specs.Contents.{Contents, is_kept, pruned, held_peaks}
use Rattle.merkle_batch_theory.specs.Records.{RecordModel, MerkleizedModel, records}
use Rattle.merkle_batch_theory.specs.Replay.{with_record, with_records, matched, apply_error, applied}
use Rattle.merkle_base.proofs.Reversed.{get_reversed}
use Rattle.merkle_batch_theory.proofs.Kept.{kept_from, kept_before, kept_peak, get_mapped}
use Rattle.merkle_batch_theory.proofs.Agreed.{over_cond}
use Rattle.merkle_base.proofs.Cases.{by_test}

pub flat_same : {A B : Type 0} (f g : A → List B) (xs : List A) → ((i : ℕ) (x : A) → slice_get xs i ≡ Some x → f x ≡ g x) → flat_map f xs ≡ flat_map g xs
flat_same f g [] e = refl
flat_same f g (x ∷ xs) e = ap (λ ys. ys ++ flat_map f xs) (e 0 x refl) ∙ ap (λ ys. g x ++ ys) (flat_same f g xs (λ i y d. e (suc i) y d))

pub same_contents : {D : Type 0} (b s t : ℕ) (f g : ℕ → Option D) → s ≡ t → ((p : ℕ) → f p ≡ g p)
    → ◌≡◌ {A = Contents D} (record { boundary = b; size = s; node = f }) (record { boundary = b; size = t; node = g })
same_contents b s t f g e k = λ i. record { boundary = b; size = e i; node = λ p. k p i }

-- the peaks of n leaves are kept at each earlier boundary
pub peak_kept : (rule : List ℕ → List ℕ) (b n i p : ℕ) → b ≤ n → slice_get (peak_positions rule n) i ≡ Some p → is_kept rule b p ≡ true
peak_kept rule b n i p l e =
    let m = get_mapped position (reverse (forest rule n).peaks) i p e in
    let j = get_reversed (forest rule n).peaks i m.0 m.1 in
    subst (λ q. is_kept rule b q ≡ true) (sym m.2) (kept_before rule b n (position m.0) l (size_le rule b n l) (kept_peak rule n j.0 m.0 j.1))

module _ {D : Type 0} (rule : List ℕ → List ℕ) where
  abbrev kept_of : ℕ → Contents D → Contents D
  kept_of b c = record { boundary = b; size = c.size; node = λ p. cond (is_kept rule b p) (c.node p) None }

  with_record_kept : (b : ℕ) (r : RecordModel D) (c : Contents D) → size rule b ≤ c.size → with_record r (kept_of b c) ≡ kept_of b (with_record r c)
  with_record_kept b r c l =
      same_contents b (c.size + length r.appended) (c.size + length r.appended) (with_record r (kept_of b c)).node (kept_of b (with_record r c)).node refl (λ p. elim (cases_lt p c.size) [
        | inl h ↦ rw (lt-ltb p c.size h) (over_cond (get r.overwritten p) (is_kept rule b p) (c.node p))
        | inr h ↦ rw (le-ltb p c.size h, kept_from rule b p (omega (arith, l, h))) refl
      ])

  with_record_pruned : (b : ℕ) (r : RecordModel D) (c : Contents D) → size rule b ≤ c.size → with_record r (pruned rule b c) ≡ pruned rule b (with_record r c)
  with_record_pruned b r c l = by_test (λ t. with_record r (cond t (kept_of b c) c) ≡ cond t (kept_of b (with_record r c)) (with_record r c))
      (ltb c.boundary b) (λ e. with_record_kept b r c l) (λ e. refl)

  pub with_records_pruned : (b : ℕ) (rs : List (RecordModel D)) (c : Contents D) → size rule b ≤ c.size → with_records rs (pruned rule b c) ≡ pruned rule b (with_records rs c)
  with_records_pruned b [] c l = refl
  with_records_pruned b (r ∷ rs) c l = ap (with_records rs) (with_record_pruned b r c l) ∙ with_records_pruned b rs (with_record r c) (omega (arith, l))

  pub peaks_pruned : (b n : ℕ) (c : Contents D) → b ≤ n → held_peaks rule n (pruned rule b c) ≡ held_peaks rule n c
  peaks_pruned b n c l =
      by_test (λ t. held_peaks rule n (cond t (kept_of b c) c) ≡ held_peaks rule n c) (ltb c.boundary b)
      (λ e. flat_same (λ p. option_to_list (cond (is_kept rule b p) (c.node p) None)) (λ p. option_to_list (c.node p)) (peak_positions rule n) (λ i p d. rw (peak_kept rule b n i p l d) refl))
      (λ e. refl)

  pub size_pruned : (b : ℕ) (c : Contents D) → (pruned rule b c).size ≡ c.size
  size_pruned b c = by_test (λ t. (cond t (kept_of b c) c).size ≡ c.size) (ltb c.boundary b) (λ e. refl) (λ e. refl)

  after_match : {F : Type 0} (b : ℕ) (k : MerkleizedModel D) (c : Contents D) (o : Option ℕ) → size rule b ≤ c.size →
      ◌≡◌ {A = Result (Contents D) (Error F)} (ok_or (option_map (λ i. with_records (drop i (records k)) (pruned rule b c)) o) (apply_error c.size k))
      (elim (ok_or (option_map (λ i. with_records (drop i (records k)) c) o) (apply_error c.size k)) [ Ok a ↦ Ok (pruned rule b a) | Err e ↦ Err e ])
  after_match b k c None l = refl
  after_match b k c (Some i) l = ap Ok (with_records_pruned b (drop i (records k)) c l)

  -- prune then apply equals apply then prune
  pub applied_pruned : {F : Type 0} (same : D → D → Bool) (n b : ℕ) (k : MerkleizedModel D) (c : Contents D) → c.size ≡ size rule n → b ≤ n →
      applied {F = F} same rule n k (pruned rule b c) ≡ elim (applied same rule n k c) [ Ok a ↦ Ok (pruned rule b a) | Err e ↦ Err e ]
  applied_pruned {F = F} same n b k c s l =
      let same_size : (pruned rule b c).size ≡ c.size = size_pruned b c in
      let same_peaks : held_peaks rule n (pruned rule b c) ≡ held_peaks rule n c = peaks_pruned b n c l in
      (λ x. ok_or {E = Error F} (option_map (λ i. with_records (drop i (records k)) (pruned rule b c)) (matched same (same_size x) (same_peaks x) k)) (apply_error (same_size x) k))
      ∙ after_match b k c (matched same c.size (held_peaks rule n c) k) (omega (arith, s, size_le rule b n l))
