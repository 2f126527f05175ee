-- The records that a fork keeps, and the lists that they stand on.
use Rattle.std.proofs.Common.{◌≡◌, ℕ, zero, suc, ◌+◌, ◌≤◌, List, [], ◌∷◌, ◌++◌, length, take, drop, None, Bool, true, false, cond, arith, refl, sym, ap, ◌∙◌, subst, append-nil}
use Rattle.std.specs.Prelude.{◌==◌, ◌&&◌, not}
use Rattle.std.specs.Ordering.{nat_cmp}
use Rattle.std.specs.FinMap.{get, len, empty, empty_of_len, get-empty}
use Rattle.std.proofs.lemmas.Bool.{true≢false, eqb-true}
use Rattle.std.proofs.lemmas.List.{nil_from_length}
use Rattle.merkle_base.specs.Forest.{size}
use Rattle.merkle_base.specs.Hashing.{Hashing}
use Rattle.merkle_base.specs.Digests.{peak_digests}
use Rattle.merkle_batch_theory.specs.BatchValid.{RunsFrom, IsBatchValid}
use Rattle.merkle_batch_theory.specs.Unmerkleized.{UnmerkleizedModel, is_changed, kept, kept_lists}
use Rattle.merkle_batch_theory.specs.Records.{RecordModel, MerkleizedModel, records, after}
use Rattle.merkle_batch_theory.specs.Replay.{oldest}
use Rattle.merkle_batch_theory.specs.History.{IsStep, IsHistory, last_list}
use Rattle.merkle_batch_theory.proofs.Steps.{step_size}
use Rattle.merkle_batch_theory.proofs.Complete.{stands_push, no_change}
use Rattle.merkle_batch_theory.proofs.Chains.{splits}
use Rattle.merkle_base.proofs.Cases.{by_test}

both_tests : (a b : Bool) → not (a && b) ≡ false → (a ≡ true) × (b ≡ true)
both_tests true true e = (refl, refl)
both_tests true false e = absurd (true≢false e)
both_tests false b e = absurd (true≢false e)

-- the list added last is the last
pub last_added : {D : Type 0} (ls : List (List D)) (Y : List D) → last_list (ls ++ Y ∷ []) ≡ Y
last_added [] Y = refl
last_added (X ∷ []) Y = refl
last_added (X ∷ Z ∷ ls) Y = last_added (Z ∷ ls) Y

module _ {D : Type 0} where
  -- a record without changes appends and overwrites nothing
  pub appends_nothing : (r : RecordModel D) → is_changed r ≡ false → r.appended ≡ []
  appends_nothing r e = nil_from_length r.appended (eqb-true (length r.appended) 0 (both_tests (length r.appended == 0) (len r.overwritten == 0) e).0)

  pub overwrites_nothing : (r : RecordModel D) → is_changed r ≡ false → (p : ℕ) → get r.overwritten p ≡ None
  overwrites_nothing r e p =
      let none : r.overwritten ≡ empty = empty_of_len r.overwritten (eqb-true (len r.overwritten) 0 (both_tests (length r.appended == 0) (len r.overwritten == 0) e).1) in
      ap (λ m. get m p) none ∙ get-empty nat_cmp p

module _ {D : Type 0} (h : Hashing D) (rule : List ℕ → List ℕ) where
  -- the records that are not let go stand on the lists that are left
  tail_stands : (rs : List (RecordModel D)) (own : RecordModel D) (n : ℕ) (ls : List (List D)) → n ≤ length rs → IsHistory h rule (rs ++ own ∷ []) ls →
      (X : List D) × (more : List (List D)) × (drop n ls ≡ X ∷ more) × IsHistory h rule (drop n rs ++ own ∷ []) (X ∷ more) × (last_list (X ∷ more) ≡ last_list ls)
  tail_stands rs own n [] l s = absurd s
  tail_stands rs own zero (X ∷ ls) l s = (X, ls, refl, s, refl)
  tail_stands [] own (suc n) (X ∷ ls) l s = absurd (omega arith)
  tail_stands (r ∷ rs) own (suc n) (X ∷ []) l s = absurd s
  tail_stands (r ∷ rs) own (suc n) (X ∷ Y ∷ ls) l s = tail_stands rs own n (Y ∷ ls) (omega arith) s.1

  -- no list is left over
  whole : (rs : List (RecordModel D)) (ls : List (List D)) → IsHistory h rule rs ls → take (suc (length rs)) ls ≡ ls
  whole rs [] s = absurd s
  whole [] (X ∷ []) s = refl
  whole [] (X ∷ Y ∷ ls) s = absurd s
  whole (r ∷ rs) (X ∷ []) s = absurd s
  whole (r ∷ rs) (X ∷ Y ∷ ls) s = ap (λ ms. X ∷ ms) (whole rs (Y ∷ ls) s.1)

  -- without a last record that has no changes
  off_last : (rs : List (RecordModel D)) (r : RecordModel D) (X : List D) (ls : List (List D)) → IsHistory h rule (rs ++ r ∷ []) (X ∷ ls) → r.appended ≡ [] → ((p : ℕ) → get r.overwritten p ≡ None) →
      (more : List (List D)) × (take (suc (length rs)) (X ∷ ls) ≡ X ∷ more) × IsHistory h rule rs (X ∷ more) × (last_list (X ∷ more) ≡ last_list (X ∷ ls))
  off_last [] r X [] s a o = absurd s
  off_last [] r X (Y ∷ []) s a o = ([], refl, tt, sym (no_change h rule r X Y s.0 a o))
  off_last [] r X (Y ∷ Z ∷ ls) s a o = absurd s.1
  off_last (q ∷ rs) r X [] s a o = absurd s
  off_last (q ∷ rs) r X (Y ∷ ls) s a o = (let k = off_last rs r Y ls s.1 a o in (Y ∷ k.0, ap (λ ms. X ∷ ms) k.1, (s.0, k.2), k.3))

  abbrev KeptStands : List (RecordModel D) → List (List D) → List D → Type 0
  KeptStands rs ls last = (X : List D) × (more : List (List D)) × (ls ≡ X ∷ more) × IsHistory h rule rs (X ∷ more) × (last_list (X ∷ more) ≡ last)

  -- what a fork keeps stands on the lists of it, and its last list is the parent's
  pub kept_stands : (p : UnmerkleizedModel D) (ls : List (List D)) → p.forgotten ≤ length p.parent.ancestors → IsHistory h rule (records p.parent) ls →
      (X : List D) × (more : List (List D)) × (kept_lists p ls ≡ X ∷ more) × IsHistory h rule (kept p) (X ∷ more) × (last_list (X ∷ more) ≡ last_list ls)
  kept_stands p ls l s =
      let rs : List (RecordModel D) = drop p.forgotten p.parent.ancestors in
      let own : RecordModel D = p.parent.own in
      let k = tail_stands p.parent.ancestors own p.forgotten ls l s in
      by_test (λ b. KeptStands (rs ++ cond b (own ∷ []) []) (take (suc (length (rs ++ cond b (own ∷ []) []))) (drop p.forgotten ls)) (last_list ls)) (is_changed own)
      (λ e. (k.0, k.1, ap (take (suc (length (rs ++ own ∷ [])))) k.2 ∙ whole (rs ++ own ∷ []) (k.0 ∷ k.1) k.3, k.3, k.4))
      (λ e. (let m = off_last rs own k.0 k.1 k.3 (appends_nothing own e) (overwrites_nothing own e) in (
        k.0,
        m.0,
        ap (take (suc (length (rs ++ [])))) k.2 ∙ ap (λ qs. take (suc (length qs)) (k.0 ∷ k.1)) (append-nil rs)
            ∙ m.1,
        subst (λ qs. IsHistory h rule qs (k.0 ∷ m.0)) (sym (append-nil rs)) m.2,
        m.3 ∙ k.4,
      )))

  -- a step more
  pub stands_more : (rs : List (RecordModel D)) (ls : List (List D)) (r : RecordModel D) (Y : List D) → IsHistory h rule rs ls
      → IsStep h rule r (last_list ls) Y → IsHistory h rule (rs ++ r ∷ []) (ls ++ Y ∷ [])
  stands_more rs [] r Y s t = absurd s
  stands_more rs (X ∷ ls) r Y s t = (stands_push h rule rs X ls r Y s t).0

  -- after the own record there is what the last list has
  pub last_size : (c : MerkleizedModel D) (ls : List (List D)) → IsHistory h rule (records c) ls → (after c.own ≡ size rule (length (last_list ls)))
      × (c.own.peaks_after ≡ peak_digests h rule (last_list ls))
  last_size c [] s = absurd s
  last_size c (X ∷ ls) s =
      let k = splits h rule c.ancestors c.own X ls s in
      (ap (λ (n : ℕ). n + length c.own.appended) k.2.before ∙ step_size h rule c.own (last_list (X ∷ k.0)) (last_list (X ∷ ls)) k.2, k.2.peaks_after)

module _ {D : Type 0} where
  tail_runs : (rs : List (RecordModel D)) (own : RecordModel D) (n m : ℕ) → n ≤ length rs → RunsFrom m (rs ++ own ∷ []) → (k : ℕ) × RunsFrom k (drop n rs ++ own ∷ [])
  tail_runs rs own zero m l s = (m, s)
  tail_runs [] own (suc n) m l s = absurd (omega arith)
  tail_runs (r ∷ rs) own (suc n) m l s = tail_runs rs own n (after r) (omega arith) s.1

  -- one record after another
  more_runs : (rs : List (RecordModel D)) (own r : RecordModel D) (m : ℕ) → RunsFrom m (rs ++ own ∷ []) → r.before ≡ after own → RunsFrom m ((rs ++ own ∷ []) ++ r ∷ [])
  more_runs [] own r m s e = (s.0, (e, tt))
  more_runs (q ∷ rs) own r m s e = (s.0, more_runs rs own r (after q) s.1 e)

  -- in the place of another that appends nothing
  other_runs : (rs : List (RecordModel D)) (own r : RecordModel D) (m : ℕ) → RunsFrom m (rs ++ own ∷ []) → r.before ≡ own.before → RunsFrom m (rs ++ r ∷ [])
  other_runs [] own r m s e = (e ∙ s.0, tt)
  other_runs (q ∷ rs) own r m s e = (s.0, other_runs rs own r (after q) s.1 e)

  first_runs : (base_size boundary leaves : ℕ) (rs : List (RecordModel D)) (r : RecordModel D) (m : ℕ) → RunsFrom m (rs ++ r ∷ []) →
      RunsFrom (oldest (record { base_size = base_size; boundary = boundary; ancestors = rs; own = r; leaves = leaves })).before (rs ++ r ∷ [])
  first_runs base_size boundary leaves [] r m s = (refl, tt)
  first_runs base_size boundary leaves (q ∷ rs) r m s = (refl, s.1)

  -- the records of a batch that is forked from a linked one follow one another
  pub kept_runs : (rule : List ℕ → List ℕ) (max_leaves base_size boundary leaves : ℕ) (p : UnmerkleizedModel D) (r : RecordModel D)
      → IsBatchValid rule max_leaves p.parent → p.forgotten ≤ length p.parent.ancestors → r.before ≡ after p.parent.own →
      RunsFrom (oldest (record { base_size = base_size; boundary = boundary; ancestors = kept p; own = r; leaves = leaves })).before (kept p ++ r ∷ [])
  kept_runs rule max_leaves base_size boundary leaves p r linked l e =
      let rs : List (RecordModel D) = drop p.forgotten p.parent.ancestors in
      let own : RecordModel D = p.parent.own in
      let k = tail_runs p.parent.ancestors own p.forgotten (oldest p.parent).before l linked.runs in
      first_runs base_size boundary leaves (kept p) r k.0 (by_test (λ b. RunsFrom k.0 ((rs ++ cond b (own ∷ []) []) ++ r ∷ [])) (is_changed own)
      (λ _. more_runs rs own r k.0 k.1 e)
      (λ f. (let z : after own ≡ own.before = omega (arith, ap length (appends_nothing own f)) in
      subst (λ qs. RunsFrom k.0 (qs ++ r ∷ [])) (sym (append-nil rs)) (other_runs rs own r k.0 k.1 (e ∙ z)))))
