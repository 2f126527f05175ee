-- The first record of a chain, and its last.
use Rattle.std.proofs.Common.{◌≡◌, ℕ, zero, suc, ◌-◌, ◌≤◌, List, [], ◌∷◌, ◌++◌, length, drop, Option, Some, None, false, cond, slice_get, arith, refl, sym, ap, inl, inr, ◌∙◌}
use Rattle.std.specs.Prelude.{is_some, ◌||◌}
use Rattle.std.specs.FinMap.{get}
use Rattle.std.proofs.lemmas.Bool.{cases_lt}
use Rattle.std.proofs.lemmas.Option.{slice_get_past}
use Rattle.merkle_base.specs.Tree.{Tree, leaf, join}
use Rattle.merkle_base.specs.Forest.{size}
use Rattle.merkle_base.specs.Hashing.{Hashing}
use Rattle.merkle_base.specs.Digests.{digest_at, node_digests, peak_digests}
use Rattle.merkle_batch_theory.specs.Contents.{Contents}
use Rattle.merkle_batch_theory.specs.Records.{RecordModel}
use Rattle.merkle_batch_theory.specs.Held.{overwritten_by}
use Rattle.merkle_batch_theory.specs.History.{edited, is_dirty, IsStep, IsHistory, last_list}
use Rattle.merkle_batch_theory.proofs.Steps.{digests_length}
use Rattle.merkle_batch_theory.proofs.Edits.{same_gets, old_entry, new_entry}
use Rattle.merkle_batch_theory.proofs.OptionFacts.{over_none}

pub same_contents : {D : Type 0} (a b : Contents D) → a.boundary ≡ b.boundary → a.size ≡ b.size → ((p : ℕ) → a.node p ≡ b.node p) → a ≡ b
same_contents a b e f g = λ i. record { boundary = e i; size = f i; node = λ p. g p i }

untouched : {D : Type 0} (m : ℕ → Option D) → ((p : ℕ) → m p ≡ None) → (t : Tree) → is_dirty m t ≡ false
untouched m n (leaf p k) = ap is_some (n p)
untouched m n (join p l r) = (λ i. untouched m n l i || untouched m n r i)

drop_all : {X : Type 0} (n : ℕ) (xs : List X) → length xs ≤ n → [] ≡ drop n xs
drop_all zero [] l = refl
drop_all zero (x ∷ xs) l = absurd (omega arith)
drop_all (suc n) [] l = refl
drop_all (suc n) (x ∷ xs) l = drop_all n xs (omega arith)

module _ {D : Type 0} (h : Hashing D) (rule : List ℕ → List ℕ) where
  edited_none : (r : RecordModel D) (X : List D) → r.before ≡ size rule (length X) → r.appended ≡ [] → ((p : ℕ) → get r.overwritten p ≡ None) → edited rule r X ≡ X
  edited_none r X b a o = same_gets (edited rule r X) X (λ k. elim (cases_lt k (length X)) [
    | inl l ↦ old_entry rule r X k l ∙ ap (λ m. overwritten_by m (slice_get X k)) (o (size rule k)) ∙ over_none (slice_get X k)
    | inr l ↦ new_entry rule r X k b l ∙ ap (λ ds. slice_get ds (size rule k - r.before)) a ∙ sym (slice_get_past X k l)
  ])

  -- a record without changes, as a `Mem` gives it
  pub still : (r : RecordModel D) (X : List D) → r.before ≡ size rule (length X) → r.appended ≡ [] → ((p : ℕ) → get r.overwritten p ≡ None)
      → r.peaks_before ≡ peak_digests h rule X → r.peaks_after ≡ peak_digests h rule X → IsStep h rule r X X
  still r X b a o u v = record {
    edit = sym (edited_none r X b a o);
    before = b;
    longer = omega arith;
    peaks_before = u;
    peaks_after = v;
    appended = a ∙ drop_all r.before (node_digests h rule X) (omega (arith, b, digests_length h rule X));
    overwritten = λ p t e. o p ∙ sym (ap (λ c. cond c (Some (digest_at h X t)) None) (untouched (get r.overwritten) o t));
    old = λ p l. o p;
  }

  -- the last record taken off
  pub splits : (rs : List (RecordModel D)) (r : RecordModel D) (X : List D) (ls : List (List D)) → IsHistory h rule (rs ++ r ∷ []) (X ∷ ls)
      → (ms : List (List D)) × IsHistory h rule rs (X ∷ ms) × IsStep h rule r (last_list (X ∷ ms)) (last_list (X ∷ ls))
  splits [] r X [] s = absurd s
  splits [] r X (Y ∷ []) s = ([], tt, s.0)
  splits [] r X (Y ∷ Z ∷ ls) s = absurd s.1
  splits (q ∷ rs) r X [] s = absurd s
  splits (q ∷ rs) r X (Y ∷ ls) s = (let k = splits rs r Y ls s.1 in (Y ∷ k.0, (s.0, k.1), k.2))
