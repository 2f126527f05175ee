-- Records laid over the nodes that are held.
use Rattle.std.proofs.Common.{◌≡◌, ℕ, zero, suc, ◌+◌, ◌-◌, ◌<◌, List, [], ◌∷◌, length, map, drop, cond, arith, refl, sym, ap, ◌∙◌, get_or}
use Rattle.std.specs.Prelude.{nat_lt, slice_get}
use Rattle.std.specs.FinMap.{get}
use Rattle.merkle_batch_theory.specs.Contents.{Contents}
use Rattle.merkle_batch_theory.specs.Held.{Held, held_contents, overwritten_by}
use Rattle.merkle_batch_theory.specs.Records.{RecordModel}
use Rattle.merkle_batch_theory.specs.Replay.{with_record, with_records}
use Rattle.merkle_batch_theory.proofs.Chains.{same_contents}

-- the overwrites first, and then the new nodes
pub with_record_by : {D : Type 0} (b : ℕ) (old mid new : Held D) (r : RecordModel D) → mid.size ≡ old.size
    → ((p : ℕ) → get mid.stored p ≡ overwritten_by (get r.overwritten p) (get old.stored p)) → new.size ≡ mid.size + length r.appended →
    ((p : ℕ) → get new.stored p ≡ cond (nat_lt p mid.size) (get mid.stored p) (slice_get r.appended (p - mid.size))) → held_contents b new ≡ with_record r (held_contents b old)
with_record_by b old mid new r same replaced longer added =
    same_contents (held_contents b new) (with_record r (held_contents b old)) refl (omega (arith, same, longer))
    (λ p. added p ∙ (λ i. cond (nat_lt p (same i)) (replaced p i) (slice_get r.appended (p - same i))))

-- the list from i on begins with its i-th element
pub drop_here : {A B : Type 0} (v : A → B) (xs : List A) (i : ℕ) (x : A) → i < length xs → x ≡ get_or xs i x → drop i (map v xs) ≡ v x ∷ drop (suc i) (map v xs)
drop_here v [] i x h e = absurd (omega arith)
drop_here v (y ∷ ys) zero x h e = ap (λ z. z ∷ map v ys) (ap v (sym e))
drop_here v (y ∷ ys) (suc i) x h e = drop_here v ys i x (omega arith) e

-- one record laid: the rest then gives what all gave
pub all_step : {D : Type 0} (rs rest : List (RecordModel D)) (r : RecordModel D) (c d e : Contents D) → rs ≡ r ∷ rest → d ≡ with_record r c → with_records rs c ≡ e → with_records rest d ≡ e
all_step rs rest r c d e split step was = ap (with_records rest) step ∙ sym (ap (λ ts. with_records ts c) split) ∙ was
