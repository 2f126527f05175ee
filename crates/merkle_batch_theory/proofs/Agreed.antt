-- What agreement is kept by.
use Rattle.std.proofs.Common.{◌≡◌, ℕ, ◌+◌, ◌<◌, ◌≤◌, List, [], ◌∷◌, length, Option, None, Bool, true, false, cond, slice_get, arith, refl, sym, ap, inl, inr, ◌∙◌, ltb}
use Rattle.std.specs.FinMap.{get}
use Rattle.std.proofs.lemmas.Bool.{lt-ltb, le-ltb, ltb-true, cases_lt}
use Rattle.merkle_base.proofs.Nodes.{size_le}
use Rattle.merkle_base.specs.Hashing.{Hashing}
use Rattle.merkle_base.specs.Digests.{node_digests}
use Rattle.merkle_batch_theory.specs.Contents.{Contents, Agrees, is_kept, pruned}
use Rattle.merkle_batch_theory.specs.Records.{RecordModel}
use Rattle.merkle_batch_theory.specs.Replay.{with_record, with_records}
use Rattle.merkle_batch_theory.specs.Held.{overwritten_by}
use Rattle.merkle_batch_theory.specs.History.{IsStep, IsHistory, last_list}
use Rattle.merkle_batch_theory.proofs.Kept.{kept_from, kept_before}
use Rattle.merkle_batch_theory.proofs.Steps.{step_old, step_new, step_size}
use Rattle.merkle_base.proofs.Cases.{by_test}

pub over_cond : {D : Type 0} (n : Option D) (b : Bool) (o : Option D) → overwritten_by n (cond b o None) ≡ cond b (overwritten_by n o) None
over_cond n true o = refl
over_cond n false o = refl

pub cond_and : {D : Type 0} (a b : Bool) (o : Option D) → (b ≡ true → a ≡ true) → cond b (cond a o None) None ≡ cond b o None
cond_and a true o k = rw (k refl) refl
cond_and a false o k = refl

module _ {D : Type 0} (h : Hashing D) (rule : List ℕ → List ℕ) where
  pub agree_with_record : (r : RecordModel D) (X Y : List D) (c : Contents D) → IsStep h rule r X Y → Agrees h rule c X → Agrees h rule (with_record r c) Y
  agree_with_record r X Y c s a = record {
    sized = ap (λ n. n + length r.appended) a.sized ∙ step_size h rule r X Y s;
    bounded = omega (arith, a.bounded, s.longer);
    holds = λ p. elim (cases_lt p c.size) [
      | inl l ↦ rw (lt-ltb p c.size l, a.holds p, step_old h rule r X Y s p (omega (arith, l, a.sized)))
          (over_cond (get r.overwritten p) (is_kept rule c.boundary p) (slice_get (node_digests h rule X) p))
      | inr l ↦ rw (le-ltb p c.size l, kept_from rule c.boundary p (omega (arith, l, a.sized, size_le rule c.boundary (length X) a.bounded)), a.sized)
          (sym (step_new h rule r X Y s p (omega (arith, l, a.sized))))
    ];
  }

  pub agree_all : (rs : List (RecordModel D)) (X : List D) (ls : List (List D)) (c : Contents D) → IsHistory h rule rs (X ∷ ls) → Agrees h rule c X
      → Agrees h rule (with_records rs c) (last_list (X ∷ ls))
  agree_all [] X [] c s a = a
  agree_all [] X (Y ∷ ls) c s a = absurd s
  agree_all (r ∷ rs) X [] c s a = absurd s
  agree_all (r ∷ rs) X (Y ∷ ls) c s a = agree_all rs Y ls (with_record r c) s.1 (agree_with_record r X Y c s.0 a)

  pub agree_kept : (b : ℕ) (X : List D) (c : Contents D) → c.boundary < b → b ≤ length X → Agrees h rule c X
      → Agrees h rule (record { boundary = b; size = c.size; node = λ p. cond (is_kept rule b p) (c.node p) None }) X
  agree_kept b X c l m a = record {
    sized = a.sized;
    bounded = m;
    holds = λ p. rw (a.holds p) (cond_and (is_kept rule c.boundary p) (is_kept rule b p) (slice_get (node_digests h rule X) p)
        (kept_before rule c.boundary b p (omega (arith, l)) (size_le rule c.boundary b (omega (arith, l)))));
  }

  pub agree_pruned : (b : ℕ) (X : List D) (c : Contents D) → b ≤ length X → Agrees h rule c X → Agrees h rule (pruned rule b c) X
  agree_pruned b X c m a =
      by_test (λ t. Agrees h rule (cond t (record { boundary = b; size = c.size; node = λ p. cond (is_kept rule b p) (c.node p) None }) c) X) (ltb c.boundary b)
      (λ e. agree_kept b X c (ltb-true c.boundary b e) m a) (λ e. a)
