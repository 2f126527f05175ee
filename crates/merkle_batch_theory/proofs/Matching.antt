-- A batch is accepted by each `Mem` that agrees with its first list, or with the list after a kept ancestor.
use Rattle.std.proofs.Common.{◌≡◌, ℕ, zero, suc, ◌+◌, ◌≤◌, List, [], ◌∷◌, length, Option, Some, None, Bool, true, false, cond, slice_get, arith, refl, sym, ap, ◌∙◌}
use Rattle.std.specs.Prelude.{◌&&◌, ◌==◌, is_some}
use Rattle.std.specs.Cmp.Lexicographic.{pointwise, pointwise_decides}
use Rattle.std.proofs.lemmas.Bool.{eq-eqb}
use Rattle.merkle_base.specs.Forest.{size}
use Rattle.merkle_base.proofs.Lists.{get_front, get_exists}
use Rattle.merkle_base.specs.Hashing.{Hashing, EqDecides}
use Rattle.merkle_base.specs.Digests.{peak_digests}
use Rattle.merkle_batch_theory.specs.Contents.{Contents, Agrees, held_peaks}
use Rattle.merkle_batch_theory.specs.Records.{MerkleizedModel, records, after}
use Rattle.merkle_batch_theory.specs.Replay.{last_match, oldest, matched, is_state}
use Rattle.merkle_batch_theory.specs.History.{IsHistory}
use Rattle.merkle_batch_theory.proofs.Steps.{step_size}
use Rattle.merkle_batch_theory.proofs.Accepted.{peaks_agree, stands_at, head_stands}

last_some : {X : Type 0} (test : X → Bool) (xs : List X) (j : ℕ) (x : X) → slice_get xs j ≡ Some x → test x ≡ true → is_some (last_match test xs) ≡ true
last_some test [] j x e t = absurd (cc)
last_some test (y ∷ xs) zero x e t = (let d : y ≡ x = cc in here (last_match test xs) (test y) (ap test d ∙ t))
  where
    here : (o : Option ℕ) (b : Bool) → b ≡ true → is_some (elim o as (λ _. Option ℕ) [ Some i ↦ Some (suc i) | None ↦ cond b (Some 1) None ]) ≡ true
    here None b t = ap (λ c. is_some {T = ℕ} (cond c (Some 1) None)) t
    here (Some i) b t = refl
last_some test (y ∷ xs) (suc j) x e t = later (last_match test xs) (cond (test y) (Some 1) None) (last_some test xs j x e t)
  where
    later : (o u : Option ℕ) → is_some o ≡ true → is_some (elim o as (λ _. Option ℕ) [ Some i ↦ Some (suc i) | None ↦ u ]) ≡ true
    later None u t = absurd (cc)
    later (Some i) u t = refl

module _ {D : Type 0} (h : Hashing D) (rule : List ℕ → List ℕ) where
  both_true : EqDecides h → (n m : ℕ) (ps qs : List D) → n ≡ m → ps ≡ qs → (n == m) && pointwise h.same ps qs ≡ true
  both_true law n m ps qs e f = ap (λ b. b && pointwise h.same ps qs) (eq-eqb n m e) ∙ (pointwise_decides law ps qs).1 f

  pub accepts : EqDecides h → (k : MerkleizedModel D) (ls : List (List D)) (c : Contents D) (X : List D) (i : ℕ) → IsHistory h rule (records k) ls
      → slice_get ls i ≡ Some X → i ≤ length k.ancestors → Agrees h rule c X →
      is_some (matched h.same c.size (held_peaks rule (length X) c) k) ≡ true
  accepts law k ls c X zero s g l a =
      (let w = head_stands h rule k ls s in
      let d : w.0 ≡ X = (let m : Some w.0 ≡ Some X = sym w.2 ∙ g in cc) in
      let b : is_state h.same c.size (held_peaks rule (length X) c) (oldest k).before (oldest k).peaks_before ≡ true =
      both_true law c.size (oldest k).before (held_peaks rule (length X) c) (oldest k).peaks_before
      (a.sized ∙ ap (λ Z. size rule (length Z)) (sym d) ∙ sym w.4.before) (peaks_agree h rule c X a ∙ ap (peak_digests h rule) (sym d) ∙ sym w.4.peaks_before) in
      ap (λ t. is_some {T = ℕ} (cond t (Some 0) (last_match (λ r. is_state h.same c.size (held_peaks rule (length X) c) (after r) r.peaks_after) k.ancestors))) b)
  accepts law k ls c X (suc i) s g l a =
      (let r = get_exists k.ancestors i (omega (arith, l)) in
      let w = stands_at h rule (records k) ls i r.0 s (get_front k.ancestors (k.own ∷ []) i r.0 r.1) in
      let d : w.1 ≡ X = (let m : Some w.1 ≡ Some X = sym w.3 ∙ g in cc) in
      let b : is_state h.same c.size (held_peaks rule (length X) c) (after r.0) r.0.peaks_after ≡ true =
      both_true law c.size (after r.0) (held_peaks rule (length X) c) r.0.peaks_after
      (a.sized ∙ ap (λ Z. size rule (length Z)) (sym d) ∙ sym (ap (λ n. n + length r.0.appended) w.4.before ∙ step_size h rule r.0 w.0 w.1 w.4))
      (peaks_agree h rule c X a ∙ ap (peak_digests h rule) (sym d) ∙ sym w.4.peaks_after) in
      either (is_state h.same c.size (held_peaks rule (length X) c) (oldest k).before (oldest k).peaks_before)
      (last_match (λ r. is_state h.same c.size (held_peaks rule (length X) c) (after r) r.peaks_after) k.ancestors)
      (last_some (λ r. is_state h.same c.size (held_peaks rule (length X) c) (after r) r.peaks_after) k.ancestors i r.0 r.1 b))
    where
      either : (b : Bool) (o : Option ℕ) → is_some o ≡ true → is_some {T = ℕ} (cond b (Some 0) o) ≡ true
      either true o e = refl
      either false o e = e
