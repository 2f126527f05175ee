-- Writing the digests of nodes that were still to be computed.
use Rattle.std.proofs.Common.{◌≡◌, ℕ, ◌+◌, ◌-◌, ◌<◌, ◌≤◌, List, [], ◌∷◌, length, get_or, Option, Some, None, true, false, cond, slice_get, arith, sym, ap, inl, inr, ◌∙◌}
use Rattle.std.specs.Prelude.{is_some, nat_lt, ◌==◌}
use Rattle.std.specs.List.{Contains}
use Rattle.std.specs.Ordering.{nat_cmp}
use Rattle.std.specs.FinMap.{FinMap, get, insert}
use Rattle.std.proofs.Math.ListN.{set}
use Rattle.std.proofs.lemmas.Bool.{cases_lt, lt-ltb, le-ltb}
use Rattle.std.proofs.lemmas.Bool.Decides.{eqb_tells}
use Rattle.std.proofs.lemmas.List.Elements.{Contains-append_cases}
use Rattle.merkle_base.specs.Tree.{Tree}
use Rattle.merkle_base.specs.Forest.{forest}
use Rattle.merkle_base.specs.Hashing.{Hashing}
use Rattle.merkle_batch_theory.proofs.Edits.{get_set_same, get_set_other}
use Rattle.merkle_batch_theory.proofs.MapFacts.{inserted_at}
use Rattle.merkle_draft.specs.NewDigests.{is_written, new_digest}
use Rattle.merkle_draft.specs.Settled.{AreSettled}

single : {X : Type 0} (x y : X) → Contains (x ∷ []) y → y ≡ x
single x y c = (let z : c.0 ≡ 0 = omega (arith, c.1) in sym (sym (ap (λ k. get_or (x ∷ []) k y) z) ∙ c.2))

module _ {D : Type 0} (h : Hashing D) (rule : List ℕ → List ℕ) (m under : ℕ → Option D) (n : ℕ) (ds : List D) where
  -- one node is computed
  pub settle_one : (todo : List ℕ) (before after : ℕ → Option D) (p : ℕ) (d : D) → AreSettled h rule m under n ds (p ∷ todo) before →
      ((t : Tree) → slice_get (forest rule (n + length ds)).nodes p ≡ Some t → (is_written rule m n t ≡ true)
      × (new_digest h rule m under n ds t ≡ Some d)) → ((q : ℕ) → after q ≡ cond (q == p) (Some d) (before q)) →
      AreSettled h rule m under n ds todo after
  settle_one todo before after p d settled right set q t at = elim (eqb_tells q p) [
    | inl s ↦ (let here : slice_get (forest rule (n + length ds)).nodes p ≡ Some t = ap (slice_get (forest rule (n + length ds)).nodes) (sym s.1) ∙ at in
        let w = right t here in
        inr (set q ∙ ap (λ b. cond b (Some d) (before q)) s.0 ∙ sym w.1 ∙ ap (λ b. cond b (new_digest h rule m under n ds t) None) (sym w.0), (λ _. ap is_some w.1)))
    | inr s ↦ (let same : after q ≡ before q = set q ∙ ap (λ b. cond b (Some d) (before q)) s.0 in
        elim (settled q t at) [
          | inl c ↦ elim (Contains-append_cases (p ∷ []) todo q c) [ inl x ↦ absurd (s.1 (single p q x)) | inr x ↦ inl x ]
          | inr w ↦ inr (same ∙ w.0, w.1)
        ])
  ]

-- ---- what a draft stores, after one of its nodes is set
module _ {D : Type 0} (before p : ℕ) (ow : FinMap nat_cmp D) (xs : List D) (d : D) where
  -- an old node
  pub stored_overwritten : p < before → (q : ℕ)
      → cond (nat_lt q before) (get (insert ow p d) q) (slice_get xs (q - before))
      ≡ cond (q == p) (Some d) (cond (nat_lt q before) (get ow q) (slice_get xs (q - before)))
  stored_overwritten less q = elim (eqb_tells q p) [
    | inl s ↦ (let l : nat_lt q before ≡ true = lt-ltb q before (omega (arith, less, s.1)) in
        ap (λ b. cond b (get (insert ow p d) q) (slice_get xs (q - before))) l ∙ inserted_at ow p d q ∙ ap (λ b. cond b (Some d) (get ow q)) s.0
        ∙ sym (ap (λ b. cond b (Some d) (cond (nat_lt q before) (get ow q) (slice_get xs (q - before)))) s.0))
    | inr s ↦ ap (λ o. cond (nat_lt q before) o (slice_get xs (q - before))) (inserted_at ow p d q ∙ ap (λ b. cond b (Some d) (get ow q)) s.0)
        ∙ sym (ap (λ b. cond b (Some d) (cond (nat_lt q before) (get ow q) (slice_get xs (q - before)))) s.0)
  ]

  -- an appended one
  pub stored_appended : before ≤ p → p < before + length xs → (i : ℕ) → i ≡ p - before → (q : ℕ) →
      cond (nat_lt q before) (get ow q) (slice_get (set xs i d) (q - before)) ≡ cond (q == p) (Some d) (cond (nat_lt q before) (get ow q) (slice_get xs (q - before)))
  stored_appended past short i is q = elim (eqb_tells q p) [
    | inl s ↦ (let l : nat_lt q before ≡ false = le-ltb q before (omega (arith, past, s.1)) in
        let k : q - before ≡ i = omega (arith, is, s.1) in
        ap (λ b. cond b (get ow q) (slice_get (set xs i d) (q - before))) l ∙ ap (slice_get (set xs i d)) k ∙ get_set_same xs i d (omega (arith, is, past, short))
        ∙ sym (ap (λ b. cond b (Some d) (cond (nat_lt q before) (get ow q) (slice_get xs (q - before)))) s.0))
    | inr s ↦ (elim (cases_lt q before) [
      | inl w ↦ (let l : nat_lt q before ≡ true = lt-ltb q before w in
          ap (λ b. cond b (get ow q) (slice_get (set xs i d) (q - before))) l ∙ sym (ap (λ b. cond b (get ow q) (slice_get xs (q - before))) l))
      | inr w ↦ ap (cond (nat_lt q before) (get ow q)) (get_set_other xs i (q - before) d (λ e. s.1 (omega (arith, e, is, w, past))))
    ]) ∙ sym (ap (λ b. cond b (Some d) (cond (nat_lt q before) (get ow q) (slice_get xs (q - before)))) s.0)
  ]

-- past the old nodes nothing is overwritten
pub past_overwritten : {D : Type 0} (before p : ℕ) (ow : FinMap nat_cmp D) (d : D) → p < before → (q : ℕ) → before ≤ q → get (insert ow p d) q ≡ get ow q
past_overwritten before p ow d less q past = elim (eqb_tells q p) [
  | inl s ↦ absurd (omega (arith, less, past, s.1))
  | inr s ↦ inserted_at ow p d q ∙ ap (λ b. cond b (Some d) (get ow q)) s.0
]
