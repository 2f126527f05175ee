-- Which nodes a batch needs: those that it reads and doesn't find, and no other.
use Rattle.std.proofs.Common.{◌≡◌, ℕ, ◌+◌, List, length, Option, None, true, false, sym, ap, inl, inr, ◌∙◌}
use Rattle.std.specs.Prelude.{is_some}
use Rattle.std.specs.FinMap.{get}
use Rattle.std.specs.Option.{option_or}
use Rattle.std.proofs.lemmas.Bool.{false≢true, cases_Bool}
use Rattle.merkle_base.specs.Tree.{Tree, join, position}
use Rattle.merkle_base.specs.Forest.{forest, size}
use Rattle.merkle_base.specs.Hashing.{Hashing}
use Rattle.merkle_base.proofs.Lookup.{peak_node}
use Rattle.merkle_base.proofs.Nodes.{node_anywhere}
use Rattle.merkle_batch_theory.specs.Needed.{IsNeeded}
use Rattle.merkle_batch_theory.proofs.NeededNodes.{IsChanged}
use Rattle.merkle_batch_theory.specs.History.{is_dirty}
use Rattle.merkle_base.proofs.Reversed.{get_reverse, get_reversed}
use Rattle.merkle_draft.specs.declared.node_error.NodeError.{NodeError}
use Rattle.merkle_draft.specs.DraftReads.{ArePeaksRead, DraftModel, IsMissingPeak, stored_node}
use Rattle.merkle_draft.specs.NewDigests.{AreNewDigests, LacksNeeded, new_digest}
use Rattle.merkle_batch.proofs.NewDigests.{children_new, dirty_new, read_new, untouched_new, written_new}

module _ {D : Type 0} (h : Hashing D) (rule : List ℕ → List ℕ) (m below : ℕ → Option D) (n : ℕ) (ds : List D)
    (d : DraftModel D) (b : d.before ≡ size rule n) (are : AreNewDigests h rule m below n ds (stored_node d)) where
  -- a peak that is not there
  pub peak_gap : {F : Type 0} → IsChanged rule m n (n + length ds) → (g : NodeError F)
      → IsMissingPeak rule (n + length ds) (size rule n) (λ p. option_or (get d.overwritten p) (below p)) g → LacksNeeded rule m below n (n + length ds) g
  peak_gap changed g gap =
      let t : Tree = gap.1 in
      let k = get_reversed (forest rule (n + length ds)).peaks gap.0 t gap.2 in
      let old = node_anywhere rule (n + length ds) n (position t) t (peak_node rule (n + length ds) k.0 t k.1) gap.3 in
      let none : new_digest h rule m below n ds t ≡ None = sym (read_new h rule m below n ds d b are (position t) t old) ∙ gap.4.1 in
      let untouched : is_dirty m t ≡ false = elim (cases_Bool (is_dirty m t)) [
        | inl u ↦ absurd (false≢true (sym (ap is_some none) ∙ dirty_new h rule m below n ds d b are (position t) t old u))
        | inr u ↦ u
      ] in
      (t, (inr (changed, k), gap.3, untouched), (gap.4.0, sym (untouched_new h rule m below n ds t gap.3 untouched) ∙ none))

  -- each needed node is read
  pub needed_read : (IsChanged rule m n (n + length ds) → ArePeaksRead rule (n + length ds) (size rule n) (λ p. option_or (get d.overwritten p) (below p)))
      → (t : Tree) → IsNeeded rule m n (n + length ds) t → is_some (below (position t)) ≡ true
  needed_read peaks t need =
      let told : is_some (new_digest h rule m below n ds t) ≡ true = elim need.0 [
        | inl x ↦ (let s = children_new h rule m below n ds x.0 x.1 x.2 x.4 (written_new h rule m below n ds d b are x.0 (join x.0 x.1 x.2) x.3 x.4) in
            elim x.5 [
              | inl c ↦ ap (λ u. is_some (new_digest h rule m below n ds u)) c ∙ s.0
              | inr c ↦ ap (λ u. is_some (new_digest h rule m below n ds u)) c ∙ s.1
            ])
        | inr x ↦ (let k = get_reverse (forest rule (n + length ds)).peaks x.1.0 t x.1.1 in
            let old = node_anywhere rule (n + length ds) n (position t) t (peak_node rule (n + length ds) x.1.0 t x.1.1) need.1 in
            ap is_some (sym (read_new h rule m below n ds d b are (position t) t old)) ∙ peaks x.0 k.0 t k.1 need.1)
      ] in
      ap is_some (sym (untouched_new h rule m below n ds t need.1 need.2)) ∙ told
