-- When an element is updated, and why it isn't.
use Rattle.std.proofs.Common.{◌≡◌, ℕ, ◌<◌, ◌≤◌, List, length, None, Some, arith, refl, ap, ◌∙◌, inl, inr}
use Rattle.std.specs.Borrow.{Bor}
use Rattle.std.proofs.lemmas.Bool.{cases_lt, lt-leb, le-ltb}
use Rattle.merkle_base.specs.Forest.{size}
use Rattle.merkle_base.specs.Scheme.{Scheme}
use Rattle.merkle_base.specs.declared.error.Error.{Error}
use Rattle.merkle_base.specs.declared.error.Error.TheVariants as error
use Rattle.merkle_batch_theory.specs.Unmerkleized.{UnmerkleizedModel, leaf_total, update_error}
use Rattle.merkle_batch_theory.proofs.PendingUpdates.{out_of_bounds, pruned_error}
use Rattle.merkle_commands.specs.declared.command.Request.TheVariants.{Update}
use Rattle.merkle_lines.specs.Answers.{committed_list, error_line, IsRequestAnswered}
use Rattle.merkle_lines.specs.ErrorNames.{error_name}
use Rattle.merkle_lines.specs.StructureState.{StructureState, changes, without_changes}
use Rattle.merkle_lines.specs.Held.{Makes}
use Rattle.merkle_lines.proofs.Making.{made_total}
use Rattle.merkle_lines.proofs.Replies.{update_out, update_pruned, wanting}

module _ {D : Type 0} (s : Scheme D) (size_of : ℕ) (Spells : List ℕ → Type 0) (g : StructureState) (b : UnmerkleizedModel D)
    (m : Makes s.hashing s.rule (committed_list s g) b (changes g)) (location : ℕ) where
  made_boundary : b.parent.boundary ≡ (changes g).boundary
  made_boundary = ap (λ p. p.boundary) m.forked ∙ m.boundary

  total : leaf_total b ≡ length (changes g).elements
  total = made_total s.hashing s.rule (committed_list s g) b (changes g) m

  no_error : {F : Type 0} → location < leaf_total b → b.parent.boundary ≤ location → update_error {F = F} s.rule b location ≡ None
  no_error l k = rw (lt-leb (leaf_total b) location l, le-ltb location b.parent.boundary k) refl

  pub update_allowed : {F : Type 0} → ((e : Error F) → update_error s.rule b location ≡ Some e → ⊥) → (location < length (changes g).elements) × ((changes g).boundary ≤ location)
  update_allowed none = elim (cases_lt location (leaf_total b)) [
    | inr past ↦ absurd (none (error.LeafOutOfBounds location) (out_of_bounds s.rule b location past))
    | inl there ↦ elim (cases_lt location b.parent.boundary) [
      | inl before ↦ absurd (none (error.ElementPruned (size s.rule location)) (pruned_error s.rule b location there before))
      | inr kept ↦ (omega (arith, there, total), omega (arith, kept, made_boundary))
    ]
  ]

  pub update_failed : {F : Type 0} (digits : Bor (List ℕ)) (e : Error F) (text : List ℕ)
      → ((other : Error F) → update_error s.rule b location ≡ Some other → e ≡ other) → (update_error {F = F} s.rule b location ≡ None → e ≡ error.OutOfMemory)
      → text ≡ error_line (error_name e) → IsRequestAnswered s size_of Spells g (Update location digits) (without_changes g) text
  update_failed digits e text refused allowed t = elim (cases_lt location (leaf_total b)) [
    | inr past ↦ update_out s size_of Spells g location digits e text (omega (arith, past, total)) (refused (error.LeafOutOfBounds location) (out_of_bounds s.rule b location past)) t
    | inl there ↦ elim (cases_lt location b.parent.boundary) [
      | inl before ↦
          update_pruned s size_of Spells g location (size s.rule location) digits e text (omega (arith, there, total)) (omega (arith, before, made_boundary))
          (refused (error.ElementPruned (size s.rule location)) (pruned_error s.rule b location there before)) t
      | inr kept ↦ wanting s size_of Spells g (Update location digits) e text (allowed (no_error there kept)) t
    ]
  ]
