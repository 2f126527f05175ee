-- Reading the children of a node that is computed: what the batch has so far, then the kept records, then the base.
use Rattle.std.proofs.Common.{◌≡◌, ℕ, ◌≤◌, ◌⊎◌, List, ◌∷◌, length, Option, Some, None, true, slice_get, sym, ap, inl, inr, ◌∙◌}
use Rattle.std.specs.Prelude.{is_some}
use Rattle.std.specs.Option.{option_or}
use Rattle.std.specs.FinMap.{get}
use Rattle.std.proofs.lemmas.Bool.{false≢true}
use Rattle.merkle_base.specs.Tree.{Tree, position}
use Rattle.merkle_base.specs.Forest.{size}
use Rattle.merkle_base.specs.Hashing.{Hashing}
use Rattle.merkle_base.specs.Digests.{node_digests}
use Rattle.merkle_batch_theory.specs.Contents.{Contents, Agrees}
use Rattle.merkle_batch_theory.specs.Records.{RecordModel}
use Rattle.merkle_batch_theory.specs.History.{edited, is_dirty, IsHistory, last_list}
use Rattle.merkle_batch_theory.specs.Read.{read_over}
use Rattle.merkle_batch_theory.specs.Needed.{IsUsed, IsNeeded}
use Rattle.merkle_batch_theory.proofs.ShownLists.{sources}
use Rattle.merkle_batch_theory.proofs.Complete.{needed_right}
use Rattle.merkle_batch_theory.proofs.OptionFacts.{none_or_some}

-- a used node that the batch has nothing for is needed, where the batch has each new and each dirty one
pub left_needed : {D : Type 0} (rule : List ℕ → List ℕ) (m : ℕ → Option D) (n e : ℕ) (own : ℕ → Option D) (t : Tree) → IsUsed rule m n e t
    → ((size rule n ≤ position t) ⊎ (is_dirty m t ≡ true) → is_some (own (position t)) ≡ true) → own (position t) ≡ None → IsNeeded rule m n e t
left_needed rule m n e own t u fresh o = elim (sources rule m n e t u) [
  | inl l ↦ absurd (false≢true (sym (ap is_some o) ∙ fresh (inl l)))
  | inr v ↦ elim v [ inl w ↦ absurd (false≢true (sym (ap is_some o) ∙ fresh (inr w))) | inr w ↦ w ]
]

module _ {D : Type 0} (h : Hashing D) (rule : List ℕ → List ℕ) (rs : List (RecordModel D)) (X : List D) (ls : List (List D)) (base : Contents D) (j : ℕ) (W : List D)
    (stands : IsHistory h rule rs (X ∷ ls)) (there : slice_get (X ∷ ls) j ≡ Some W) (agrees : Agrees h rule base W) (r : RecordModel D) (e : ℕ)
    (own : ℕ → Option D) (right : (p : ℕ) (d : D) → own p ≡ Some d → slice_get (node_digests h rule (edited rule r (last_list (X ∷ ls)))) p ≡ Some d)
    (t : Tree) (used : IsUsed rule (get r.overwritten) (length (last_list (X ∷ ls))) e t)
    (fresh : (size rule (length (last_list (X ∷ ls))) ≤ position t) ⊎ (is_dirty (get r.overwritten) t ≡ true) → is_some (own (position t)) ≡ true) where
  -- what is read is right
  pub used_right : (d : D) → option_or (own (position t)) (read_over rs base (position t)) ≡ Some d → slice_get (node_digests h rule (edited rule r (last_list (X ∷ ls)))) (position t) ≡ Some d
  used_right d g = elim (none_or_some (own (position t))) [
    | inl o ↦ needed_right h rule rs X ls base j W stands there agrees r e t d
        (left_needed rule (get r.overwritten) (length (last_list (X ∷ ls))) e own t used fresh o) (ap (λ x. option_or x (read_over rs base (position t))) (sym o) ∙ g)
    | inr o ↦ right (position t) d (o.1 ∙ sym (ap (λ x. option_or x (read_over rs base (position t))) o.1) ∙ g)
  ]
