-- The laws of reading over a base, with one premise.
use Rattle.std.proofs.Common.{◌≡◌, ℕ, ◌≤◌, ◌⊎◌, List, ◌∷◌, length, Option, Some, true, slice_get}
use Rattle.std.specs.Prelude.{is_some}
use Rattle.std.specs.Option.{option_or}
use Rattle.std.specs.FinMap.{get}
use Rattle.merkle_base.specs.Tree.{Tree, position}
use Rattle.merkle_base.specs.Forest.{size}
use Rattle.merkle_base.specs.Hashing.{Hashing}
use Rattle.merkle_base.specs.Digests.{node_digests}
use Rattle.merkle_batch_theory.specs.Contents.{Contents, is_kept}
use Rattle.merkle_batch_theory.specs.Records.{RecordModel}
use Rattle.merkle_batch_theory.specs.History.{edited, is_dirty, last_list}
use Rattle.merkle_batch_theory.specs.Read.{read_over}
use Rattle.merkle_batch_theory.specs.Needed.{IsUsed, IsNeeded}
use Rattle.merkle_batch_theory.specs.BaseAgrees.{IsBased}
use Rattle.merkle_batch_theory.proofs.ReadThroughRecords.{read_right, read_kept}
use Rattle.merkle_batch_theory.proofs.Complete.{needed_right, none_missing}
use Rattle.merkle_batch_theory.proofs.Children.{used_right}

module _ {D : Type 0} (h : Hashing D) (rule : List ℕ → List ℕ) (rs : List (RecordModel D)) (X : List D) (ls : List (List D)) (base : Contents D) (b : IsBased h rule rs X ls base) where
  pub based_right : (p : ℕ) (d : D) → read_over rs base p ≡ Some d → slice_get (node_digests h rule (last_list (X ∷ ls))) p ≡ Some d
  based_right = read_right h rule rs X ls base b.place b.list b.stands b.listed b.agrees

  pub based_answered : (p : ℕ) → is_kept rule base.boundary p ≡ true → read_over rs base p ≡ slice_get (node_digests h rule (last_list (X ∷ ls))) p
  based_answered = read_kept h rule rs X ls base b.place b.list b.stands b.listed b.agrees

  pub based_needed : (r : RecordModel D) (e : ℕ) (t : Tree) (d : D) → IsNeeded rule (get r.overwritten) (length (last_list (X ∷ ls))) e t
      → read_over rs base (position t) ≡ Some d → slice_get (node_digests h rule (edited rule r (last_list (X ∷ ls)))) (position t) ≡ Some d
  based_needed = needed_right h rule rs X ls base b.place b.list b.stands b.listed b.agrees

  pub based_missing : (r : RecordModel D) (e : ℕ) → length (last_list (X ∷ ls)) ≤ e
      → ((k : ℕ) → is_some (get r.overwritten (size rule k)) ≡ true → base.boundary ≤ k) → (t : Tree)
      → IsNeeded rule (get r.overwritten) (length (last_list (X ∷ ls))) e t → (d : D) × (read_over rs base (position t) ≡ Some d)
  based_missing = none_missing h rule rs X ls base b.place b.list b.stands b.listed b.agrees

  pub based_used : (r : RecordModel D) (e : ℕ) (own : ℕ → Option D)
      → ((p : ℕ) (d : D) → own p ≡ Some d → slice_get (node_digests h rule (edited rule r (last_list (X ∷ ls)))) p ≡ Some d) → (t : Tree)
      → IsUsed rule (get r.overwritten) (length (last_list (X ∷ ls))) e t →
      ((size rule (length (last_list (X ∷ ls))) ≤ position t) ⊎ (is_dirty (get r.overwritten) t ≡ true) → is_some (own (position t)) ≡ true) → (d : D)
      → option_or (own (position t)) (read_over rs base (position t)) ≡ Some d
      → slice_get (node_digests h rule (edited rule r (last_list (X ∷ ls)))) (position t) ≡ Some d
  based_used = used_right h rule rs X ls base b.place b.list b.stands b.listed b.agrees
