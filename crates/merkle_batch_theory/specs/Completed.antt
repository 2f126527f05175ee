-- What merkleizing makes of a pending record.
use Rattle.std.specs.Prelude.{◌≡◌, ℕ, ◌≤◌, List, length, drop, Some, None, cond, slice_get}
use Rattle.std.specs.FinMap.{get}
use Rattle.merkle_base.specs.Tree.{Tree}
use Rattle.merkle_base.specs.Forest.{forest, size}
use Rattle.merkle_base.specs.Hashing.{Hashing}
use Rattle.merkle_base.specs.Digests.{digest_at, node_digests, peak_digests}
use Rattle.merkle_batch_theory.specs.Records.{RecordModel}
use Rattle.merkle_batch_theory.specs.History.{edited, is_dirty}

-- s has the nodes and peaks that follow from the leaves of the pending record r, over the list X
pub record IsCompleted {D : Type 0} (h : Hashing D) (rule : List ℕ → List ℕ) (r s : RecordModel D) (X : List D) : Type 0 where
  pub before : s.before ≡ size rule (length X)
  pub peaks_before : s.peaks_before ≡ peak_digests h rule X
  pub peaks_after : s.peaks_after ≡ peak_digests h rule (edited rule r X)
  pub appended : s.appended ≡ drop s.before (node_digests h rule (edited rule r X))
  pub overwritten : (p : ℕ) (t : Tree) → slice_get (forest rule (length X)).nodes p ≡ Some t
      → get s.overwritten p ≡ cond (is_dirty (get r.overwritten) t) (Some (digest_at h (edited rule r X) t)) None
  pub old : (p : ℕ) → s.before ≤ p → get s.overwritten p ≡ None
