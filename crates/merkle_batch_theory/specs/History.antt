-- When records are those of a chain of lists.
use Rattle.std.specs.Prelude.{◌≡◌, ℕ, suc, ◌≤◌, List, [], ◌∷◌, ◌++◌, length, drop, Bool, Option, Some, None, is_some, cond, ◌||◌, ◌==◌, slice_get}
use Rattle.std.specs.List.{last_or}
use Rattle.std.specs.Option.{unwrap_or}
use Rattle.std.specs.FinMap.{get}
use Rattle.merkle_base.specs.Tree.{Tree, leaf, join}
use Rattle.merkle_base.specs.Forest.{forest, size}
use Rattle.merkle_base.specs.Hashing.{Hashing}
use Rattle.merkle_base.specs.Digests.{digest_at, node_digests, peak_digests}
use Rattle.merkle_batch_theory.specs.Records.{RecordModel}

-- the entries from location n on, replaced where m has a digest for the leaf
abbrev pub replaced : {D : Type 0} → (List ℕ → List ℕ) → (ℕ → Option D) → ℕ → List D → List D
replaced rule m n [] = []
replaced rule m n (d ∷ ds) = unwrap_or (m (size rule n)) d ∷ replaced rule m (suc n) ds

-- the digests of the leaves among the nodes from position p on, the first leaf being at location n
abbrev pub leaves_among : {D : Type 0} → (List ℕ → List ℕ) → ℕ → ℕ → List D → List D
leaves_among rule n p [] = []
leaves_among rule n p (d ∷ ds) = cond (p == size rule n) (d ∷ leaves_among rule (suc n) (suc p) ds) (leaves_among rule n (suc p) ds)

-- the list after a record: the entries of its overwritten leaves replaced, those of its appended leaves added
abbrev pub edited : {D : Type 0} → (List ℕ → List ℕ) → RecordModel D → List D → List D
edited rule r X = replaced rule (get r.overwritten) 0 X ++ leaves_among rule (length X) r.before r.appended

-- whether m has a digest for a leaf of the tree
abbrev pub is_dirty : {D : Type 0} → (ℕ → Option D) → Tree → Bool
is_dirty m (leaf p n) = is_some (m p)
is_dirty m (join p l r) = is_dirty m l || is_dirty m r

-- r records the change of X to Y: size and peaks before and after, the new nodes, and, of the old ones, exactly the overwritten leaves and their ancestors
pub record IsStep {D : Type 0} (h : Hashing D) (rule : List ℕ → List ℕ) (r : RecordModel D) (X Y : List D) : Type 0 where
  pub edit : Y ≡ edited rule r X
  pub before : r.before ≡ size rule (length X)
  pub longer : length X ≤ length Y
  pub peaks_before : r.peaks_before ≡ peak_digests h rule X
  pub peaks_after : r.peaks_after ≡ peak_digests h rule Y
  pub appended : r.appended ≡ drop r.before (node_digests h rule Y)
  pub overwritten : (p : ℕ) (t : Tree) → slice_get (forest rule (length X)).nodes p ≡ Some t
      → get r.overwritten p ≡ cond (is_dirty (get r.overwritten) t) (Some (digest_at h Y t)) None
  pub old : (p : ℕ) → r.before ≤ p → get r.overwritten p ≡ None

-- the records stand on lists, of which there is one more: each records the change of one list to the next
abbrev pub IsHistory : {D : Type 0} → Hashing D → (List ℕ → List ℕ) → List (RecordModel D) → List (List D) → Type 0
IsHistory h rule rs [] = ⊥
IsHistory h rule [] (X ∷ []) = Unit {0}
IsHistory h rule (r ∷ rs) (X ∷ Y ∷ ls) = IsStep h rule r X Y × IsHistory h rule rs (Y ∷ ls)
IsHistory h rule rs ls = ⊥

-- the last of some lists, or the empty list
abbrev pub last_list : {D : Type 0} → List (List D) → List D
last_list ls = unwrap_or (last_or None ls) []
