-- How many peaks there are beside how high they are.
use Rattle.std.specs.Prelude.{ℕ, ◌+◌, ◌<◌, ◌≤◌, List, length, slice_index}
use Rattle.merkle_base.specs.Heights.{peak_heights}

-- up to `max_leaves` leaves each peak's height and the number of peaks are at most 123 together
abbrev pub FewPeaks : (List ℕ → List ℕ) → ℕ → Type 0
FewPeaks rule max_leaves = (n i : ℕ) → n ≤ max_leaves → i < length (peak_heights rule n)
    → slice_index (peak_heights rule n) i + length (peak_heights rule n) ≤ 123
