-- The nodes that a range proof reads, and what it makes of their digests.
use Rattle.std.specs.Prelude.{ℕ, ◌+◌, List, ◌++◌, length, reverse, Option, Some, None}
use Rattle.merkle_base.specs.Tree.{Tree, position}
use Rattle.merkle_base.specs.Hashing.{Hashing}
use Rattle.merkle_base.specs.Places.{peaks_of, wholly_before}
use Rattle.merkle_base.specs.declared.family.Bagging.{Bagging}
use Rattle.merkle_root_theory.specs.Expression.{hashed_at}
use Rattle.merkle_root_theory.specs.Plan.{Plan, peak, folding}
use Rattle.merkle_root_theory.specs.Outside.{single_after, folded_suffix}
use Rattle.merkle_root_theory.specs.Range.{overlapping, wholly_after, range_siblings}

-- the nodes that a proof of a..b reads: the peaks before the range, those after it, and the path siblings
abbrev pub nodes_read : (List ℕ → List ℕ) → (n a b : ℕ) → List Tree
nodes_read rule n a b = wholly_before a (peaks_of rule n) ++ (wholly_after b (peaks_of rule n) ++ range_siblings a b (peaks_of rule n))

-- the nodes that a proof of a..b reads, in the order in which it reads them: the peaks before the range, the single ones after it, the
-- folded ones after it from the last one on, and the path siblings
abbrev pub reading_order : Bagging → (k : ℕ) → (List ℕ → List ℕ) → (n a b : ℕ) → List Tree
reading_order bagging k rule n a b =
    let before = wholly_before a (peaks_of rule n) in
    let after = wholly_after b (peaks_of rule n) in
    let met = length before + length (overlapping a b (peaks_of rule n)) in
    before ++ (single_after bagging k met after ++ (reverse (folded_suffix bagging k met after) ++ range_siblings a b (peaks_of rule n)))

-- a function of two digests, if both are there
abbrev pub both_read : {D : Type 0} → (D → D → D) → Option D → Option D → Option D
both_read f None y = None
both_read f (Some x) None = None
both_read f (Some x) (Some y) = Some (f x y)

-- the digest of a part of a root, over the digests at the positions of its peaks
abbrev pub part_read : {D : Type 0} → Hashing D → (ℕ → Option D) → Plan → Option D
part_read h node (peak t) = node (position t)
part_read h node (folding place l r) = both_read (hashed_at h place) (part_read h node l) (part_read h node r)
