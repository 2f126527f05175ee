-- A fold right to left, joined to what was folded left to right.
use Rattle.std.proofs.Common.{List}
use Rattle.std.specs.Option.{option_map_or}
use Rattle.merkle_base.specs.Root.{right_fold}

-- acc, which takes in the fold of the peaks, if there are any
abbrev pub with_right_fold : {D : Type 0} → (D → D → D) → D → List D → D
with_right_fold f acc peaks = option_map_or (f acc) (right_fold f peaks) acc
