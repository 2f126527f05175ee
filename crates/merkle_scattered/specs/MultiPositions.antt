-- Locations of leaves that are proved together: why some are refused, and what their proofs read.
use Rattle.std.specs.Prelude.{ℕ, Bool, true, cond, not, ◌+◌, ◌≤◌, ◌<◌, nat_eq, nat_le, nat_lt, List, [], ◌∷◌, ◌++◌, length, map, filter}
use Rattle.std.specs.List.{AllByRecursion, flat_map}
use Rattle.merkle_base.specs.Tree.{Tree, leaf, join, position, first_leaf, end_leaf}
use Rattle.merkle_base.specs.Places.{peaks_of}
use Rattle.merkle_base.specs.declared.error.Error.{Error}
use Rattle.merkle_base.specs.declared.error.Error.TheVariants.{Empty, RangeOutOfBounds, LocationOverflow, DuplicateLocation, UnsortedLocation}
use Rattle.merkle_forest_theory.specs.Ascending.{AscendsFrom}

-- some leaves of a list of n, strictly ascending, and a list may have n
pub record AreLocations (max_leaves n : ℕ) (locations : List ℕ) : Type 0 where
  pub nonempty : 0 < length locations
  pub ascend : AscendsFrom 0 locations
  pub below : AllByRecursion (λ i. i < n) locations
  pub leaves : n ≤ max_leaves

-- why a location is refused among n leaves: no list has it, or these leaves end before it
abbrev pub location_refusals : {F : Type 0} → (max_leaves n i : ℕ) → List (Bool × Error F)
location_refusals max_leaves n i = (nat_le max_leaves i, LocationOverflow i) ∷ (nat_le n i, RangeOutOfBounds (i + 1)) ∷ []

-- why locations after one don't go on ascending over n leaves
abbrev pub later_refusals : {F : Type 0} → (max_leaves n before : ℕ) → List ℕ → List (Bool × Error F)
later_refusals max_leaves n before [] = []
later_refusals max_leaves n before (i ∷ is) =
    (nat_eq i before, DuplicateLocation i)
    ∷ (nat_lt i before, UnsortedLocation i)
    ∷ location_refusals max_leaves n i ++ later_refusals max_leaves n i is

-- why locations are refused among n leaves, in the order in which that is tried
abbrev pub multi_refusals : {F : Type 0} → (max_leaves n : ℕ) → List ℕ → List (Bool × Error F)
multi_refusals max_leaves n [] = (true, Empty) ∷ []
multi_refusals max_leaves n (i ∷ is) = location_refusals max_leaves n i ++ (nat_lt max_leaves n, LocationOverflow n) ∷ later_refusals max_leaves n i is

-- the locations, of some, that are before e
abbrev pub those_before : ℕ → List ℕ → List ℕ
those_before e is = filter (λ i. nat_lt i e) is

-- the locations, of some, that are e or after it
abbrev pub those_from : ℕ → List ℕ → List ℕ
those_from e is = filter (λ i. nat_le e i) is

-- the locations, of some, whose leaves lie under a node
abbrev pub under : Tree → List ℕ → List ℕ
under t is = those_before (end_leaf t) (those_from (first_leaf t) is)

-- whether there are any locations
abbrev pub are_some : List ℕ → Bool
are_some is = not (nat_eq (length is) 0)

-- a list of a node, if it is read, and else of none
abbrev pub node_if : Bool → Tree → List Tree
node_if b t = cond b (t ∷ []) []

-- the nodes below a node that the proofs of the leaves at some locations under it read, each once, in the order of the nodes
abbrev pub read_below : List ℕ → Tree → List Tree
read_below is (leaf p i) = []
read_below is (join p l r) =
    read_below (those_before (first_leaf r) is) l ++ node_if (are_some (those_from (first_leaf r) is)) l
    ++ read_below (those_from (first_leaf r) is) r ++ node_if (are_some (those_before (first_leaf r) is)) r

-- the nodes of a peak that the proofs of the leaves at some locations read, each once: those below it, and itself where some location is
-- not under it
abbrev pub read_in : List ℕ → Tree → List Tree
read_in is t = read_below (under t is) t ++ node_if (nat_lt (length (under t is)) (length is)) t

-- the positions of all that the proofs of some leaves read, one peak after another
abbrev pub positions_read : (List ℕ → List ℕ) → ℕ → List ℕ → List ℕ
positions_read rule n is = map position (flat_map (read_in is) (peaks_of rule n))
