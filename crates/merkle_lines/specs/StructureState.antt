-- What a structure was told by the lines, in terms of elements.
use Rattle.std.specs.Prelude.{ℕ, ◌==◌, List, [], ◌∷◌, ◌++◌, length, Option, Some, None, cond, max, nat_lt, slice_set, ⊤}
use Rattle.std.specs.List.{list_any}
use Rattle.std.specs.Option.{unwrap_or}
use Rattle.merkle_base.specs.Forest.{size}

-- the elements with the changes since the last commit, the locations below the old leaf count that were updated, and the location
-- that the structure was pruned to when the changes began
pub record Changes : Type 0 where
  pub elements : List (List ℕ)
  pub updated : List ℕ
  pub boundary : ℕ

-- the elements of the last commit, the location that they were pruned to, and the changes since, if there are any
pub record StructureState : Type 0 where
  pub committed : List (List ℕ)
  pub boundary : ℕ
  pub pending : Option Changes

-- a structure that was just begun: no elements, nothing pruned, nothing pending
abbrev pub empty_structure : StructureState
empty_structure = record { committed = []; boundary = 0; pending = None }

-- the number of committed elements
abbrev pub count : StructureState → ℕ
count g = length g.committed

-- the pending changes, or none
abbrev pub changes : StructureState → Changes
changes g = unwrap_or g.pending (record { elements = g.committed; updated = []; boundary = g.boundary })

-- the structure with these changes pending
abbrev pub with_changes : StructureState → Changes → StructureState
with_changes g c = record { committed = g.committed; boundary = g.boundary; pending = Some c }

-- the structure without pending changes
abbrev pub without_changes : StructureState → StructureState
without_changes g = record { committed = g.committed; boundary = g.boundary; pending = None }

-- the structure with its pending changes committed
abbrev pub all_committed : StructureState → StructureState
all_committed g = record { committed = (changes g).elements; boundary = g.boundary; pending = None }

-- the structure pruned to a location; at the boundary and below it nothing happens
abbrev pub pruned_to : StructureState → ℕ → StructureState
pruned_to g location = record { committed = g.committed; boundary = max g.boundary location; pending = g.pending }

-- the changes with one element more
abbrev pub with_element : Changes → List ℕ → Changes
with_element c element = record { elements = c.elements ++ element ∷ []; updated = c.updated; boundary = c.boundary }

-- the changes with another element at a location, where n elements were committed
abbrev pub with_changed_element : (n : ℕ) → Changes → ℕ → List ℕ → Changes
with_changed_element n c location element =
    record { elements = slice_set c.elements location element; updated = cond (nat_lt location n) (location ∷ c.updated) c.updated; boundary = c.boundary }

-- at a position, something if it is that of an updated leaf, and else none
abbrev pub at_updated : (List ℕ → List ℕ) → List ℕ → ℕ → Option ⊤
at_updated rule locations p = cond (list_any (λ k. p == size rule k) locations) (Some tt) None
