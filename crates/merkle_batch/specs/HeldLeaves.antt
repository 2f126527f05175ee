-- The digests of leaves, from what holds nodes.
use Rattle.std.specs.Prelude.{◌≡◌, ℕ, ◌-◌, ◌<◌, ◌≤◌, List, flat_map, length, drop, Option, is_some, true}
use Rattle.std.specs.List.{range_with_len}
use Rattle.std.specs.Option.{option_to_list}
use Rattle.merkle_base.specs.Forest.{size}
use Rattle.merkle_base.specs.Hashing.{Hashing}
use Rattle.merkle_base.specs.Shows.{Shows}

-- the digests that stand at the leaves from location a on up to b, oldest first
abbrev pub held_leaves : {D : Type 0} → (List ℕ → List ℕ) → (ℕ → Option D) → (a b : ℕ) → List D
held_leaves rule node a b = flat_map (λ i. option_to_list (node (size rule i))) (range_with_len a (b - a))

-- the leaves from location a on up to b are among those that a list may have, and a digest stands at each of them
pub record AreLeavesHeld {D : Type 0} (rule : List ℕ → List ℕ) (max_leaves : ℕ) (node : ℕ → Option D) (a b : ℕ) : Type 0 where
  pub bounded : b ≤ max_leaves
  pub ordered : a ≤ b
  pub held : (i : ℕ) → a ≤ i → i < b → is_some (node (size rule i)) ≡ true

-- the digests are the entries from location a on of each list of b leaves that a reader with m nodes shows
abbrev pub AreEntriesShown : {D : Type 0} → (rule : List ℕ → List ℕ) → (m : ℕ) → (ℕ → Option D) → (a b : ℕ) → List D → Type 0
AreEntriesShown {D} rule m node a b ds = (h : Hashing D) (X : List D) → Shows h rule m node X → b ≡ length X → ds ≡ drop a X
