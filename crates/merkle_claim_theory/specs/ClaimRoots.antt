-- What a root that a check of single leaves or a check with pins accepts is a hash of, and what it is if it is also one of another setting.
use Rattle.std.specs.Prelude.{◌≡◌, ℕ, List}
use Rattle.merkle_root_theory.specs.Check.{RangeInput}
use Rattle.merkle_base.specs.Root.{list_root}
use Rattle.merkle_base.specs.Scheme.{Scheme}
use Rattle.merkle_root_theory.specs.Range.{list_inputs}
use Rattle.merkle_root_theory.specs.RootNames.{NamesRoot, AreApart, RootsCollide}
use Rattle.merkle_claim_theory.specs.Multiproof.{MultiInput, AcceptsMulti, AcceptsMultiCases}
use Rattle.merkle_claim_theory.specs.Pinned.{AcceptsPinned, AcceptsPinnedCases}
use Rattle.merkle_claim_theory.specs.Verdict.{multi_inputs, pinned_inputs}

-- what a check of single leaves accepts is the hash of a string with its family, bagging and leaf count
abbrev pub MultiNamesRoot : Type 0 → Type 0
MultiNamesRoot D = (s : Scheme D) (r : MultiInput D) (root : D) → AcceptsMultiCases s r root → NamesRoot s r.leaves root

-- what a check with pins accepts is the hash of a string with its family, bagging and leaf count
abbrev pub PinnedNamesRoot : Type 0 → Type 0
PinnedNamesRoot D = (s : Scheme D) (r : RangeInput D) (pins : List D) (root : D) → AcceptsPinnedCases s r pins root → NamesRoot s r.leaves root

-- a root accepted with single leaves that is also the root of a list under a setting that is apart: the two collide
abbrev pub MultiOtherListCollides : Type 0 → Type 0
MultiOtherListCollides D = (s t : Scheme D) → AreApart s t → (r : MultiInput D) (root : D) → AcceptsMulti s r root
    → (xs : List D) (k : ℕ) → list_root t xs k ≡ root → RootsCollide s.hashing (multi_inputs s r) (list_inputs t xs k)

-- two inputs of single leaves that are accepted against one root, under two settings that are apart, collide
abbrev pub MultiOtherYesCollides : Type 0 → Type 0
MultiOtherYesCollides D = (s t : Scheme D) → AreApart s t → (r q : MultiInput D) (root : D) → AcceptsMulti s r root → AcceptsMulti t q root
    → RootsCollide s.hashing (multi_inputs s r) (multi_inputs t q)

-- a root accepted with pins that is also the root of a list under a setting that is apart: the two collide
abbrev pub PinnedOtherListCollides : Type 0 → Type 0
PinnedOtherListCollides D = (s t : Scheme D) → AreApart s t → (r : RangeInput D) (pins : List D) (root : D) → AcceptsPinned s r pins root
    → (xs : List D) (k : ℕ) → list_root t xs k ≡ root → RootsCollide s.hashing (pinned_inputs s r pins) (list_inputs t xs k)

-- two inputs with pins that are accepted against one root, under two settings that are apart, collide
abbrev pub PinnedOtherYesCollides : Type 0 → Type 0
PinnedOtherYesCollides D = (s t : Scheme D) → AreApart s t → (r q : RangeInput D) (pins qins : List D) (root : D)
    → AcceptsPinned s r pins root → AcceptsPinned t q qins root → RootsCollide s.hashing (pinned_inputs s r pins) (pinned_inputs t q qins)
