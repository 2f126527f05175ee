-- The root of a list.
use Rattle.std.specs.Prelude.{◌≡◌, ℕ, zero, suc, ◌-◌, ◌≤◌, List, [], ◌∷◌, ◌++◌, Option, Some, None, length, take, drop, fold}
use Rattle.std.specs.Option.{option_map_or}
use Rattle.std.specs.Int.{to_be_bytes, w64}
use Rattle.merkle_base.specs.declared.family.Bagging.{Bagging}
use Rattle.merkle_base.specs.declared.family.Bagging.TheVariants.{ForwardFold, BackwardFold}
use Rattle.merkle_base.specs.Bagging.{bagging_byte}
use Rattle.merkle_base.specs.Hashing.{Hashing}
use Rattle.merkle_base.specs.Digests.{peak_digests}
use Rattle.merkle_base.specs.Scheme.{Scheme}

-- the fold of peaks from right to left, if there are any: the last one takes in the others
abbrev pub right_fold : {D : Type 0} → (D → D → D) → List D → Option D
right_fold f [] = None
right_fold f (peak ∷ more) = option_map_or (λ b. Some (f peak b)) (right_fold f more) (Some peak)

-- the one digest that peaks are folded to, if there are any: all of them left to right, or the first max(inactive, 1) so and the others
-- right to left
abbrev pub folded : {D : Type 0} → (D → D → D) → Bagging → ℕ → List D → Option D
folded f bagging inactive [] = None
folded f ForwardFold inactive (first ∷ others) = Some (fold f first others)
folded f BackwardFold inactive (first ∷ others) =
    let acc = fold f first (take (inactive - 1) others) in Some (option_map_or (f acc) (right_fold f (drop (inactive - 1) others)) acc)

-- the 8 bytes of the inactive count, and none where it is zero
abbrev pub inactive_bytes : ℕ → List ℕ
inactive_bytes zero = []
inactive_bytes (suc k) = to_be_bytes w64 (suc k)

-- what a root hashes: the family's byte, the bagging's, the leaf count, and where there are peaks the inactive count
-- unless it is zero, and the folded digest
abbrev pub root_string : {D : Type 0} → Hashing D → ℕ → Bagging → (leaves inactive : ℕ) → Option D → List ℕ
root_string h domain bagging leaves inactive None = domain ∷ bagging_byte bagging ∷ to_be_bytes w64 leaves
root_string h domain bagging leaves inactive (Some d) =
    domain ∷ bagging_byte bagging ∷ to_be_bytes w64 leaves ++ (inactive_bytes inactive ++ h.bytes d)

-- the root over the digests of peaks, of which the first `to_fold` are folded apart, with an inactive count written
abbrev pub peaks_root : {D : Type 0} → Scheme D → (leaves to_fold inactive : ℕ) → List D → D
peaks_root s leaves to_fold inactive peaks =
    s.hashing.hash (root_string s.hashing s.domain s.bagging leaves inactive (folded s.hashing.fold s.bagging to_fold peaks))

-- there are at least `to_fold` peaks, and no inactive count is written where there are none
abbrev pub HasPeaksRoot : {D : Type 0} → (to_fold inactive : ℕ) → List D → Type 0
HasPeaksRoot to_fold inactive peaks = to_fold ≤ length peaks × (length peaks ≡ 0 → inactive ≡ 0)

-- the root of a list for an inactive count
abbrev pub list_root : {D : Type 0} → Scheme D → List D → ℕ → D
list_root s X k = peaks_root s (length X) k k (peak_digests s.hashing s.rule X)
