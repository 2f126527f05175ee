-- A log that begins with the entries of an older one.
use Rattle.std.proofs.Common.{◌≡◌, ℕ, zero, suc, ◌+◌, ◌-◌, ◌≤◌, ◌⊎◌, List, [], ◌∷◌, length, take, drop, Some, slice_get, arith, refl, sym, ap, subst, ◌∙◌, inl, inr}
use Rattle.std.proofs.lemmas.List.{length-map, length-take-le}
use Rattle.merkle_core.specs.Forest.{size}
use Rattle.merkle_core.specs.Hashing.{Hashing}
use Rattle.merkle_core.specs.Places.{peaks_of}
use Rattle.merkle_core.specs.Root.{list_root}
use Rattle.merkle_core.specs.Scheme.{Scheme}
use Rattle.merkle_core.specs.Pinned.{honest_pins, IsHonestPinned, PinnedCollides}
use Rattle.merkle_core.proofs.RebuiltPins.{pins_give_old_root}
use Rattle.merkle_core.specs.Rebuilt.{GivesOldRoot}
use Rattle.merkle_core.specs.LeafDigests.{leaf_digests, range_input}
use Rattle.merkle_core.proofs.LeafDigests.{length-leaf_digests}
use Rattle.merkle_core.specs.Check.{RangeInput}
use Rattle.merkle_core.specs.Range.{ForRootOf}
use Rattle.merkle_core.specs.CheckAnswers.{GivesRoot}
use Rattle.example.specs.Log.{leaves_of, IsLogOf, ForLogOf, Extends}
use Rattle.example.proofs.Entries.{digest_of_entry, entry_or_twin, of_logs}

-- the leaf digests of a log's first entries
take-leaf_digests : {D : Type 0} (h : Hashing D) (rule : List ℕ → List ℕ) (a : ℕ) (es : List (List ℕ)) (n : ℕ) → take n (leaf_digests h rule a es) ≡ leaf_digests h rule a (take n es)
take-leaf_digests h rule a es zero = refl
take-leaf_digests h rule a [] (suc n) = refl
take-leaf_digests h rule a (e ∷ es) (suc n) = ap (λ ds. h.leaf (size rule a) e ∷ ds) (take-leaf_digests h rule (suc a) es n)

-- an element of a list's front is the list's
got_taken : {X : Type 0} (m : ℕ) (xs : List X) (j : ℕ) (x : X) → slice_get (take m xs) j ≡ Some x → slice_get xs j ≡ Some x
got_taken zero xs j x there = cc
got_taken (suc m) [] j x there = cc
got_taken (suc m) (y ∷ ys) zero x there = there
got_taken (suc m) (y ∷ ys) (suc j) x there = got_taken m ys j x there

-- and one of its end is the list's, so much further on
got_dropped : {X : Type 0} (n : ℕ) (xs : List X) (j : ℕ) → slice_get (drop n xs) j ≡ slice_get xs (n + j)
got_dropped zero xs j = ap (slice_get xs) (omega arith)
got_dropped (suc n) [] j = refl
got_dropped (suc n) (y ∷ ys) j =
    let further : suc (n + j) ≡ suc n + j = omega arith in
    got_dropped n ys j ∙ ap (slice_get (y ∷ ys)) further

-- an element of a range is the list's
range_there : {X : Type 0} (xs ys : List X) (n : ℕ) → ys ≡ take (length ys) (drop n xs) → (j : ℕ) (x : X) → slice_get ys j ≡ Some x → slice_get xs (n + j) ≡ Some x
range_there xs ys n range j x there =
    sym (got_dropped n xs j) ∙ got_taken (length ys) (drop n xs) j x (ap (λ zs. slice_get zs j) (sym range) ∙ there)

-- a log whose first entries have the old root, if there are so many and their peaks are not fewer than the inactive ones
before : {D : Type 0} (s : Scheme D) (old : D) (n j : ℕ) (pins : List D) (entries : List (List ℕ)) → length entries ≤ s.max_leaves → n ≤ length entries → j ≤ length (peaks_of s.rule n)
    → GivesRoot s old n j pins → GivesOldRoot s (leaves_of s entries) n pins → IsLogOf s old (take n entries) j
before s old n j pins entries bounded long peaks given gives =
    let taken = length-take-le n entries long in
    record {
      bounded = omega (arith, taken, bounded, long);
      peaks = subst (λ m. j ≤ length (peaks_of s.rule m)) (sym taken) peaks;
      root_is = ap (λ xs. list_root s xs j) (sym (take-leaf_digests s.hashing s.rule 0 entries n)) ∙ (sym (gives j) ∙ given.root_is);
    }

-- as many honest pins as peaks
pins_count : {D : Type 0} (s : Scheme D) (xs pins : List D) (n : ℕ) → n ≤ length xs → pins ≡ honest_pins s xs n → length pins ≡ length (peaks_of s.rule n)
pins_count s xs pins n there honest =
    ap length honest ∙ length-map (peaks_of s.rule (length (take n xs))) _ ∙ ap (λ m. length (peaks_of s.rule m)) (length-take-le n xs there)

-- honest pins and elements extend the old log
extends : {D : Type 0} (s : Scheme D) (old : D) (n j : ℕ) (pins : List D) (added entries : List (List ℕ)) (k leaves inactive : ℕ) (digests : List D) → length entries ≤ s.max_leaves
    → GivesRoot s old n j pins → GivesOldRoot s (leaves_of s entries) n pins → IsHonestPinned s (leaves_of s entries) k (range_input s leaves inactive digests n added) pins
    → Extends s old n j added entries
extends {D} s old n j pins added entries k leaves inactive digests bounded given gives honest =
    let counted = length-leaf_digests s.hashing s.rule 0 entries in
    let within = honest.0.0 in
    let there : n ≤ length (leaves_of s entries) = omega (arith, within) in
    let pinned : length pins ≡ length (peaks_of s.rule n) = pins_count s (leaves_of s entries) pins n there honest.1 in
    let new = leaf_digests s.hashing s.rule n added in
    let count : (n + length new) - n ≡ length new = omega arith in
    let elements : new ≡ take (length new) (drop n (leaves_of s entries)) = ap (λ (r : RangeInput D). r.elements) honest.0.2 ∙ ap (λ m. take m (drop n (leaves_of s entries))) count in
    record {
      long = omega (arith, counted, within);
      before = before s old n j pins entries bounded (omega (arith, counted, within)) (omega (arith, pinned, given.enough)) given gives;
      after = λ i entry there. entry_or_twin s entries (n + i) entry
          (range_there (leaves_of s entries) new n elements i _ (digest_of_entry s.hashing s.rule n added i entry there));
    }

-- an accepted update extends the old log, or something collides
pub followed : {D : Type 0} (s : Scheme D) (root old : D) (n j : ℕ) (pins : List D) (added : List (List ℕ)) (leaves inactive : ℕ) (digests : List D) → GivesRoot s old n j pins
    → ForRootOf s root (λ xs k. let r = range_input s leaves inactive digests n added in IsHonestPinned s xs k r pins ⊎ PinnedCollides s r pins xs k)
    → ForRootOf s root (λ xs k. let r = range_input s leaves inactive digests n added in GivesOldRoot s xs n pins ⊎ PinnedCollides s r pins xs k)
    → ForLogOf s root (λ entries k. Extends s old n j added entries ⊎ PinnedCollides s (range_input s leaves inactive digests n added) pins (leaves_of s entries) k)
followed s root old n j pins added leaves inactive digests given sound old_root = λ entries k log.
    elim (of_logs s root _ sound entries k log) [
      | inl honest ↦ elim (of_logs s root _ old_root entries k log) [
        | inl gives ↦ inl (extends s old n j pins added entries k leaves inactive digests log.bounded given gives honest)
        | inr collides ↦ inr collides
      ]
      | inr collides ↦ inr collides
    ]

-- as many pins as peaks
length-pins : {D : Type 0} (s : Scheme D) (xs : List D) (k : ℕ) (pins : List D) (added : List (List ℕ)) (n leaves inactive : ℕ) (digests : List D)
    → IsHonestPinned s xs k (range_input s leaves inactive digests n added) pins → (length pins ≡ length (peaks_of s.rule n)) × (n ≤ length xs)
length-pins s xs k pins added n leaves inactive digests honest =
    let within = honest.0.0 in
    let there : n ≤ length xs = omega (arith, within) in
    (pins_count s xs pins n there honest.1, there)

-- honest pins give the root of the log's first entries
pub pins_give : {D : Type 0} (s : Scheme D) (old : D) (n j : ℕ) (pins : List D) (added entries : List (List ℕ)) (k leaves inactive : ℕ) (digests : List D)
    → IsLogOf s old (take n entries) j → IsHonestPinned s (leaves_of s entries) k (range_input s leaves inactive digests n added) pins → GivesRoot s old n j pins
pins_give s old n j pins added entries k leaves inactive digests log honest =
    let counted = length-leaf_digests s.hashing s.rule 0 entries in
    let pinned = length-pins s (leaves_of s entries) k pins added n leaves inactive digests honest in
    let taken : length (take n entries) ≡ n = length-take-le n entries (omega (arith, counted, pinned.1)) in
    let peaks : j ≤ length (peaks_of s.rule n) = subst (λ m. j ≤ length (peaks_of s.rule m)) taken log.peaks in
    let gives = pins_give_old_root s (leaves_of s entries) k (range_input s leaves inactive digests n added) pins honest in
    record {
      enough = omega (arith, peaks, pinned.0);
      root_is = gives j ∙ (ap (λ xs. list_root s xs j) (take-leaf_digests s.hashing s.rule 0 entries n) ∙ log.root_is);
    }
