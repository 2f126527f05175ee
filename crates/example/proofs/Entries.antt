-- A log's entries and their leaf digests.
use Rattle.std.proofs.Common.{◌≡◌, ℕ, zero, suc, ◌+◌, ◌<◌, ◌≤◌, ◌⊎◌, List, [], ◌∷◌, length, take, drop, Some, slice_get, arith, refl, sym, ap, subst, ◌∙◌, inl, inr}
use Rattle.std.proofs.lemmas.Option.{same_Some, slice_get_within}
use Rattle.std.proofs.lemmas.Slice.Eq.{bytes_eq-Decides}
use Rattle.std.specs.Str.{bytes_eq}
use Rattle.merkle_core.proofs.Cases.{by_test}
use Rattle.merkle_core.specs.Forest.{size}
use Rattle.merkle_core.specs.Hashing.{Hashing}
use Rattle.merkle_core.specs.Places.{peaks_of}
use Rattle.merkle_core.specs.Scheme.{Scheme}
use Rattle.merkle_core.specs.LeafDigests.{leaf_digests, range_input}
use Rattle.merkle_core.proofs.LeafDigests.{length-leaf_digests}
use Rattle.merkle_core.specs.Range.{ForRootOf, IsHonestRange, RangeCollides}
use Rattle.merkle_core.proofs.HonestInputs.{range_of_some, some_of_range}
use Rattle.example.specs.Log.{leaves_of, ForLogOf, HasEntry, HasTwin, EntryCollides, IsHonestFor}

-- a leaf digest is that of the entry at its location
entry_of_digest : {D : Type 0} (h : Hashing D) (rule : List ℕ → List ℕ) (a : ℕ) (es : List (List ℕ)) (i : ℕ) (d : D) → slice_get (leaf_digests h rule a es) i ≡ Some d
    → (e : List ℕ) × (slice_get es i ≡ Some e) × (h.leaf (size rule (a + i)) e ≡ d)
entry_of_digest h rule a [] i d there = cc
entry_of_digest h rule a (e ∷ es) zero d there = (e, refl, ap (λ n. h.leaf (size rule n) e) (omega arith) ∙ same_Some _ d there)
entry_of_digest h rule a (e ∷ es) (suc i) d there =
    let further = entry_of_digest h rule (suc a) es i d there in
    (further.0, further.1, ap (λ n. h.leaf (size rule n) further.0) (omega arith) ∙ further.2)

-- and an entry has its leaf digest there
pub digest_of_entry : {D : Type 0} (h : Hashing D) (rule : List ℕ → List ℕ) (a : ℕ) (es : List (List ℕ)) (i : ℕ) (e : List ℕ) → slice_get es i ≡ Some e
    → slice_get (leaf_digests h rule a es) i ≡ Some (h.leaf (size rule (a + i)) e)
digest_of_entry h rule a [] i e there = cc
digest_of_entry h rule a (x ∷ es) zero e there = ap Some (ap (h.leaf (size rule a)) (same_Some x e there) ∙ ap (λ n. h.leaf (size rule n) e) (omega arith))
digest_of_entry h rule a (x ∷ es) (suc i) e there = digest_of_entry h rule (suc a) es i e there ∙ ap (λ n. Some (h.leaf (size rule n) e)) (omega arith)

-- the one element of a range is the list's at its start
one_there : {X : Type 0} (xs : List X) (i : ℕ) (x : X) → x ∷ [] ≡ take 1 (drop i xs) → slice_get xs i ≡ Some x
one_there [] zero x one = cc
one_there [] (suc i) x one = cc
one_there (y ∷ ys) zero x one = cc
one_there (y ∷ ys) (suc i) x one = one_there ys i x one

-- and the other way round
there_one : {X : Type 0} (xs : List X) (i : ℕ) (x : X) → slice_get xs i ≡ Some x → x ∷ [] ≡ take 1 (drop i xs)
there_one [] i x there = cc
there_one (y ∷ ys) zero x there = cc
there_one (y ∷ ys) (suc i) x there = there_one ys i x there

-- where the list has the leaf digest of an entry, the log has that entry or a twin of it
pub entry_or_twin : {D : Type 0} (s : Scheme D) (entries : List (List ℕ)) (i : ℕ) (entry : List ℕ) → slice_get (leaves_of s entries) i ≡ Some (s.hashing.leaf (size s.rule i) entry)
    → HasEntry entries i entry ⊎ HasTwin s entries i entry
entry_or_twin s entries i entry there =
    let found = entry_of_digest s.hashing s.rule 0 entries i (s.hashing.leaf (size s.rule i) entry) there in
    let same = bytes_eq-Decides found.0 entry in
    let placed : s.hashing.leaf (size s.rule i) found.0 ≡ s.hashing.leaf (size s.rule i) entry = ap (λ n. s.hashing.leaf (size s.rule n) found.0) (omega arith) ∙ found.2 in
    by_test (λ _. HasEntry entries i entry ⊎ HasTwin s entries i entry) (bytes_eq found.0 entry)
    (λ yes. inl (found.1 ∙ ap Some (same.0 yes)))
    (λ no. inr (record { other = found.0; has_other = found.1; differ = λ e. absurd (cc (same.1 e)); one_digest = placed }))

-- an honest range of one entry is the log's, or the log has a twin of it
is_entry : {D : Type 0} (s : Scheme D) (entries : List (List ℕ)) (k leaves inactive : ℕ) (digests : List D) (i : ℕ) (entry : List ℕ)
    → IsHonestRange s (leaves_of s entries) k (range_input s leaves inactive digests i (entry ∷ [])) → HasEntry entries i entry ⊎ HasTwin s entries i entry
is_entry s entries k leaves inactive digests i entry honest =
    let some = some_of_range s (leaves_of s entries) k (range_input s leaves inactive digests i (entry ∷ [])) (omega arith) honest in
    entry_or_twin s entries i entry (one_there (leaves_of s entries) i (s.hashing.leaf (size s.rule i) entry) some.elements)

-- what is known of each list with a root, of each log with that root
pub of_logs : {D : Type 0} (s : Scheme D) (root : D) (P : List D → ℕ → Type 0) → ForRootOf s root P → ForLogOf s root (λ entries k. P (leaves_of s entries) k)
of_logs s root P known = λ entries k log.
    let counted = length-leaf_digests s.hashing s.rule 0 entries in
    known (leaves_of s entries) k (omega (arith, counted, log.bounded)) (subst (λ n. k ≤ length (peaks_of s.rule n)) (sym counted) log.peaks) log.root_is

-- an accepted entry is the log's, or something collides
pub accepted : {D : Type 0} (s : Scheme D) (root : D) (leaves inactive : ℕ) (digests : List D) (i : ℕ) (entry : List ℕ)
    → ForRootOf s root (λ xs k. let r = range_input s leaves inactive digests i (entry ∷ []) in IsHonestRange s xs k r ⊎ RangeCollides s r xs k)
    → ForLogOf s root (λ entries k. HasEntry entries i entry ⊎ EntryCollides s (range_input s leaves inactive digests i (entry ∷ [])) entry entries k)
accepted s root leaves inactive digests i entry known = λ entries k log.
    elim (of_logs s root _ known entries k log) [
      | inl honest ↦ elim (is_entry s entries k leaves inactive digests i entry honest) [ inl there ↦ inl there | inr twin ↦ inr (inl twin) ]
      | inr collides ↦ inr (inr collides)
    ]

-- an honest proof of a log's entry is an honest range
is_honest : {D : Type 0} (s : Scheme D) (entries : List (List ℕ)) (k leaves inactive : ℕ) (digests : List D) (i : ℕ) (entry : List ℕ) → HasEntry entries i entry
    → IsHonestFor s (range_input s leaves inactive digests i (entry ∷ [])) entries k → IsHonestRange s (leaves_of s entries) k (range_input s leaves inactive digests i (entry ∷ []))
is_honest s entries k leaves inactive digests i entry there honest =
    let counted = length-leaf_digests s.hashing s.rule 0 entries in
    let within : i < length entries = slice_get_within entries i entry there in
    let placed : slice_get (leaves_of s entries) i ≡ Some (s.hashing.leaf (size s.rule i) entry) =
    digest_of_entry s.hashing s.rule 0 entries i entry there ∙ ap (λ n. Some (s.hashing.leaf (size s.rule n) entry)) (omega arith) in
    range_of_some s (leaves_of s entries) k (range_input s leaves inactive digests i (entry ∷ [])) (record {
      nonempty = omega arith;
      within = omega (arith, counted, within);
      leaves = honest.leaves ∙ sym counted;
      inactive = honest.inactive_peaks;
      digests = honest.digests;
      elements = there_one (leaves_of s entries) i (s.hashing.leaf (size s.rule i) entry) placed;
    })

-- an honest proof is accepted
pub honest_accepted : {D : Type 0} (s : Scheme D) (root : D) (leaves inactive : ℕ) (digests : List D) (i : ℕ) (entry : List ℕ) (P : Type 0)
    → ForRootOf s root (λ xs k. IsHonestRange s xs k (range_input s leaves inactive digests i (entry ∷ [])) → P)
    → ForLogOf s root (λ entries k. HasEntry entries i entry → IsHonestFor s (range_input s leaves inactive digests i (entry ∷ [])) entries k → P)
honest_accepted s root leaves inactive digests i entry P known = λ entries k log there honest.
    of_logs s root _ known entries k log (is_honest s entries k leaves inactive digests i entry there honest)
