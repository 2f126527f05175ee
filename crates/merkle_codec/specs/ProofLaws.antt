-- A proof has one spelling, no spelling begins another, and where bytes are refused they begin with none.
use Rattle.std.proofs.Common.{◌≡◌, ◌≢◌, ℕ, zero, suc, ◌+◌, ◌-◌, ◌*◌, ◌^◌, ◌<◌, ◌≤◌, List, [], ◌∷◌, ◌++◌, length, take, drop, arith, ap, sym, ◌∙◌, refl, subst, inl, inr, append_assoc, length-append}
use Rattle.std.proofs.Math.Seq.{take-append_seam}
use Rattle.std.specs.List.{flat_map}
use Rattle.merkle_base.specs.declared.error.DecodeError.{DecodeError}
use Rattle.merkle_base.specs.declared.error.DecodeError.TheVariants.{Invalid, TooMany, OutOfMemory}
use Rattle.merkle_proof.specs.declared.proof.Proof.{Proof}
use Rattle.merkle_codec.specs.NumberSpelling.{number_spelling, IsRefusalFrom}
use Rattle.merkle_codec.specs.NumberLaws.{number_spelling_once, IsRefusalFrom_after, IsRefusalFrom_once}
use Rattle.merkle_codec.specs.ProofSpelling.{parts_spelling, proof_spelling, SameProof, IsReadable, IsDigestsRefusal, IsProofReadRefusal}
use Rattle.merkle_codec.specs.SpellingLaws.{append_once}

-- what lies past the first list
pub drop_past : (a b : List ℕ) (n : ℕ) → drop (length a + n) (a ++ b) ≡ drop n b
drop_past [] b n = ap (λ j. drop j b) (let e : 0 + n ≡ n = omega arith in e)
drop_past (x ∷ a) b n = ap (λ j. drop j (x ∷ (a ++ b))) (let e : length (x ∷ a) + n ≡ suc (length a + n) = omega arith in e) ∙ drop_past a b n

-- the parts of a proof's spelling, one after another
pub parts : {D : Type 0} (bytes : D → List ℕ) (leaves inactive : ℕ) (ds : List D) (rest : List ℕ)
    → parts_spelling bytes leaves inactive ds ++ rest
    ≡ number_spelling leaves ++ (number_spelling inactive ++ (number_spelling (length ds) ++ (flat_map bytes ds ++ rest)))
parts bytes leaves inactive ds rest = simp append_assoc

module _ {D : Type 0} (bytes : D → List ℕ) (size : ℕ) (sized : (x : D) → length (bytes x) ≡ size) where
  -- as many bytes as the digests have
  pub length-digests : (ds : List D) → length (flat_map bytes ds) ≡ length ds * size
  length-digests [] = omega arith
  length-digests (d ∷ ds) = length-append (bytes d) (flat_map bytes ds) ∙ omega (arith, sized d, length-digests ds)

  -- as many digests are known by their bytes
  pub digests_once : ((x y : D) → bytes x ≡ bytes y → x ≡ y) → (ds es : List D) (r s : List ℕ) → length ds ≡ length es
      → flat_map bytes ds ++ r ≡ flat_map bytes es ++ s → (ds ≡ es) × (r ≡ s)
  digests_once decide [] [] r s n e = (refl, e)
  digests_once decide [] (y ∷ es) r s n e = absurd (omega (arith, n))
  digests_once decide (x ∷ ds) [] r s n e = absurd (omega (arith, n))
  digests_once decide (x ∷ ds) (y ∷ es) r s n e =
      let t = append_once (bytes x) (bytes y) (flat_map bytes ds ++ r) (flat_map bytes es ++ s) (sized x ∙ sym (sized y))
      (sym (append_assoc (bytes x) (flat_map bytes ds) r) ∙ e ∙ append_assoc (bytes y) (flat_map bytes es) s) in
      let u = digests_once decide ds es r s (omega (arith, n)) t.1 in
      (ap (λ (d : D). d ∷ ds) (decide x y t.0) ∙ ap (λ (l : List D). y ∷ l) u.0, u.1)

  -- the bytes at each of the places are a digest's
  digest_at_place : (ds : List D) (rest : List ℕ) (i : ℕ) → i < length ds → (x : D) × (take size (drop (i * size) (flat_map bytes ds ++ rest)) ≡ bytes x)
  digest_at_place [] rest i below = absurd (omega (arith, below))
  digest_at_place (d ∷ ds) rest zero below =
      let none : 0 * size ≡ 0 = omega arith in (
        d,
        ap (λ j. take size (drop j (flat_map bytes (d ∷ ds) ++ rest))) none
            ∙ ap (take size) (append_assoc (bytes d) (flat_map bytes ds) rest)
            ∙ ap (λ n. take n (bytes d ++ (flat_map bytes ds ++ rest))) (sym (sized d))
            ∙ take-append_seam (bytes d) (flat_map bytes ds ++ rest),
      )
  digest_at_place (d ∷ ds) rest (suc i) below =
      let (x, e) = digest_at_place ds rest i (omega (arith, below)) in
      let far : suc i * size ≡ length (bytes d) + i * size = omega (arith, sized d) in
      let skip : drop (suc i * size) (flat_map bytes (d ∷ ds) ++ rest) ≡ drop (i * size) (flat_map bytes ds ++ rest) =
      ap (drop (suc i * size)) (append_assoc (bytes d) (flat_map bytes ds) rest)
      ∙ ap (λ n. drop n (bytes d ++ (flat_map bytes ds ++ rest))) far
      ∙ drop_past (bytes d) (flat_map bytes ds ++ rest) (i * size) in
      (x, ap (take size) skip ∙ e)

  -- bytes that begin with n digests are refused as n with `OutOfMemory` alone
  pub digests_not_refused : (Spells : List ℕ → Type 0) → ((x : D) → Spells (bytes x))
      → (ds : List D) (rest : List ℕ) (e : DecodeError) → IsDigestsRefusal size Spells (length ds) (flat_map bytes ds ++ rest) e → e ≡ OutOfMemory
  digests_not_refused Spells spell ds rest e (inl few) = absurd (omega (arith, few.0, length-append (flat_map bytes ds) rest, length-digests ds))
  digests_not_refused Spells spell ds rest e (inr (inl full)) = full.1
  digests_not_refused Spells spell ds rest e (inr (inr none)) =
      let (i, below, not) = none.1 in
      let (x, at) = digest_at_place ds rest i below in
      absurd (not (subst Spells (sym at) (spell x)))

  -- bytes that begin with a proof within the limits are refused with `OutOfMemory` alone
  pub IsProofReadRefusal_of_spelling : (Spells : List ℕ → Type 0) → ((x : D) → Spells (bytes x)) → (max_leaves limit : ℕ) → max_leaves < 2 ^ 64
      → (b : List ℕ) (e : DecodeError) → IsProofReadRefusal size Spells max_leaves limit b e
      → {F Peaks Heights : Type 0} (p : Proof F D Peaks Heights) (rest : List ℕ)
      → IsReadable max_leaves limit p → b ≡ proof_spelling bytes p ++ rest → e ≡ OutOfMemory
  IsProofReadRefusal_of_spelling Spells spell max_leaves limit fits b e h p rest within k =
      let ds = p.digests.items in
      let bs = flat_map bytes ds ++ rest in
      let left = number_spelling (length ds) ++ bs in
      let whole : b ≡ number_spelling p.leaves ++ (number_spelling p.inactive_peaks ++ left) = k ∙ parts bytes p.leaves p.inactive_peaks ds rest in
      let at_count = IsRefusalFrom limit TooMany (IsDigestsRefusal size Spells) in
      let at_inactive = IsRefusalFrom (2 ^ 64 - 1) Invalid (λ _. at_count) in
      let below : 2 ^ 64 - 1 < 2 ^ 64 = omega arith in
      let fewer : p.inactive_peaks ≤ 2 ^ 64 - 1 = omega (arith, within.inactive) in
      let later = number_spelling p.inactive_peaks ++ left in
      let first = IsRefusalFrom_after max_leaves Invalid (λ _. at_inactive) b e h fits p.leaves later within.leaves whole in
      let second = IsRefusalFrom_after (2 ^ 64 - 1) Invalid (λ _. at_count) later e first below p.inactive_peaks left fewer refl in
      let third = IsRefusalFrom_after limit TooMany (IsDigestsRefusal size Spells) left e second within.limit_fits (length ds) bs within.digests refl in
      digests_not_refused Spells spell ds rest e third

  -- a proof has one spelling, and no spelling begins another
  pub proof_spelling_once : ((x y : D) → bytes x ≡ bytes y → x ≡ y)
      → {F Peaks Heights : Type 0} (p q : Proof F D Peaks Heights) (r s : List ℕ)
      → proof_spelling bytes p ++ r ≡ proof_spelling bytes q ++ s → SameProof p q × (r ≡ s)
  proof_spelling_once decide p q r s e =
      let ds = p.digests.items in
      let es = q.digests.items in
      let whole = sym (parts bytes p.leaves p.inactive_peaks ds r) ∙ e ∙ parts bytes q.leaves q.inactive_peaks es s in
      let first = number_spelling_once p.leaves q.leaves _ _ whole in
      let second = number_spelling_once p.inactive_peaks q.inactive_peaks _ _ first.1 in
      let third = number_spelling_once (length ds) (length es) _ _ second.1 in
      let last = digests_once decide ds es r s third.0 third.1 in
      (record { leaves = first.0; inactive = second.0; digests = last.0 }, last.1)

-- digests are refused with one error, `OutOfMemory` aside
pub IsDigestsRefusal_once : (size : ℕ) (Spells : List ℕ → Type 0) (n : ℕ) (b : List ℕ) (e f : DecodeError) → e ≢ OutOfMemory → f ≢ OutOfMemory
    → IsDigestsRefusal size Spells n b e → IsDigestsRefusal size Spells n b f → e ≡ f
IsDigestsRefusal_once size Spells n b e f x y (inl h) (inl k) = h.1 ∙ sym k.1
IsDigestsRefusal_once size Spells n b e f x y (inl h) (inr (inl k)) = absurd (y k.1)
IsDigestsRefusal_once size Spells n b e f x y (inl h) (inr (inr k)) = absurd (omega (arith, h.0, k.0))
IsDigestsRefusal_once size Spells n b e f x y (inr (inl h)) k = absurd (x h.1)
IsDigestsRefusal_once size Spells n b e f x y (inr (inr h)) (inl k) = absurd (omega (arith, h.0, k.0))
IsDigestsRefusal_once size Spells n b e f x y (inr (inr h)) (inr (inl k)) = absurd (y k.1)
IsDigestsRefusal_once size Spells n b e f x y (inr (inr h)) (inr (inr k)) = h.2 ∙ sym k.2

-- bytes are refused as a proof with one error, `OutOfMemory` aside
pub IsProofReadRefusal_once : (size : ℕ) (Spells : List ℕ → Type 0) (max_leaves limit : ℕ) (b : List ℕ) (e f : DecodeError)
    → IsProofReadRefusal size Spells max_leaves limit b e → IsProofReadRefusal size Spells max_leaves limit b f
    → e ≢ OutOfMemory → f ≢ OutOfMemory → e ≡ f
IsProofReadRefusal_once size Spells max_leaves limit b e f h k x y =
    let at_digests = IsDigestsRefusal size Spells in
    let at_count = IsRefusalFrom limit TooMany at_digests in
    let at_inactive = IsRefusalFrom (2 ^ 64 - 1) Invalid (λ _. at_count) in
    IsRefusalFrom_once max_leaves Invalid (λ _. at_inactive) b e f
    (λ _ b1. IsRefusalFrom_once (2 ^ 64 - 1) Invalid (λ _. at_count) b1 e f
    (λ _ b2. IsRefusalFrom_once limit TooMany at_digests b2 e f (λ n b3. IsDigestsRefusal_once size Spells n b3 e f x y))) h k
