-- How many bytes a proof has, and where its digests stand.
use Rattle.std.proofs.Common.{◌≡◌, ℕ, zero, suc, ◌+◌, ◌*◌, ◌/◌, ◌<◌, ◌≤◌, List, [], ◌∷◌, ◌++◌, length, take, drop, arith, ap, sym, ◌∙◌, inl, inr, subst, append_assoc, length-append}
use Rattle.std.specs.List.{flat_map}
use Rattle.std.proofs.Math.Nat.{mul-le-mul_right}
use Rattle.std.proofs.lemmas.Bool.Decides.{leb_tells}
use Rattle.std.proofs.lemmas.List.{flat_map_more}
use Rattle.merkle_base.specs.declared.error.DecodeError.{DecodeError}
use Rattle.merkle_codec.specs.NumberSpelling.{number_groups, number_spelling}
use Rattle.merkle_codec.specs.NumberLaws.{number_groups-last, number_groups-more}
use Rattle.merkle_codec.specs.ProofSpelling.{parts_spelling, IsDigestsRefusal}
use Rattle.merkle_codec.specs.ProofLaws.{length-digests, drop_past}
use Rattle.merkle_codec.specs.Spelling.{IsDigestRefusal}

-- how many groups there are: one at least, and more follow the first as allowed
some_groups : (more n : ℕ) → 1 ≤ length (number_groups more n)
some_groups zero n = omega arith
some_groups (suc more) n = elim (leb_tells 128 n) [ inl h ↦ omega (arith, ap length (number_groups-more more n h.1)) | inr h ↦ omega (arith, ap length (number_groups-last (suc more) n h.1)) ]

few_groups : (more n : ℕ) → length (number_groups more n) ≤ suc more
few_groups zero n = omega arith
few_groups (suc more) n = elim (leb_tells 128 n) [
  | inl h ↦ omega (arith, ap length (number_groups-more more n h.1), few_groups more (n / 128))
  | inr h ↦
      omega (arith, ap length (number_groups-last (suc more) n h.1))
]

-- a greater number has no fewer groups
groups_ascend : (more m n : ℕ) → m ≤ n → length (number_groups more m) ≤ length (number_groups more n)
groups_ascend zero m n le = omega arith
groups_ascend (suc more) m n le = elim (leb_tells 128 m) [
  | inl h ↦ (let over : 128 ≤ n = omega (arith, le, h.1) in
      let less : m / 128 ≤ n / 128 = omega (arith, le) in
      omega (arith, ap length (number_groups-more more m h.1), ap length (number_groups-more more n over), groups_ascend more (m / 128) (n / 128) less))
  | inr h ↦ omega (arith, ap length (number_groups-last (suc more) m h.1), some_groups (suc more) n)
]

few_bytes : (n : ℕ) → length (number_spelling n) ≤ 10
unfolding number_spelling
few_bytes n = few_groups 9 n

bytes_ascend : (m n : ℕ) → m ≤ n → length (number_spelling m) ≤ length (number_spelling n)
unfolding number_spelling
bytes_ascend m n le = groups_ascend 9 m n le

module _ {D : Type 0} (bytes : D → List ℕ) (size : ℕ) (sized : (x : D) → length (bytes x) ≡ size) where
  -- how many bytes a proof has
  pub length-parts : (leaves inactive : ℕ) (ds : List D)
      → length (parts_spelling bytes leaves inactive ds)
      ≡ length (number_spelling leaves) + length (number_spelling inactive) + length (number_spelling (length ds)) + length ds * size
  length-parts leaves inactive ds =
      let l = number_spelling leaves in
      let i = number_spelling inactive in
      let n = number_spelling (length ds) in
      let b = flat_map bytes ds in
      let first : length (parts_spelling bytes leaves inactive ds) ≡ length (l ++ i ++ n) + length b = length-append (l ++ i ++ n) b in
      let second : length (l ++ i ++ n) ≡ length (l ++ i) + length n = length-append (l ++ i) n in
      let third : length (l ++ i) ≡ length l + length i = length-append l i in
      omega (arith, first, second, third, length-digests bytes size sized ds)

  -- the sum of the numbers' bytes and the digests'
  pub parts_sum : (leaves inactive : ℕ) (ds : List D) (numbers count each : ℕ) → numbers ≡ length (number_spelling leaves) + length (number_spelling inactive) + length (number_spelling (length ds))
      → count ≡ length ds → each ≡ size → numbers + count * each ≡ length (parts_spelling bytes leaves inactive ds)
  parts_sum leaves inactive ds numbers count each e f g =
      let product : count * each ≡ length ds * size = ap (λ n. n * each) f ∙ ap (λ s. length ds * s) g in
      omega (arith, length-parts leaves inactive ds, e, product)

  -- a proof of as many digests or fewer has no more bytes
  pub most_bytes : (leaves inactive n : ℕ) (ds : List D) → length ds ≤ n → length (parts_spelling bytes leaves inactive ds) ≤ 20 + length (number_spelling n) + n * size
  most_bytes leaves inactive n ds le =
      omega (arith, length-parts leaves inactive ds, few_bytes leaves, few_bytes inactive, bytes_ascend (length ds) n le, mul-le-mul_right {m = length ds} {n = n} size le)

  -- one digest more is read
  pub one_read : (ds : List D) (d : D) (b rest after : List ℕ) → b ≡ flat_map bytes ds ++ rest → rest ≡ bytes d ++ after → b ≡ flat_map bytes (ds ++ d ∷ []) ++ after
  one_read ds d b rest after e f =
      e ∙ ap (λ r. flat_map bytes ds ++ r) f ∙ sym (append_assoc (flat_map bytes ds) (bytes d) after) ∙ ap (λ l. l ++ after) (flat_map_more bytes [] ds d)

  -- where the digest after some is refused, so are all
  pub one_refused : (Spells : List ℕ → Type 0) (ds : List D) (n : ℕ) (b rest : List ℕ) (e : DecodeError) → length ds < n → n * size ≤ length b → b ≡ flat_map bytes ds ++ rest
      → IsDigestRefusal size Spells rest e → IsDigestsRefusal size Spells n b e
  one_refused Spells ds n b rest e below full whole (inl few) =
      absurd (omega (arith, few.0, full, ap length whole, length-append (flat_map bytes ds) rest, length-digests bytes size sized ds, mul-le-mul_right {m = suc (length ds)} {n = n} size below))
  one_refused Spells ds n b rest e below full whole (inr none) =
      let far : length ds * size ≡ length (flat_map bytes ds) + 0 = omega (arith, length-digests bytes size sized ds) in
      let there : drop (length ds * size) b ≡ rest = ap (drop (length ds * size)) whole ∙ ap (λ j. drop j (flat_map bytes ds ++ rest)) far ∙ drop_past (flat_map bytes ds) rest 0 in
      inr (inr (full, (length ds, below, subst (λ l. ¬ Spells (take size l)) (sym there) none.1), none.2))
