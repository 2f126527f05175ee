-- What is said of a proof that is audited.
use Rattle.std.proofs.Common.{◌≡◌, ◌≢◌, ℕ, ◌^◌, ◌<◌, ◌≤◌, ◌⊎◌, List, [], ◌∷◌, ◌++◌, length, Bool, true, false, Some, Ok, Err, Result, Decides, rules, refl, sym, ap, subst, ◌∙◌, inl, inr}
use Rattle.std.specs.Prelude.{nat_lt, codes, ◌==◌}
use Rattle.std.proofs.lemmas.Bool.{false≢true, le-ltb, cases_lt, lt-ltb}
use Rattle.merkle_walks.specs.Places.{collision_of}
use Rattle.merkle_audit_parts.specs.Found.{list_refusals, IsVerdict}
use Rattle.merkle_walks.specs.declared.place.Argument.{Argument}
use Rattle.merkle_walks.specs.declared.place.Place.{Place}
use Rattle.merkle_audit_parts.specs.declared.verdict.Verdict.{Verdict}
use Rattle.merkle_audit_parts.specs.declared.verdict.Verdict.TheVariants as verdict
use Rattle.merkle_base.specs.Cases.{first_case}
use Rattle.merkle_base.specs.Hashing.{EqDecides}
use Rattle.merkle_base.specs.Places.{peaks_of}
use Rattle.merkle_base.specs.Root.{list_root}
use Rattle.merkle_base.specs.Scheme.{Scheme}
use Rattle.merkle_base.specs.declared.error.DecodeError.{DecodeError}
use Rattle.merkle_base.specs.declared.error.DecodeError.TheVariants.{EndOfBuffer, InvalidVarint, Invalid, TooMany, OutOfMemory}
use Rattle.merkle_base.specs.declared.error.Error.{Error}
use Rattle.merkle_base.specs.declared.error.Error.TheVariants as error
use Rattle.merkle_codec.specs.ProofSpelling.{parts_spelling, IsProofReadRefusal}
use Rattle.merkle_core.specs.LeafDigests.{range_input}
use Rattle.merkle_hasher.proofs.LeafDigests.{length-leaf_digests}
use Rattle.merkle_root_theory.specs.Check.{RangeInput, range_inputs}
use Rattle.merkle_root_theory.specs.Range.{IsHonestRange, list_inputs}
use Rattle.merkle_root_theory.specs.Reconstruction.{reconstructed}
use Rattle.merkle_lines.specs.Answers.{committed_list, collision_line, error_line, most_digests, IsAudited, IsAuditedInput, SaysOfInput}
use Rattle.merkle_lines.specs.ErrorNames.{decode_error_name, error_name}
use Rattle.merkle_lines.specs.StructureState.{StructureState, count}

-- a verdict says what an input is
module _ {F D : Type 0} (s : Scheme D) (X : List D) (k : ℕ) (r : RangeInput D) (text : List ℕ) (v : Verdict F D)
    (told : IsVerdict (reconstructed s r ≡ Ok (list_root s X k)) (IsHonestRange s X k r) s.hashing (range_inputs s r) (list_inputs s X k) v) where
  pub says_rejected : v ≡ verdict.Rejected → text ≡ codes "rejected" → SaysOfInput s X k r text
  says_rejected is t = inl (told.rejected.0 is, t)

  pub says_honest : v ≡ verdict.Honest → text ≡ codes "honest" → SaysOfInput s X k r text
  says_honest is t = inr (inl (told.honest.0 is, t))

-- what is not refused is accepted, since a test tells whether two digests are one
pub not_refused : {A E : Type 0} (same : A → A → Bool) → ((x y : A) → Decides (same x y) (x ≡ y)) → (r : Result A E) (a : A) → ((r ≡ Ok a → ⊥) → ⊥) → r ≡ Ok a
not_refused same decides (Err e) a n = absurd (n (λ q. cc))
not_refused {A} {E} same decides (Ok b) a n = by_bool (same b a) refl
  where
    one : ◌≡◌ {A = Result A E} (Ok b) (Ok a) → b ≡ a
    one q = cc

    by_bool : (t : Bool) → same b a ≡ t → ◌≡◌ {A = Result A E} (Ok b) (Ok a)
    by_bool true e = ap Ok ((decides b a).0 e)
    by_bool false e = absurd (n (λ q. false≢true (sym e ∙ (decides b a).1 (one q))))

collision≢rejected : {F D : Type 0} (p : Place F) (a b : Argument D) → verdict.Collision p a b ≡ verdict.Rejected → ⊥
collision≢rejected p a b e = cc

collision≢honest : {F D : Type 0} (p : Place F) (a b : Argument D) → verdict.Collision p a b ≡ verdict.Honest → ⊥
collision≢honest p a b e = cc

pub says_collision : {F D : Type 0} (s : Scheme D) → EqDecides s.hashing → (X : List D) (k : ℕ) (r : RangeInput D) (text : List ℕ) (p : Place F) (a b : Argument D)
    → IsVerdict (reconstructed s r ≡ Ok (list_root s X k)) (IsHonestRange s X k r) s.hashing (range_inputs s r) (list_inputs s X k) (verdict.Collision p a b)
    → text ≡ collision_line s.hashing.bytes (collision_of p a b) → SaysOfInput s X k r text
says_collision s decides X k r text p a b told t =
    inr (inr (
      not_refused s.hashing.same decides (reconstructed s r) (list_root s X k) (λ no. collision≢rejected p a b (told.rejected.1 no)),
      (λ honest. collision≢honest p a b (told.honest.1 honest)),
      collision_of p a b,
      told.collision,
      t,
    ))

-- why a list is refused that has few leaves
pub too_many_peaks : {F : Type 0} (rule : List ℕ → List ℕ) (most n k : ℕ) (e : Error F) → n ≤ most → first_case (list_refusals rule most n k) ≡ Some e
    → (length (peaks_of rule n) < k) × (e ≡ error.InvalidInactivePeaks k (length (peaks_of rule n)))
too_many_peaks {F} rule most n k e few is = elim (cases_lt (length (peaks_of rule n)) k) [
  | inl over ↦ (over, sym (same (nat_lt most n) (nat_lt (length (peaks_of rule n)) k) (le-ltb most n few) (lt-ltb (length (peaks_of rule n)) k over) is))
  | inr within ↦ absurd (never (nat_lt most n) (nat_lt (length (peaks_of rule n)) k) (le-ltb most n few) (le-ltb (length (peaks_of rule n)) k within) is)
]
  where
    same : (a b : Bool) → a ≡ false → b ≡ true → first_case ((a, error.LocationOverflow n) ∷ (b, error.InvalidInactivePeaks k (length (peaks_of rule n))) ∷ []) ≡ Some e
        → error.InvalidInactivePeaks k (length (peaks_of rule n)) ≡ e
    same false true x y f = (cc)
    same true b x y f = absurd (search (rules, x))
    same false false x y f = absurd (search (rules, y))

    never : (a b : Bool) → a ≡ false → b ≡ false → first_case ((a, error.LocationOverflow n) ∷ (b, error.InvalidInactivePeaks k (length (peaks_of rule n))) ∷ []) ≡ Some e → ⊥
    never false false x y f = absurd (cc)
    never true b x y f = absurd (search (rules, x))
    never false true x y f = absurd (search (rules, y))

module _ {D : Type 0} (s : Scheme D) (size : ℕ) (Spells : List ℕ → Type 0) (g : StructureState) (a k : ℕ) (bytes : List ℕ) (elements : List (List ℕ)) (text : List ℕ) where
  -- bytes that begin with no proof, or want of memory
  pub not_read : (e : DecodeError) → IsProofReadRefusal size Spells s.max_leaves (most_digests (length elements)) bytes e → text ≡ error_line (decode_error_name e)
      → IsAudited s size Spells g a k bytes elements text ⊎ (text ≡ error_line (codes "OutOfMemory"))
  not_read EndOfBuffer r t = inl (inl (EndOfBuffer, (λ e. search (rules, e)), r, t))
  not_read InvalidVarint r t = inl (inl (InvalidVarint, (λ e. search (rules, e)), r, t))
  not_read Invalid r t = inl (inl (Invalid, (λ e. search (rules, e)), r, t))
  not_read TooMany r t = inl (inl (TooMany, (λ e. search (rules, e)), r, t))
  not_read OutOfMemory r t = inr t

  -- bytes that begin with a proof
  module _ (leaves peaks : ℕ) (digests : List D) (rest : List ℕ) (few : leaves ≤ s.max_leaves) (small : peaks < 2 ^ 64) (most : length digests ≤ most_digests (length elements))
      (spelled : bytes ≡ parts_spelling s.hashing.bytes leaves peaks digests ++ rest) where
    pub followed : rest ≢ [] → text ≡ error_line (codes "Trailing") → IsAudited s size Spells g a k bytes elements text
    followed more t = inr (leaves, peaks, digests, rest, few, small, most, spelled, inl (more, t))

    pub alone : rest ≡ [] → IsAuditedInput s g k (range_input s leaves peaks digests a elements) text → IsAudited s size Spells g a k bytes elements text
    alone none said = inr (leaves, peaks, digests, rest, few, small, most, spelled, inr (none, said))

-- bytes that are tested for being some
pub some_bytes : (bytes : List ℕ) (test : Bool) → test ≡ (length bytes == 0) → test ≡ false → bytes ≢ []
some_bytes [] true is some = absurd (search (rules, some))
some_bytes [] false is some = absurd (search (rules, is))
some_bytes (b ∷ bytes) test is some = λ e. cc

-- a proof that was read, against a list
module _ {D : Type 0} (s : Scheme D) (g : StructureState) (X : List D) (k : ℕ) (r : RangeInput D) (text : List ℕ) (is : X ≡ committed_list s g) where
  counted : length X ≡ count g
  counted = ap length is ∙ length-leaf_digests s.hashing s.rule 0 g.committed

  pub peaks_refused : {F : Type 0} (e : Error F) → (length (peaks_of s.rule (length X)) < k)
      × (e ≡ error.InvalidInactivePeaks k (length (peaks_of s.rule (length X)))) → text ≡ error_line (error_name e) → IsAuditedInput s g k r text
  peaks_refused e over t = inl (subst (λ n. length (peaks_of s.rule n) < k) counted over.0, t ∙ ap (λ x. error_line (error_name x)) over.1)

  pub peaks_within : k ≤ length (peaks_of s.rule (length X)) → SaysOfInput s X k r text → IsAuditedInput s g k r text
  peaks_within enough said = inr (subst (λ n. k ≤ length (peaks_of s.rule n)) counted enough, subst (λ ds. SaysOfInput s ds k r text) is said)
