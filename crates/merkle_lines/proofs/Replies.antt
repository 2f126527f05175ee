-- Answers are those of the definitions.
use Rattle.std.proofs.Common.{◌≡◌, ℕ, ◌<◌, ◌≤◌, List, [], ◌++◌, length, map, Option, Bool, Ok, Err, Result, cond, arith, refl, sym, ap, ◌∙◌, subst, inl, inr}
use Rattle.std.specs.Prelude.{codes, nat_le}
use Rattle.std.specs.Borrow.{Bor}
use Rattle.std.specs.Fmt.{decimal}
use Rattle.std.proofs.lemmas.Bool.{leb-true, leb-false, le-leb, lt-leb, lt-ltb, le-ltb}
use Rattle.hex.specs.Hex.{decode_of, encode_lower}
use Rattle.merkle_base.proofs.Cases.{by_test}
use Rattle.merkle_base.specs.Forest.{size}
use Rattle.merkle_base.specs.Places.{peaks_of}
use Rattle.merkle_base.specs.Root.{list_root}
use Rattle.merkle_base.specs.Scheme.{Scheme}
use Rattle.merkle_base.specs.Tree.{Tree, position}
use Rattle.merkle_base.specs.declared.error.Error.{Error}
use Rattle.merkle_base.specs.declared.error.Error.TheVariants as error
use Rattle.merkle_commands.specs.declared.command.Request.{Request}
use Rattle.merkle_commands.specs.declared.command.Request.TheVariants.{Add, Update, Commit, Prune, Root, Prove}
use Rattle.merkle_commands.specs.declared.hex_words.HexError.{HexError}
use Rattle.merkle_commands.specs.declared.hex_words.HexError.TheVariants as hex
use Rattle.merkle_hasher.proofs.LeafDigests.{length-leaf_digests}
use Rattle.merkle_codec.specs.ProofSpelling.{parts_spelling}
use Rattle.merkle_proof.specs.ProofRefusals.{IsRangeRefusal}
use Rattle.merkle_proof.specs.RangePlans.{IsFirstMissing}
use Rattle.merkle_root_theory.specs.Range.{range_digests}
use Rattle.merkle_root_theory.specs.Reads.{reading_order}
use Rattle.merkle_lines.specs.Answers.{added, committed_list, error_line, kept_node, left, updated, word_bytes, IsRequestAnswered, IsLost, IsProved, IsRangePruned}
use Rattle.merkle_lines.specs.ErrorNames.{error_name, hex_error_name}
use Rattle.merkle_lines.specs.StructureState.{StructureState, all_committed, changes, count, pruned_to, with_changes, with_element, with_changed_element, without_changes}

-- the bytes of a word that was read
pub read_bytes : (word bytes : List ℕ) → decode_of word ≡ Ok bytes → word_bytes word ≡ bytes
read_bytes word bytes e = ap (λ r. elim r [ Ok b ↦ b | Err f ↦ [] ]) e

module _ {D : Type 0} (s : Scheme D) (size_of : ℕ) (Spells : List ℕ → Type 0) (g : StructureState) where
  -- want of memory
  pub wanting : {F : Type 0} (request : Request) (e : Error F) (text : List ℕ) → e ≡ error.OutOfMemory → text ≡ error_line (error_name e)
      → IsRequestAnswered s size_of Spells g request (left g request) text
  wanting request e text w t = inr (refl, t ∙ ap (λ x. error_line (error_name x)) w)

  pub wanting_hex : (request : Request) (e : HexError) (text : List ℕ) → e ≡ hex.OutOfMemory → text ≡ error_line (hex_error_name e) → IsRequestAnswered s size_of Spells g request (left g request) text
  wanting_hex request e text w t = inr (refl, t ∙ ap (λ x. error_line (hex_error_name x)) w)

  -- an element is added, or there is no room for it
  pub add_done : (digits : Bor (List ℕ)) (element : List ℕ) (n : ℕ) (text : List ℕ) → decode_of digits.now ≡ Ok element
      → n ≡ length (changes g).elements → n < s.max_leaves → text ≡ codes "ok " ++ decimal n
      → IsRequestAnswered s size_of Spells g (Add digits) (with_changes g (with_element (changes g) element)) text
  add_done digits element n text d c l t =
      inl (subst (λ b. ◌≡◌ {A = StructureState × List ℕ} (with_changes g (with_element (changes g) element), text) (added s g b)) (sym (read_bytes digits.now element d))
      (rw (lt-ltb (length (changes g).elements) s.max_leaves (omega (arith, l, c))) (ap (λ x. (with_changes g (with_element (changes g) element), x)) (t ∙ ap (λ m. codes "ok " ++ decimal m) c))))

  pub add_full : {F : Type 0} (digits : Bor (List ℕ)) (e : Error F) (text : List ℕ) → length (changes g).elements ≡ s.max_leaves
      → e ≡ error.LocationOverflow s.max_leaves → text ≡ error_line (error_name e)
      → IsRequestAnswered s size_of Spells g (Add digits) (without_changes g) text
  add_full digits e text c f t =
      inl (rw (le-ltb (length (changes g).elements) s.max_leaves (omega (arith, c))) (ap (λ x. (without_changes g, x)) (t ∙ ap (λ x. error_line (error_name x)) f)))

  -- an element is updated, or it isn't there or pruned
  pub update_done : (location : ℕ) (digits : Bor (List ℕ)) (element text : List ℕ) → decode_of digits.now ≡ Ok element
      → location < length (changes g).elements → (changes g).boundary ≤ location → text ≡ codes "ok"
      → IsRequestAnswered s size_of Spells g (Update location digits) (with_changes g (with_changed_element (count g) (changes g) location element)) text
  update_done location digits element text d l b t =
      inl (subst (λ x. ◌≡◌ {A = StructureState × List ℕ} (with_changes g (with_changed_element (count g) (changes g) location element), text)
      (updated g location x)) (sym (read_bytes digits.now element d))
      (rw (lt-leb (length (changes g).elements) location l, le-ltb location (changes g).boundary b) (ap (λ x. (with_changes g (with_changed_element (count g) (changes g) location element), x)) t)))

  pub update_out : {F : Type 0} (location : ℕ) (digits : Bor (List ℕ)) (e : Error F) (text : List ℕ) → length (changes g).elements ≤ location
      → e ≡ error.LeafOutOfBounds location → text ≡ error_line (error_name e)
      → IsRequestAnswered s size_of Spells g (Update location digits) (without_changes g) text
  update_out location digits e text l f t = inl (rw (le-leb (length (changes g).elements) location l) (ap (λ x. (without_changes g, x)) (t ∙ ap (λ x. error_line (error_name x)) f)))

  pub update_pruned : {F : Type 0} (location p : ℕ) (digits : Bor (List ℕ)) (e : Error F) (text : List ℕ) → location < length (changes g).elements
      → location < (changes g).boundary → e ≡ error.ElementPruned p → text ≡ error_line (error_name e)
      → IsRequestAnswered s size_of Spells g (Update location digits) (without_changes g) text
  update_pruned location p digits e text l b f t =
      inl (rw (lt-leb (length (changes g).elements) location l, lt-ltb location (changes g).boundary b) (ap (λ x. (without_changes g, x)) (t ∙ ap (λ x. error_line (error_name x)) f)))

  -- the changes are committed, or a node is lost
  pub commit_done : (n m : ℕ) (text : List ℕ) → ((t : Tree) → ¬ (IsLost s.rule g t)) → n ≡ length (changes g).elements
      → m ≡ size s.rule (length (changes g).elements) → text ≡ codes "ok " ++ decimal n ++ codes " " ++ decimal m
      → IsRequestAnswered s size_of Spells g Commit (all_committed g) text
  commit_done n m text none c z t =
      inl (inl (
        none,
        refl,
        t ∙ ap (λ a. codes "ok " ++ decimal a ++ codes " " ++ decimal m) c
            ∙ ap (λ a. codes "ok " ++ decimal (length (changes g).elements) ++ codes " " ++ decimal a) z,
      ))

  pub commit_lost : {F : Type 0} (e : Error F) (t : Tree) (text : List ℕ) → IsLost s.rule g t → e ≡ error.MissingNode (position t)
      → text ≡ error_line (error_name e) → IsRequestAnswered s size_of Spells g Commit (without_changes g) text
  commit_lost e t text lost f is = inl (inr (t, lost, refl, is ∙ ap (λ x. error_line (error_name x)) f))

  -- pruned, or past the leaves
  pub prune_done : (location a b : ℕ) (text : List ℕ) → location ≤ count g → a ≡ (pruned_to g location).boundary → b ≡ count g → text ≡ codes "ok "
      ++ decimal a ++ codes " " ++ decimal b → IsRequestAnswered s size_of Spells g (Prune location) (pruned_to g location) text
  prune_done location a b text l x y t =
      inl (rw (le-ltb (count g) location l)
      (ap (λ z. (pruned_to g location, z))
      (t ∙ ap (λ k. codes "ok " ++ decimal k ++ codes " " ++ decimal b) x
      ∙ ap (λ k. codes "ok " ++ decimal (pruned_to g location).boundary ++ codes " " ++ decimal k) y)))

  pub prune_out : {F : Type 0} (location : ℕ) (e : Error F) (text : List ℕ) → count g < location → e ≡ error.LeafOutOfBounds location
      → text ≡ error_line (error_name e) → IsRequestAnswered s size_of Spells g (Prune location) g text
  prune_out location e text l f t = inl (rw (lt-ltb (count g) location l) (ap (λ x. (g, x)) (t ∙ ap (λ x. error_line (error_name x)) f)))

  -- a root, or too many inactive peaks
  module _ {F : Type 0} (k : ℕ) (r : Result D (Error F)) (text : List ℕ)
      (ok : k ≤ length (peaks_of s.rule (length (committed_list s g))) → r ≡ Ok (list_root s (committed_list s g) k))
      (err : length (peaks_of s.rule (length (committed_list s g))) < k → r ≡ Err (error.InvalidInactivePeaks k (length (peaks_of s.rule (length (committed_list s g)))))) where
    peaks_same : length (peaks_of s.rule (length (committed_list s g))) ≡ length (peaks_of s.rule (count g))
    peaks_same = ap (λ n. length (peaks_of s.rule n)) (length-leaf_digests s.hashing s.rule 0 g.committed)

    abbrev Texts : Bool → Type 0
    Texts b = text ≡ cond b (encode_lower (s.hashing.bytes (list_root s (committed_list s g) k))) (error_line (codes "InvalidInactivePeaks"))

    abbrev within : Bool
    within = nat_le k (length (peaks_of s.rule (count g)))

    pub root_told : (d : D) → r ≡ Ok d → text ≡ encode_lower (s.hashing.bytes d) → IsRequestAnswered s size_of Spells g (Root k) g text
    root_told d e t =
        inl (
          refl,
          by_test Texts within
              (λ w. let f = ok (omega (arith, leb-true k _ w, peaks_same)) in let same : d ≡ list_root s (committed_list s g) k = (cc) in t ∙ ap (λ x. encode_lower (s.hashing.bytes x)) same)
              (λ w. absurd (let f = err (omega (arith, leb-false k _ w, peaks_same)) in cc)),
        )

    pub root_refused : (e : Error F) → r ≡ Err e → text ≡ error_line (error_name e) → IsRequestAnswered s size_of Spells g (Root k) g text
    root_refused e i t =
        inl (
          refl,
          by_test Texts within
              (λ w. absurd (let f = ok (omega (arith, leb-true k _ w, peaks_same)) in cc))
              (λ w. let f = err (omega (arith, leb-false k _ w, peaks_same)) in
              let same : e ≡ error.InvalidInactivePeaks k (length (peaks_of s.rule (length (committed_list s g)))) = (cc) in t
              ∙ ap (λ x. error_line (error_name x)) same),
        )

-- ---- proofs
module _ {D : Type 0} (s : Scheme D) (size_of : ℕ) (Spells : List ℕ → Type 0) (g : StructureState) (node : ℕ → Option D)
    (here : (p : ℕ) → node p ≡ kept_node s g p) (n : ℕ) (counted : n ≡ count g) (few : n ≤ s.max_leaves) (a b k : ℕ) where
  -- why there is no proof
  pub prove_refused : {F : Type 0} (e : Error F) (text : List ℕ) → IsRangeRefusal s.bagging s.rule s.max_leaves n a b k node e
      → text ≡ error_line (error_name e) → IsRequestAnswered s size_of Spells g (Prove a b k) g text
  prove_refused {F} e text r t = inl (refl, told r)
    where
      named : {f : Error F} → e ≡ f → text ≡ error_line (error_name f)
      named same = t ∙ ap (λ x. error_line (error_name x)) same

      missing : (p : ℕ) → IsFirstMissing (λ q r. r ≡ node q) (map position (reading_order s.bagging k s.rule n a b)) p
          → IsFirstMissing (λ q r. r ≡ kept_node s g q) (map position (reading_order s.bagging k s.rule (count g) a b)) p
      missing p m = subst (λ c. IsFirstMissing (λ q r. r ≡ kept_node s g q) (map position (reading_order s.bagging k s.rule c a b)) p) counted
          (subst (λ (f : ℕ → Option D). IsFirstMissing (λ q r. r ≡ f q) (map position (reading_order s.bagging k s.rule n a b)) p) (λ i q. here q i) m)

      told : IsRangeRefusal s.bagging s.rule s.max_leaves n a b k node e → IsProved s g a b k text
      told (inl (inl (empty, is))) = inl (empty, named is)
      told (inl (inr (inl (some, past, is)))) = inr (inl (some, omega (arith, past, counted), named is))
      told (inl (inr (inr (some, inside, many, is)))) = absurd (omega (arith, many, few))
      told (inr (some, inside, inl (over, is))) = inr (inr (inl (some, omega (arith, inside, counted), subst (λ c. length (peaks_of s.rule c) < k) counted over, named is)))
      told (inr (some, inside, inr (enough, (p, is, m)))) =
          inr (inr (inr (some, omega (arith, inside, counted), subst (λ c. k ≤ length (peaks_of s.rule c)) counted enough, inl ((p, missing p m), named is))))

  -- the proof
  pub prove_told : ((p : ℕ) → IsFirstMissing (λ q r. r ≡ node q) (map position (reading_order s.bagging k s.rule n a b)) p → ⊥)
      → (leaves inactive : ℕ) (digests : List D) (text : List ℕ) → a < b → b ≤ count g → leaves ≡ n → inactive ≡ k → k ≤ length (peaks_of s.rule n)
      → digests ≡ range_digests s (committed_list s g) k a b
      → text ≡ encode_lower (parts_spelling s.hashing.bytes leaves inactive digests) → IsRequestAnswered s size_of Spells g (Prove a b k) g text
  prove_told held leaves inactive digests text some within is_n is_k enough is t =
      inl (
        refl,
        inr (inr (inr (
          some,
          within,
          subst (λ c. k ≤ length (peaks_of s.rule c)) counted enough,
          inr (
            none_pruned,
            t ∙ (λ i. encode_lower (parts_spelling s.hashing.bytes ((is_n ∙ counted) i) (is_k i) (is i))),
          ),
        ))),
      )
    where
      none_pruned : ¬ (IsRangePruned s g a b k)
      none_pruned w =
          held w.0 (subst (λ c. IsFirstMissing (λ q r. r ≡ node q) (map position (reading_order s.bagging k s.rule c a b)) w.0) (sym counted)
          (subst (λ (f : ℕ → Option D). IsFirstMissing (λ q r. r ≡ f q) (map position (reading_order s.bagging k s.rule (count g) a b)) w.0) (λ i q. sym (here q) i) w.1))
