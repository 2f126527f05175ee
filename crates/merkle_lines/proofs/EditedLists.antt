-- Lists of leaf digests with edits.
use Rattle.std.proofs.Common.{◌≡◌, ℕ, ◌+◌, ◌<◌, ◌≤◌, List, [], ◌∷◌, ◌++◌, length, set, cond, arith, refl, sym, ap, ◌∙◌}
use Rattle.std.proofs.lemmas.Bool.{lt-ltb, le-ltb}
use Rattle.merkle_base.specs.Forest.{size}
use Rattle.merkle_base.specs.Hashing.{Hashing}
use Rattle.merkle_hasher.specs.LeafDigests.{leaf_digests}
use Rattle.merkle_hasher.proofs.LeafDigests.{length-leaf_digests, leaf_digests-append}
use Rattle.merkle_lines.specs.Held.{edited}
use Rattle.merkle_lines.specs.StructureState.{Changes, with_changed_element, with_element}
use Rattle.merkle_lines.proofs.Making.{leaf_digests_set}

-- one edit, of a digest that is there, or at the end
pub edited_old : {D : Type 0} (xs : List D) (k : ℕ) (d : D) → k < length xs → edited xs ((k, d) ∷ []) ≡ set xs k d
edited_old xs k d l = ap (λ b. cond b (set xs k d) (xs ++ d ∷ [])) (lt-ltb k (length xs) l)

pub edited_new : {D : Type 0} (xs : List D) (k : ℕ) (d : D) → length xs ≤ k → edited xs ((k, d) ∷ []) ≡ xs ++ d ∷ []
edited_new xs k d l = ap (λ b. cond b (set xs k d) (xs ++ d ∷ [])) (le-ltb k (length xs) l)

-- edits after others
pub edited_append : {D : Type 0} (xs : List D) (es fs : List (ℕ × D)) → edited xs (es ++ fs) ≡ edited (edited xs es) fs
edited_append xs [] fs = refl
edited_append xs (e ∷ es) fs = edited_append (edited xs (e ∷ [])) es fs

-- the leaf digests of the elements with the changes, which some edits lead to
module _ {D : Type 0} (h : Hashing D) (rule : List ℕ → List ℕ) (xs : List D) (es : List (ℕ × D)) (c : Changes) (is : edited xs es ≡ leaf_digests h rule 0 c.elements) where
  abbrev all : List D
  all = leaf_digests h rule 0 c.elements

  counted : length all ≡ length c.elements
  counted = length-leaf_digests h rule 0 c.elements

  -- with one element more
  pub edited_more : (k : ℕ) (e : List ℕ) → k ≡ length c.elements → edited xs (es ++ (k, h.leaf (size rule k) e) ∷ []) ≡ leaf_digests h rule 0 (with_element c e).elements
  edited_more k e last =
      edited_append xs es ((k, h.leaf (size rule k) e) ∷ []) ∙ ap (λ ds. edited ds ((k, h.leaf (size rule k) e) ∷ [])) is
      ∙ edited_new all k (h.leaf (size rule k) e) (omega (arith, last, counted)) ∙ ap (λ j. all ++ leaf_digests h rule j (e ∷ [])) (let n : k ≡ 0 + length c.elements = omega (arith, last) in n)
      ∙ sym (leaf_digests-append h rule 0 c.elements (e ∷ []))

  -- with another element at a location
  pub edited_change : (n k : ℕ) (e : List ℕ) → k < length c.elements → edited xs (es ++ (k, h.leaf (size rule k) e) ∷ []) ≡ leaf_digests h rule 0 (with_changed_element n c k e).elements
  edited_change n k e there =
      edited_append xs es ((k, h.leaf (size rule k) e) ∷ []) ∙ ap (λ ds. edited ds ((k, h.leaf (size rule k) e) ∷ [])) is
      ∙ edited_old all k (h.leaf (size rule k) e) (omega (arith, there, counted)) ∙ ap (λ j. set all k (h.leaf (size rule j) e)) (let n : k ≡ 0 + k = omega arith in n)
      ∙ sym (leaf_digests_set h rule 0 c.elements k e)
