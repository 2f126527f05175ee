-- What a located collision is of a hasher that hashes joined bytes.
use Rattle.std.proofs.Common.{◌≡◌, ℕ, List, Option, ◌++◌, length, take, drop, drop_at, take_at, refl, ap, ap₂, sym, ◌∙◌, w64}
use Rattle.std.specs.Int.{to_be_bytes}
use Rattle.merkle_base.specs.Hashing.{Hashing}
use Rattle.merkle_base.specs.Digests.{digest_at}
use Rattle.merkle_root_theory.specs.Expression.{Place, Root, Join, PrefixFold, SuffixFold, Node, Argument, Pair, Bytes, Expression, digest_of_argument}
use Rattle.merkle_root_theory.specs.Collision.{Collision, Collides}
use Rattle.merkle_root_theory.specs.RootString.{ByteLaws}
use Rattle.merkle_root_theory.specs.Check.{all_inputs, list_expression, range_expression}
use Rattle.merkle_base.specs.Scheme.{Scheme}
use Rattle.merkle_root_theory.specs.Range.{leaf_of, list_inputs}
use Rattle.merkle_claim_theory.specs.Multiproof.{multi_expression}
use Rattle.merkle_claim_theory.specs.Pinned.{pinned_expression}
use Rattle.merkle_audit_theory.specs.PlainHash.{IsPlain, joined_at, string_at, IsHashCollision, SameForm, StandardIsPlain, RootCollision, PlainCollision}
use Rattle.merkle_audit_theory.specs.PlainHash.{RangeCollision, MultiCollision, PinnedCollision, PairCollision, NodeCollision}
use Rattle.merkle_audit_theory.proofs.InputForms.{AllRootless, one_form, range_rootless, list_rootless, multi_inputs_rootless, pinned_inputs_rootless}

pub standard_is_plain : {D : Type 0} → StandardIsPlain D
standard_is_plain hash bytes same empty = record { node = λ p l r. refl; fold = λ a b. refl }

pub root_collision : {D : Type 0} → RootCollision D
root_collision h xs ys c = (c.0, c.1, record { differ = λ e. c.2.differ (ap (λ x. Bytes x) e); one_hash = c.2.one_digest })

-- ---- the two strings of a collision
module _ {D : Type 0} (h : Hashing D) (size : ℕ) (laws : ByteLaws h size) where
  joined_tells : (l r l' r' : D) → h.bytes l ++ h.bytes r ≡ h.bytes l' ++ h.bytes r' → (l ≡ l') × (r ≡ r')
  joined_tells l r l' r' e = (
    laws.differ l l' (sym (take_at (h.bytes l) (h.bytes r) size (laws.length l)) ∙ ap (take size) e ∙ take_at (h.bytes l') (h.bytes r') size (laws.length l')),
    laws.differ r r' (sym (drop_at (h.bytes l) (h.bytes r) size (laws.length l)) ∙ ap (drop size) e ∙ drop_at (h.bytes l') (h.bytes r') size (laws.length l')),
  )

  placed_tells : (p : ℕ) (l r l' r' : D) → to_be_bytes w64 p ++ h.bytes l ++ h.bytes r ≡ to_be_bytes w64 p ++ h.bytes l' ++ h.bytes r' → (l ≡ l') × (r ≡ r')
  placed_tells p l r l' r' e =
      let long : length (to_be_bytes w64 p) ≡ 8 = refl in
      joined_tells l r l' r' (sym (drop_at (to_be_bytes w64 p) (h.bytes l ++ h.bytes r) 8 long) ∙ ap (drop 8) e ∙ drop_at (to_be_bytes w64 p) (h.bytes l' ++ h.bytes r') 8 long)

  string_tells : (place : Place) (l r l' r' : D) → joined_at h.bytes place l r ≡ joined_at h.bytes place l' r' → (l ≡ l') × (r ≡ r')
  string_tells (Node p) l r l' r' e = placed_tells p l r l' r' e
  string_tells Root l r l' r' e = joined_tells l r l' r' e
  string_tells Join l r l' r' e = joined_tells l r l' r' e
  string_tells (PrefixFold i) l r l' r' e = joined_tells l r l' r' e
  string_tells (SuffixFold i) l r l' r' e = joined_tells l r l' r' e

  argument_told : (place : Place) (a b : Argument D) → SameForm a b → string_at h.bytes place a ≡ string_at h.bytes place b → a ≡ b
  argument_told place (Pair l r) (Pair l' r') f e = (let w = string_tells place l r l' r' e in ap₂ (λ x y. Pair x y) w.0 w.1)
  argument_told place (Pair l r) (Bytes b) f e = absurd f
  argument_told place (Bytes a) (Pair l r) f e = absurd f
  argument_told place (Bytes a) (Bytes b) f e = ap (λ x. Bytes x) e

module _ {D : Type 0} (h : Hashing D) where
  hashed_string : IsPlain h → (place : Place) (a : Argument D) → digest_of_argument h place a ≡ h.hash (string_at h.bytes place a)
  hashed_string plain (Node p) (Pair l r) = plain.node p l r
  hashed_string plain Root (Pair l r) = plain.fold l r
  hashed_string plain Join (Pair l r) = plain.fold l r
  hashed_string plain (PrefixFold i) (Pair l r) = plain.fold l r
  hashed_string plain (SuffixFold i) (Pair l r) = plain.fold l r
  hashed_string plain place (Bytes b) = refl

pub plain_collision : {D : Type 0} → PlainCollision D
plain_collision h plain size laws xs ys c form k = record {
  differ = λ e. k.differ (argument_told h size laws c.place c.claimed c.listed form e);
  one_hash = sym (hashed_string h plain c.place c.claimed) ∙ k.one_digest ∙ hashed_string h plain c.place c.listed;
}

pub node_collision : {D : Type 0} → NodeCollision D
node_collision h plain size laws X Y p l r one differ = record {
  differ = λ e. differ (string_tells h size laws (Node p) (digest_at h X l) (digest_at h X r) (digest_at h Y l) (digest_at h Y r) e);
  one_hash = sym (plain.node p (digest_at h X l) (digest_at h X r)) ∙ one ∙ plain.node p (digest_at h Y l) (digest_at h Y r);
}

-- ---- of what is hashed for the checks
module _ {D : Type 0} (s : Scheme D) (plain : IsPlain s.hashing) (size : ℕ) (laws : ByteLaws s.hashing size) where
  computed_collision : (n m k j : ℕ) (e f : Option (Expression D)) → AllRootless s.hashing e → AllRootless s.hashing f → (c : Collision D)
      → Collides s.hashing (all_inputs s n k e) (all_inputs s m j f) c
      → IsHashCollision s.hashing.hash (string_at s.hashing.bytes c.place c.claimed) (string_at s.hashing.bytes c.place c.listed)
  computed_collision n m k j e f v w c d = plain_collision s.hashing plain size laws _ _ c (one_form s s n m k j e f v w c.place c.claimed c.listed d.claimed d.listed) d

  list_collision : (n j : ℕ) (e : Option (Expression D)) → AllRootless s.hashing e → (xs : List D) (k : ℕ) (c : Collision D) → Collides s.hashing (all_inputs s n j e) (list_inputs s xs k) c
      → IsHashCollision s.hashing.hash (string_at s.hashing.bytes c.place c.claimed) (string_at s.hashing.bytes c.place c.listed)
  list_collision n j e v xs k c d =
      computed_collision n (length xs) j k e (list_expression s (leaf_of s.hashing xs) (length xs) k) v (list_rootless s (leaf_of s.hashing xs) (length xs) k) c d

pub range_collision : {D : Type 0} → RangeCollision D
range_collision s plain size laws r xs k c d = list_collision s plain size laws r.leaves r.inactive (range_expression s r) (range_rootless s r) xs k c d

pub multi_collision : {D : Type 0} → MultiCollision D
multi_collision s plain size laws r xs k c d = list_collision s plain size laws r.leaves r.inactive (multi_expression s r) (multi_inputs_rootless s r) xs k c d

pub pinned_collision : {D : Type 0} → PinnedCollision D
pinned_collision s plain size laws r pins xs k c d = list_collision s plain size laws r.leaves r.inactive (pinned_expression s r pins) (pinned_inputs_rootless s r pins) xs k c d

pub pair_collision : {D : Type 0} → PairCollision D
pair_collision s plain size laws r q c d =
    computed_collision s plain size laws r.leaves q.leaves r.inactive q.inactive (range_expression s r) (range_expression s q) (range_rootless s r) (range_rootless s q) c d
