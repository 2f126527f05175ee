-- What a proof reads from a structure that agrees with a list.
use Rattle.std.proofs.Common.{◌≡◌, ℕ, List, length, Bool, true, false, cond, Option, Some, None, slice_get, ap, sym, ◌∙◌}
use Rattle.merkle_base.specs.Forest.{forest}
use Rattle.merkle_base.specs.Hashing.{Hashing}
use Rattle.merkle_base.specs.Digests.{digest_at, node_digests}
use Rattle.merkle_proof.specs.RangePlans.{AnswersList}
use Rattle.merkle_batch.proofs.KeptReads.{IsAnsweredWhereKept}
use Rattle.merkle_batch_theory.specs.Contents.{Contents, Agrees, is_kept}
use Rattle.merkle_batch_theory.proofs.Kept.{get_map}

some_is : {X : Type 0} (x y : X) → Some x ≡ Some y → x ≡ y
some_is x y e = cc

kept_some : {X : Type 0} (b : Bool) (o : Option X) (x : X) → Some x ≡ cond b o None → o ≡ Some x
kept_some true o x e = sym e
kept_some false o x e = absurd (cc)

-- what is held at a node is the list's digest there
pub answers_list : {D : Type 0} (h : Hashing D) (rule : List ℕ → List ℕ) (c : Contents D) (X : List D) → Agrees h rule c X → AnswersList h rule X (λ p r. r ≡ c.node p)
answers_list h rule c X agrees p t d at is =
    some_is d (digest_at h X t)
    (sym (kept_some (is_kept rule c.boundary p) (slice_get (node_digests h rule X) p) d (is ∙ agrees.holds p)) ∙ get_map (digest_at h X) (forest rule (length X)).nodes p t at)

-- and it is held wherever it is kept
pub answered_kept : {D : Type 0} (h : Hashing D) (rule : List ℕ → List ℕ) (c : Contents D) (X : List D) → Agrees h rule c X → IsAnsweredWhereKept rule c.boundary (length X) c.node
answered_kept h rule c X agrees p t at kept =
    (digest_at h X t, agrees.holds p ∙ ap (λ k. cond k (slice_get (node_digests h rule X) p) None) kept ∙ get_map (digest_at h X) (forest rule (length X)).nodes p t at)
