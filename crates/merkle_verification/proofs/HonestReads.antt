-- What is read from nodes that show a list.
use Rattle.std.proofs.Common.{◌≡◌, ℕ, ◌≤◌, List, length, length-take, map, take, Option, Some, slice_get, arith, sym, ◌∙◌, subst}
use Rattle.std.proofs.lemmas.Option.{same_Some}
use Rattle.merkle_base.specs.Forest.{forest}
use Rattle.merkle_base.specs.Hashing.{Hashing}
use Rattle.merkle_base.specs.Digests.{digest_at, node_digests}
use Rattle.merkle_base.specs.Shows.{Shows}
use Rattle.merkle_batch_theory.proofs.ShownLists.{taken}
use Rattle.merkle_batch_theory.proofs.Steps.{node_digest_at}
use Rattle.merkle_base.specs.Table.{digest_for}
use Rattle.merkle_proof.specs.RangePlans.{AnswersList}
use Rattle.merkle_verification.proofs.ListedReads.{found_is}

module _ {D : Type 0} (h : Hashing D) (rule : List ℕ → List ℕ) (m : ℕ) (node : ℕ → Option D) (X : List D) (shows : Shows h rule m node X) where
  -- listed digests answer the list of the first n entries
  pub taken_answers : (n : ℕ) → n ≤ length X → (ps : List ℕ) (ds : List D) → map Some ds ≡ map node ps → AnswersList h rule (take n X) (λ p o. o ≡ digest_for ps ds p)
  taken_answers n within ps ds read p t d at found =
      let long : length (take n X) ≡ n = omega (arith, within, length-take n X) in
      let shown : slice_get (node_digests h rule X) p ≡ Some d = shows.right p d (found_is node ps ds read p d (sym found)) in
      let old = taken h rule X n p t within (subst (λ l. slice_get (forest rule l).nodes p ≡ Some t) long at) in
      same_Some d (digest_at h (take n X) t) (sym shown ∙ sym old ∙ node_digest_at h rule (take n X) p t at)
