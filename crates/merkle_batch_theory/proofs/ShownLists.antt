-- What a `Mem`, a batch and a shorter list show.
use Rattle.std.proofs.Common.{◌≡◌, ℕ, ◌+◌, ◌≤◌, ◌⊎◌, List, [], ◌∷◌, ◌++◌, length, length-take, take, Option, Some, None, Bool, true, false, cond, slice_get}
use Rattle.std.proofs.Common.{get_or-take, arith, refl, sym, ap, inl, inr, ◌∙◌, subst}
use Rattle.std.specs.Prelude.{is_some}
use Rattle.std.specs.Option.{option_or}
use Rattle.std.proofs.lemmas.Bool.{cases_lt, or_left, or_right}
use Rattle.merkle_base.specs.Tree.{Tree, leaf, join, position, IsBuilt, IsUnder}
use Rattle.merkle_base.specs.Forest.{forest, size}
use Rattle.merkle_base.proofs.Nodes.{node_built, node_stays}
use Rattle.merkle_base.proofs.Births.{leaf_at}
use Rattle.merkle_base.specs.Hashing.{Hashing}
use Rattle.merkle_base.specs.Digests.{digest_at, node_digests}
use Rattle.merkle_batch_theory.specs.Contents.{Contents, Agrees, is_kept}
use Rattle.merkle_batch_theory.specs.Records.{RecordModel, MerkleizedModel, records, after}
use Rattle.merkle_batch_theory.specs.History.{is_dirty, IsHistory, last_list}
use Rattle.merkle_batch_theory.specs.Read.{newest}
use Rattle.merkle_base.specs.Shows.{Shows}
use Rattle.merkle_batch_theory.specs.Needed.{IsUsed, IsNeeded}
use Rattle.merkle_batch_theory.proofs.Steps.{node_digest_at, step_size}
use Rattle.merkle_batch_theory.proofs.ReadThroughRecords.{newest_read}
use Rattle.merkle_base.proofs.Cases.{by_test}

pub under_touches : {D : Type 0} (m : ℕ → Option D) (t : Tree) (q k : ℕ) → IsUnder (leaf q k) t → is_some (m q) ≡ true → is_dirty m t ≡ true
under_touches m (leaf p n) q k u e = (let d : q ≡ p = cc in subst (λ x. is_some (m x) ≡ true) d e)
under_touches m (join p l r) q k u e = elim u [
  | inl d ↦ absurd (cc)
  | inr v ↦ elim v [ inl w ↦ or_left (is_dirty m l) (is_dirty m r) (under_touches m l q k w e) | inr w ↦ or_right (is_dirty m l) (is_dirty m r) (under_touches m r q k w e) ]
]

-- a used node is new, dirty or needed
pub sources : {D : Type 0} (rule : List ℕ → List ℕ) (m : ℕ → Option D) (n e : ℕ) (t : Tree) → IsUsed rule m n e t → (size rule n ≤ position t) ⊎ ((is_dirty m t ≡ true) ⊎ IsNeeded rule m n e t)
sources rule m n e t u = elim (cases_lt (position t) (size rule n)) [
  | inl l ↦ inr (by_test (λ b. (b ≡ is_dirty m t) → (is_dirty m t ≡ true) ⊎ IsNeeded rule m n e t) (is_dirty m t) (λ b f. inl b) (λ b f. inr (u, l, b)) refl)
  | inr l ↦ inl l
]

module _ {D : Type 0} (h : Hashing D) (rule : List ℕ → List ℕ) where
  pub agrees_empty : Agrees h rule (record { boundary = 0; size = 0; node = λ p. None }) []
  unfolding forest
  agrees_empty = record { sized = refl; bounded = omega arith; holds = λ p. nothing (is_kept rule 0 p) }
    where
      nothing : {D : Type 0} (b : Bool) → ◌≡◌ {A = Option D} None (cond b None None)
      nothing true = refl
      nothing false = refl

  shown_kept : (o : Option D) (b : Bool) (u : Option D) (d : D) → o ≡ cond b u None → o ≡ Some d → u ≡ Some d
  shown_kept o true u d e f = sym e ∙ f
  shown_kept o false u d e f = absurd (let g : None ≡ Some d = sym e ∙ f in cc)

  pub agrees_shows : (c : Contents D) (X : List D) → Agrees h rule c X → Shows h rule c.size c.node X
  agrees_shows c X a = record { sized = a.sized; right = λ p d e. shown_kept (c.node p) (is_kept rule c.boundary p) (slice_get (node_digests h rule X) p) d (a.holds p) e }

  last_size : (rs : List (RecordModel D)) (r : RecordModel D) (X : List D) (ls : List (List D)) → IsHistory h rule (rs ++ r ∷ []) (X ∷ ls) → after r ≡ size rule (length (last_list (X ∷ ls)))
  last_size [] r X [] s = absurd s
  last_size [] r X (Y ∷ []) s = ap (λ n. n + length r.appended) s.0.before ∙ step_size h rule r X Y s.0
  last_size [] r X (Y ∷ Z ∷ ls) s = absurd s.1
  last_size (q ∷ rs) r X [] s = absurd s
  last_size (q ∷ rs) r X (Y ∷ ls) s = last_size rs r Y ls s.1

  -- a batch shows its last list
  pub batch_shows : (k : MerkleizedModel D) (X : List D) (ls : List (List D)) → IsHistory h rule (records k) (X ∷ ls) → Shows h rule (after k.own) (newest (records k)) (last_list (X ∷ ls))
  batch_shows k X ls s = record {
    sized = last_size k.ancestors k.own X ls s;
    right = λ p d e. newest_read h rule (records k) X ls p s ∙ ap (λ o. option_or o (slice_get (node_digests h rule X) p)) e;
  }

  pub chain_shows : (k : MerkleizedModel D) (ls : List (List D)) → IsHistory h rule (records k) ls → Shows h rule (after k.own) (newest (records k)) (last_list ls)
  chain_shows k [] s = none_stand (records k) s
    where
      none_stand : (rs : List (RecordModel D)) → IsHistory h rule rs [] → Shows h rule (after k.own) (newest (records k)) []
      none_stand rs s = absurd s
  chain_shows k (X ∷ ls) s = batch_shows k X ls s

  -- ---- the first n entries
  digest_taken : (X : List D) (n : ℕ) (t : Tree) → IsBuilt (forest rule n).nodes t → digest_at h (take n X) t ≡ digest_at h X t
  digest_taken X n (leaf q k) b = get_or-take n X k h.empty (leaf_at rule n q q k b).1
  digest_taken X n (join q x y) b = ap (λ d. h.node q d (digest_at h (take n X) y)) (digest_taken X n x b.4) ∙ ap (λ d. h.node q (digest_at h X x) d) (digest_taken X n y b.5)

  pub taken : (X : List D) (n p : ℕ) (t : Tree) → n ≤ length X → slice_get (forest rule n).nodes p ≡ Some t → slice_get (node_digests h rule (take n X)) p ≡ slice_get (node_digests h rule X) p
  taken X n p t l e =
      let z : length (take n X) ≡ n = omega (arith, l, length-take n X) in
      node_digest_at h rule (take n X) p t (subst (λ m. slice_get (forest rule m).nodes p ≡ Some t) (sym z) e)
      ∙ ap Some (digest_taken X n t (node_built rule n p t e)) ∙ sym (node_digest_at h rule X p t (node_stays rule n (length X) p t l e))
