-- Parts of a level.
use Rattle.std.proofs.Common.{◌≡◌, ℕ, ◌<◌, ◌≤◌, List, [], ◌∷◌, ◌++◌, length, get_or, Option, arith, sym, ap, subst, append_assoc}
use Rattle.std.specs.List.{Contains}
use Rattle.std.proofs.lemmas.List.Elements.{Contains-append_left, Contains-append_right}
use Rattle.merkle_base.specs.Hashing.{Hashing}
use Rattle.merkle_base.specs.Tree.{position}
use Rattle.merkle_batch_theory.specs.Contents.{Contents}
use Rattle.merkle_batch_theory.specs.Read.{read_over}
use Rattle.merkle_draft.specs.DraftReads.{DraftModel, below}
use Rattle.merkle_draft.specs.Settled.{AreSettled, HasSameShape, IsStage}

-- a list of one element
pub one_listed : (xs : List ℕ) (x : ℕ) → 1 ≤ length xs → length xs < 2 → x ≡ get_or xs 0 x → xs ≡ x ∷ []
one_listed [] x some few at = absurd (omega (arith, some))
one_listed (y ∷ []) x some few at = ap (λ z. z ∷ []) (sym at)
one_listed (y ∷ z ∷ zs) x some few at = absurd (omega (arith, few))

-- what lies below stays
pub below_same : {D : Type 0} (old new : DraftModel D) (base : Contents D) → HasSameShape old new → below new base ≡ below old base
below_same old new base w = λ i p. read_over (w.1 i) base p

-- an element of a chunk is one of the level
pub in_chunk : (done chunk rest ps : List ℕ) (p : ℕ) → done ++ (chunk ++ rest) ≡ ps → Contains chunk p → Contains ps p
in_chunk done chunk rest ps p parts c = subst (λ xs. Contains xs p) parts (Contains-append_right done (chunk ++ rest) p (Contains-append_left chunk rest p c))

module _ {D : Type 0} (h : Hashing D) (rule : List ℕ → List ℕ) (max_leaves : ℕ) (m under : ℕ → Option D) (n : ℕ) (ds : List D) where
  -- the next chunk of a level, of which the nodes before it are computed
  pub chunk_stage : (before k : ℕ) (done chunk rest ps later : List ℕ) (start now : ℕ → Option D) → done ++ (chunk ++ rest) ≡ ps → IsStage h rule max_leaves m under n ds before k ps later start →
      AreSettled h rule m under n ds ((chunk ++ rest) ++ later) now → IsStage h rule max_leaves m under n ds before k chunk (rest ++ later) now
  chunk_stage before k done chunk rest ps later start now parts stage settled = record {
    within = stage.within;
    sized = stage.sized;
    ready = λ p c.
        (let w = stage.ready p (in_chunk done chunk rest ps p parts c) in
        let more : (q : ℕ) → Contains (chunk ++ (rest ++ later)) q → Contains (ps ++ later) q =
        λ q x. subst (λ xs. Contains (xs ++ later) q) parts
        (subst (λ xs. Contains xs q) (sym (append_assoc done (chunk ++ rest) later))
        (Contains-append_right done ((chunk ++ rest) ++ later) q (subst (λ xs. Contains xs q) (sym (append_assoc chunk rest later)) x))) in
        (w.0, w.1, w.2, w.3, w.4, (λ x. w.5 (more (position w.0) x)), (λ x. w.6 (more (position w.1) x))));
    settled = subst (λ xs. AreSettled h rule m under n ds xs now) (append_assoc chunk rest later) settled;
  }
