-- What the last of some records has stands before what the earlier ones have.
use Rattle.std.proofs.Common.{◌≡◌, ℕ, zero, suc, ◌<◌, List, [], ◌∷◌, ◌++◌, length, map, take, get_or, slice_get, Option, Some, None, false, arith, refl, sym, ap, ◌∙◌}
use Rattle.std.specs.Prelude.{is_some}
use Rattle.std.specs.Option.{option_or}
use Rattle.merkle_batch_theory.specs.Records.{RecordModel, MerkleizedModel, records}
use Rattle.merkle_batch_theory.specs.Read.{written, newest}
use Rattle.merkle_batch_theory.specs.History.{IsHistory, last_list}
use Rattle.merkle_base.specs.Hashing.{Hashing}
use Rattle.merkle_base.specs.Digests.{node_digests}
use Rattle.merkle_batch_theory.proofs.ShownLists.{batch_shows}
use Rattle.merkle_batch_theory.proofs.OptionFacts.{or_assoc, or_nothing}

pub or_later : {D : Type 0} (o u : Option D) → is_some o ≡ false → option_or o u ≡ u
or_later None u e = refl
or_later (Some d) u e = absurd (cc)

module _ {D : Type 0} where
  pub newest_last : (rs : List (RecordModel D)) (r : RecordModel D) (p : ℕ) → newest (rs ++ r ∷ []) p ≡ option_or (written r p) (newest rs p)
  newest_last [] r p = sym (or_nothing (written r p))
  newest_last (q ∷ rs) r p = ap (λ o. option_or o (written q p)) (newest_last rs r p) ∙ or_assoc (written r p) (newest rs p) (written q p)

  pub newest_taken : {A : Type 0} (f : A → RecordModel D) (xs : List A) (i p : ℕ) (x : A) → i < length xs → x ≡ get_or xs i x
      → newest (take (suc i) (map f xs)) p ≡ option_or (written (f x) p) (newest (take i (map f xs)) p)
  newest_taken f [] i p x l e = absurd (omega arith)
  newest_taken f (y ∷ ys) zero p x l e = ap (λ z. written (f z) p) (sym e) ∙ sym (or_nothing (written (f x) p))
  newest_taken f (y ∷ ys) (suc i) p x l e =
      ap (λ o. option_or o (written (f y) p)) (newest_taken f ys i p x (omega arith) e) ∙ or_assoc (written (f x) p) (newest (take i (map f ys)) p) (written (f y) p)

  -- a batch has what its own record has, or else the newest of its ancestors' records
  pub own_has : (k : MerkleizedModel D) (p : ℕ) (d : D) → written k.own p ≡ Some d → newest (records k) p ≡ Some d
  own_has k p d e = newest_last k.ancestors k.own p ∙ ap (λ o. option_or o (newest k.ancestors p)) e

  pub own_lacks : (k : MerkleizedModel D) (p : ℕ) → written k.own p ≡ None → newest (records k) p ≡ newest k.ancestors p
  own_lacks k p e = newest_last k.ancestors k.own p ∙ ap (λ o. option_or o (newest k.ancestors p)) e

  -- what it has is the last list's
  pub has_last : (h : Hashing D) (rule : List ℕ → List ℕ) (k : MerkleizedModel D) (p : ℕ) (d : D) (ls : List (List D))
      → IsHistory h rule (records k) ls → newest (records k) p ≡ Some d → slice_get (node_digests h rule (last_list ls)) p ≡ Some d
  has_last h rule k p d [] s e = absurd s
  has_last h rule k p d (X ∷ ls) s e = (batch_shows h rule k X ls s).right p d e
