-- What a structure is that agrees with a list.
use Rattle.std.proofs.Common.{◌≡◌, ℕ, List, None, cond, sym, ap, ◌∙◌}
use Rattle.std.specs.Prelude.{slice_get}
use Rattle.merkle_base.specs.Hashing.{Hashing}
use Rattle.merkle_base.specs.Digests.{node_digests}
use Rattle.merkle_batch_theory.specs.Contents.{Contents, Agrees, is_kept}

pub one_structure : {D : Type 0} (h : Hashing D) (rule : List ℕ → List ℕ) (X : List D) (c d : Contents D) → Agrees h rule c X → Agrees h rule d X → c.boundary ≡ d.boundary → c ≡ d
one_structure h rule X c d a b same = λ j. record {
  boundary = same j;
  size = (a.sized ∙ sym b.sized) j;
  node = λ p. (a.holds p ∙ ap (λ k. cond (is_kept rule k p) (slice_get (node_digests h rule X) p) None) same ∙ sym (b.holds p)) j;
}
