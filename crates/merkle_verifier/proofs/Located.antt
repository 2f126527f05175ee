-- Elements with their locations.
use Rattle.std.proofs.Common.{◌≡◌, ℕ, List, [], ◌∷◌, refl, ap}
use Rattle.std.specs.Borrow.{Bor}
use Rattle.merkle_base.specs.Forest.{size}
use Rattle.merkle_base.specs.Hashing.{Hashing}
use Rattle.merkle_proof.specs.Input.{digested}
use Rattle.merkle_root_theory.specs.Walk.{bytes_of}
use Rattle.merkle_verifier.specs.Inputs.{leaf_digests_at, located}

-- their leaf digests
pub digested-located : {D : Type 0} (h : Hashing D) (rule : List ℕ → List ℕ) (is : List ℕ) (parts : List (Bor (List ℕ)))
    → digested h rule (located is parts) ≡ located is (leaf_digests_at h rule is (bytes_of parts))
digested-located h rule [] parts = refl
digested-located h rule (i ∷ is) [] = refl
digested-located h rule (i ∷ is) (part ∷ parts) = ap (λ ls. (h.leaf (size rule i) part.now, i) ∷ ls) (digested-located h rule is parts)
