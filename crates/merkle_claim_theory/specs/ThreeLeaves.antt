-- Three leaves over exclusive or: a wrong proof that is accepted, and where it collides.
use Rattle.std.specs.Prelude.{◌≡◌, ℕ, [], ◌∷◌, bit_xor, Some, nat_eq, get_or, nat_lt}
use Rattle.merkle_root_theory.specs.Expression.{Pair, PrefixFold, inputs}
use Rattle.merkle_base.specs.Hashing.{Hashing}
use Rattle.merkle_base.specs.Tree.{leaf, join}
use Rattle.merkle_root_theory.specs.Plan.{Plan, plan_expression, peak, honest_digests, left_fold_plan}
use Rattle.merkle_root_theory.specs.Claim.{claim_of}
use Rattle.merkle_claim_theory.specs.FirstCollision.{first_collision}

-- a toy hash: the exclusive or of what is hashed
abbrev pub xor_hashing : Hashing ℕ
xor_hashing = record {
  leaf = λ p e. 0;
  node = λ p l r. bit_xor p (bit_xor l r);
  fold = λ a b. bit_xor a b;
  hash = λ bs. 0;
  bytes = λ d. d ∷ [];
  same = nat_eq;
  empty = 0;
}

-- the leaf digests 1, 3 and 7
abbrev pub three : ℕ → ℕ
three i = get_or (1 ∷ 3 ∷ 7 ∷ []) i 0

-- the plan of three leaves: their two peaks, folded left to right
abbrev pub plan_of_three : Plan
plan_of_three = left_fold_plan (peak (join 2 (leaf 0 0) (leaf 1 1))) 1 (leaf 3 2 ∷ [])

-- the honest digests that prove the first of the leaves 1, 3 and 7, and the first collision of a proof that swaps them
abbrev pub ThreeLeaves : Type 0
ThreeLeaves = record {
  honest : honest_digests xor_hashing three (λ i. nat_lt i 1) plan_of_three ≡ 7 ∷ 3 ∷ [];
  first : first_collision xor_hashing
      (inputs xor_hashing (claim_of xor_hashing (λ i. nat_lt i 1) three plan_of_three (3 ∷ 7 ∷ [])))
      (inputs xor_hashing (plan_expression three plan_of_three))
      ≡ Some (record { place = PrefixFold 1; claimed = Pair 4 3; listed = Pair 0 7 });
}
