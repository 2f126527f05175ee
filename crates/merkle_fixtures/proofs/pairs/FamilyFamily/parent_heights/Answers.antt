use Rattle.std.proofs.Common.{ℕ, nat_eq, ◌%◌, cond, [], ◌∷◌, ap, sym, ◌∙◌}
use Rattle.merkle_fixtures.proofs.PairFacts.{pairs_parents}
use Rattle.merkle_fixtures.proofs.pairs.FamilyFamily.parent_heights.Goals as goal

pub returns : goal.returns
returns c = ap (λ (n : ℕ). cond (nat_eq (n % 2) 1) (1 ∷ []) []) c.as_u64.ensures ∙ sym (pairs_parents c.args.leaves)
