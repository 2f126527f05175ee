use Rattle.std.proofs.Common.{arith, ap, sym, ◌∙◌}
use Rattle.merkle_fixtures.specs.Pairs.{pairs_from}
use Rattle.merkle_fixtures.proofs.PairFacts.{pairs_size, pairs_peaks}
use Rattle.merkle_fixtures.proofs.pairs.FamilyFamily.peaks.Goals as goal

pub invariant_of-result : goal.invariant_of-result
invariant_of-result c = let k = c.requires in (omega (arith, c.as_u64.ensures, pairs_size k.0, k.1, k.2), tt)

pub returns : goal.returns
returns c = λ n l e. ap (pairs_from 0) (c.as_u64.ensures ∙ sym e) ∙ sym (pairs_peaks n)
