use Rattle.merkle_verifier.specs.Answers.{IsRangeDigestsAnswer}
use Rattle.merkle_verifier.proofs.Flags.{by_belt, by_range}
use Rattle.merkle_verifier.proofs.merkle_proved_verify_range_digests.Goals as goal

pub returns-then-is_belt : goal.returns-then-is_belt
returns-then-is_belt c =
    by_belt (λ s. IsRangeDigestsAnswer s c.args.root.now c.args.proof.now c.args.start c.args.digests.now c.check_range_digests.result) c.args.is_belt
    c.args.is_backward c.hasher_of-hasher.result c.hasher_of-hasher.ensures c.if-is_belt.true c.check_range_digests.ensures

pub returns : goal.returns
returns c =
    by_range (λ s. IsRangeDigestsAnswer s c.args.root.now c.args.proof.now c.args.start c.args.digests.now c.check_range_digests-else-is_belt.result)
    c.args.is_belt c.args.is_backward c.hasher_of-hasher.result c.hasher_of-hasher.ensures c.if-is_belt.false c.check_range_digests-else-is_belt.ensures
