use Rattle.merkle_verifier.specs.Answers.{IsScatteredDigestsAnswer}
use Rattle.merkle_verifier.proofs.Flags.{by_belt, by_range}
use Rattle.merkle_verifier.proofs.merkle_proved_verify_scattered_digests.Goals as goal

pub returns-then-is_belt : goal.returns-then-is_belt
returns-then-is_belt c =
    by_belt (λ s. IsScatteredDigestsAnswer s c.args.root.now c.args.proof.now c.args.locations.now c.args.digests.now
    c.check_scattered_digests.result) c.args.is_belt c.args.is_backward c.hasher_of-hasher.result c.hasher_of-hasher.ensures c.if-is_belt.true
    c.check_scattered_digests.ensures

pub returns : goal.returns
returns c =
    by_range (λ s. IsScatteredDigestsAnswer s c.args.root.now c.args.proof.now c.args.locations.now c.args.digests.now
    c.check_scattered_digests-else-is_belt.result) c.args.is_belt c.args.is_backward c.hasher_of-hasher.result c.hasher_of-hasher.ensures
    c.if-is_belt.false c.check_scattered_digests-else-is_belt.ensures
