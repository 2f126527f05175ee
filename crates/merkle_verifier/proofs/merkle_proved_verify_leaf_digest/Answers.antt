use Rattle.merkle_verifier.specs.Answers.{IsLeafDigestAnswer}
use Rattle.merkle_verifier.proofs.Flags.{by_belt, by_range}
use Rattle.merkle_verifier.proofs.merkle_proved_verify_leaf_digest.Goals as goal

pub returns-then-is_belt : goal.returns-then-is_belt
returns-then-is_belt c =
    by_belt (λ s. IsLeafDigestAnswer s c.args.root.now c.args.proof.now c.args.location c.args.digest.now c.check_leaf_digest.result) c.args.is_belt
    c.args.is_backward c.hasher_of-hasher.result c.hasher_of-hasher.ensures c.if-is_belt.true c.check_leaf_digest.ensures

pub returns : goal.returns
returns c =
    by_range (λ s. IsLeafDigestAnswer s c.args.root.now c.args.proof.now c.args.location c.args.digest.now c.check_leaf_digest-else-is_belt.result)
    c.args.is_belt c.args.is_backward c.hasher_of-hasher.result c.hasher_of-hasher.ensures c.if-is_belt.false c.check_leaf_digest-else-is_belt.ensures
