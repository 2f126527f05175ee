use Rattle.merkle_verifier.specs.Answers.{IsScatteredAnswer}
use Rattle.merkle_verifier.proofs.Flags.{by_belt, by_range}
use Rattle.merkle_verifier.proofs.merkle_proved_verify_scattered.Goals as goal

pub returns-then-is_belt : goal.returns-then-is_belt
returns-then-is_belt c =
    by_belt (λ s. IsScatteredAnswer s c.args.root.now c.args.proof.now c.args.locations.now c.args.elements.now c.args.lengths.now
    c.check_scattered.result) c.args.is_belt c.args.is_backward c.hasher_of-hasher.result c.hasher_of-hasher.ensures c.if-is_belt.true c.check_scattered.ensures

pub returns : goal.returns
returns c =
    by_range (λ s. IsScatteredAnswer s c.args.root.now c.args.proof.now c.args.locations.now c.args.elements.now c.args.lengths.now
    c.check_scattered-else-is_belt.result) c.args.is_belt c.args.is_backward c.hasher_of-hasher.result c.hasher_of-hasher.ensures
    c.if-is_belt.false c.check_scattered-else-is_belt.ensures
