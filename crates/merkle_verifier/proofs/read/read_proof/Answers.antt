use Rattle.std.proofs.Common.{subst}
use Rattle.merkle_verifier.specs.Unread.{IsRefused}
use Rattle.merkle_verifier.proofs.Spelled.{never_too_many}
use Rattle.merkle_verifier.proofs.read.read_proof.Goals as goal

pub returns-in-EndOfBuffer-clause-err : goal.returns-in-EndOfBuffer-clause-err
returns-in-EndOfBuffer-clause-err g c = subst (IsRefused g.F.Family.MAX_LEAVES c.args.bytes.now) c.in-EndOfBuffer.is c.in-Err.ensures.refused

pub returns-in-Invalid-clause-err : goal.returns-in-Invalid-clause-err
returns-in-Invalid-clause-err g c = subst (IsRefused g.F.Family.MAX_LEAVES c.args.bytes.now) c.in-Invalid.is c.in-Err.ensures.refused

pub returns-in-OutOfMemory-clause-err : goal.returns-in-OutOfMemory-clause-err
returns-in-OutOfMemory-clause-err g c = subst (IsRefused g.F.Family.MAX_LEAVES c.args.bytes.now) c.in-OutOfMemory.is c.in-Err.ensures.refused

pub unreachable-requires : goal.unreachable-requires
unreachable-requires g c =
    never_too_many g.F.Family.MAX_LEAVES c.args.bytes.now (subst (IsRefused g.F.Family.MAX_LEAVES c.args.bytes.now) c.in-TooMany.is c.in-Err.ensures.refused)
