use Rattle.std.proofs.Common.{◌≡◌, take}
use Rattle.merkle_digest.specs.Bytes.{joined_parts}
use Rattle.merkle_digest.specs.DigestLaws.{xor_of}
use Rattle.merkle_digest.proofs.digest.Xor8PlainHasher.hash.Given as goal

abbrev pub invariant-loop-part : goal.invariant-loop-part
invariant-loop-part l = l.byte ≡ xor_of (joined_parts (take l.part-index l.parts))
