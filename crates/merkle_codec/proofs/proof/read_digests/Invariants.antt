use Rattle.std.proofs.Common.{◌≡◌, ◌-◌, ◌≤◌, ◌++◌, vec_len, vec_capacity}
use Rattle.std.specs.List.{flat_map}
use Rattle.merkle_codec.proofs.proof.read_digests.Given as goal

-- the digests so far and the bytes after them, with room for the other digests
abbrev pub invariant-loop-rest : goal.invariant-loop-rest
invariant-loop-rest g l = record {
  few : vec_len l.digests ≤ l.count;
  room : l.count ≤ vec_capacity l.digests;
  read : l.bytes ≡ flat_map g.D.Digest.bytes l.digests.items ++ l.rest;
}

abbrev pub decreases-loop-rest : goal.decreases-loop-rest
decreases-loop-rest g l = l.count - vec_len l.digests
