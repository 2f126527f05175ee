use Rattle.std.proofs.Common.{◌≡◌, ◌+◌, ◌*◌, ◌≤◌, ◌++◌, take, vec_len, vec_capacity}
use Rattle.std.specs.List.{flat_map}
use Rattle.merkle_codec.proofs.proof.write_digests.Given as goal

-- the bytes of the digests so far are appended
abbrev pub invariant-loop-digest : goal.invariant-loop-digest
invariant-loop-digest g l = record {
  items : l.out.items ≡ l.fn.out.items ++ flat_map g.D.Digest.bytes (take l.digest-index l.digests);
  len : vec_len l.out ≡ vec_len l.fn.out + l.digest-index * g.D.Digest.SIZE;
  room : vec_capacity l.fn.out ≤ vec_capacity l.out;
}
