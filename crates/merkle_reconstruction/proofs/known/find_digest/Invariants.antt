use Rattle.std.proofs.Common.{◌≡◌, drop}
use Rattle.merkle_base.specs.Table.{digest_for}
use Rattle.merkle_reconstruction.proofs.known.find_digest.Given as goal

abbrev pub invariant-loop-listed : goal.invariant-loop-listed
invariant-loop-listed g l = digest_for l.positions l.digests l.position ≡ digest_for (drop l.listed-index l.positions) l.rest l.position
