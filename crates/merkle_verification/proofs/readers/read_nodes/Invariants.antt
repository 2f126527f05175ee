use Rattle.std.proofs.Common.{◌≡◌, map, take, Some}
use Rattle.merkle_verification.proofs.readers.read_nodes.Given as goal

abbrev pub invariant-loop-position : goal.invariant-loop-position
invariant-loop-position g l = map Some l.digests.items ≡ map (g.R.Readable.node l.reader) (take l.position-index l.positions)
