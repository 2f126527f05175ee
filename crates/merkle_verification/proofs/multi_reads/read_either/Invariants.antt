use Rattle.std.proofs.Common.{◌≡◌, ◌++◌, Some, drop, map}
use Rattle.merkle_store_theory.specs.StoreProof.{first_lacking}
use Rattle.merkle_verification.specs.StoreMulti.{either_at}
use Rattle.merkle_verification.proofs.multi_reads.read_either.Given as goal

abbrev pub invariant-loop-position : goal.invariant-loop-position
invariant-loop-position g l =
    let node = either_at l.first l.second in
    (first_lacking node l.positions ≡ first_lacking node (drop l.position-index l.positions))
    × (map Some l.digests.items ++ map node (drop l.position-index l.positions) ≡ map node l.positions)
