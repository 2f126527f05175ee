use Rattle.std.proofs.Common.{◌≡◌, ◌++◌, drop}
use Rattle.merkle_base.specs.Hashing.{Hashing}
use Rattle.merkle_store_theory.specs.StoreProof.{found_at, first_lacking}
use Rattle.merkle_verification.specs.PairReads.{read_all}
use Rattle.merkle_verification.proofs.store_reads.read_each.Given as goal

abbrev pub invariant-loop-position : goal.invariant-loop-position
invariant-loop-position g l =
    (first_lacking (found_at l.pairs) l.positions ≡ first_lacking (found_at l.pairs) (drop l.position-index l.positions))
    × ((h : Hashing g.row.D.Denot) → l.out.items ++ read_all h l.pairs (drop l.position-index l.positions) ≡ l.fn.out.items ++ read_all h l.pairs l.positions)
