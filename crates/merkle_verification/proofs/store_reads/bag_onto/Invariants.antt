use Rattle.std.proofs.Common.{◌≡◌, ◌≤◌, ◌++◌, length, drop, take, reverse}
use Rattle.std.specs.Option.{option_to_list}
use Rattle.merkle_base.specs.Root.{right_fold}
use Rattle.merkle_store_theory.specs.StoreProof.{found_at, first_lacking}
use Rattle.merkle_verification.specs.PairReads.{read_all}
use Rattle.merkle_verification.proofs.store_reads.bag_onto.Given as goal

abbrev pub invariant-loop-index : goal.invariant-loop-index
invariant-loop-index g l =
    let h = g.H.Hasher.hashing l.hasher in
    (l.index ≤ length l.positions)
    × (first_lacking (found_at l.pairs) (reverse l.positions) ≡ first_lacking (found_at l.pairs) (reverse (take l.index l.positions)))
    × (l.bagged ≡ right_fold h.fold (read_all h l.pairs (drop l.index l.positions) ++ option_to_list l.fn.last))

abbrev pub decreases-loop-index : goal.decreases-loop-index
decreases-loop-index g l = l.index
