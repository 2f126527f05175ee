use Rattle.std.proofs.Common.{◌≡◌, ◌++◌, drop}
use Rattle.std.specs.Option.{option_to_list}
use Rattle.merkle_base.specs.Root.{folded}
use Rattle.merkle_base.specs.declared.family.Bagging.TheVariants.{ForwardFold}
use Rattle.merkle_store_theory.specs.StoreProof.{found_at, first_lacking}
use Rattle.merkle_verification.specs.PairReads.{read_all}
use Rattle.merkle_verification.proofs.store_reads.fold_onto.Given as goal

abbrev pub invariant-loop-position : goal.invariant-loop-position
invariant-loop-position g l =
    let h = g.H.Hasher.hashing l.hasher in
    (first_lacking (found_at l.pairs) l.positions ≡ first_lacking (found_at l.pairs) (drop l.position-index l.positions))
    × (folded h.fold ForwardFold 0 (option_to_list l.folded ++ read_all h l.pairs (drop l.position-index l.positions))
    ≡ folded h.fold ForwardFold 0 (option_to_list l.fn.first ++ read_all h l.pairs l.positions))
