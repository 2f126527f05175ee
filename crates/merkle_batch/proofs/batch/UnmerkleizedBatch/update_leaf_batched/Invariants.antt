use Rattle.std.proofs.Common.{◌≡◌, None, drop}
use Rattle.merkle_batch_theory.specs.Unmerkleized.{first_error, with_updates, leaf_total}
use Rattle.merkle_batch.proofs.batch.UnmerkleizedBatch.update_leaf_batched.Given as goal

-- the locations that are left have the first error of all
abbrev pub invariant-loop-location : goal.invariant-loop-location
invariant-loop-location g l = first_error {F = g.row.F.Denot} g.F.Family.rule l.fn.self l.updates ≡ first_error g.F.Family.rule l.fn.self (drop l.location-index l.updates)

-- what is left gives what all of them give
abbrev pub invariant-loop-location-2 : goal.invariant-loop-location-2
invariant-loop-location-2 g l =
    (with_updates g.F.Family.rule l.fn.self l.updates ≡ with_updates g.F.Family.rule l.self (drop l.location-index l.updates))
    × (first_error {F = g.row.F.Denot} g.F.Family.rule l.fn.self (drop l.location-index l.updates) ≡ None)
    × (leaf_total l.self ≡ leaf_total l.fn.self)
    × (l.self.parent ≡ l.fn.self.parent)
