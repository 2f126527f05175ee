use Rattle.std.proofs.Common.{◌≡◌, ℕ, ◌≤◌, ◌<◌, Some, arith, sym, ap, ◌∙◌}
use Rattle.merkle_base.specs.declared.error.Error.TheVariants.{ElementPruned}
use Rattle.merkle_hasher.proofs.Comparisons.{ge_yes, ge_no, lt_yes}
use Rattle.merkle_batch_theory.proofs.PendingUpdates.{out_of_bounds, pruned_error}
use Rattle.merkle_batch.proofs.batch.UnmerkleizedBatch.check_update.Goals as goal

pub returns-then-ge-clause-err : goal.returns-then-ge-clause-err
returns-then-ge-clause-err g c =
    let past : c.leaves.result ≤ c.args.location = ge_yes c.args.location c.leaves.result (sym c.ge.ensures ∙ c.if-ge.true) in
    out_of_bounds g.F.Family.rule c.args.self.now c.args.location (omega (arith, past, c.leaves.ensures.count))

pub returns-then-lt-clause-err : goal.returns-then-lt-clause-err
returns-then-lt-clause-err g c =
    let rule = g.F.Family.rule in
    let less : c.args.location < c.leaves.result = ge_no c.args.location c.leaves.result (sym c.ge.ensures ∙ c.if-ge.false) in
    let below : c.args.location < c.pruning_boundary.result = lt_yes c.args.location c.pruning_boundary.result (sym c.lt.ensures ∙ c.if-lt.true) in
    let boundary : c.pruning_boundary.result ≡ c.args.self.now.parent.boundary = c.pruning_boundary.ensures ∙ ap (λ b. b.boundary) c.deref.ensures ∙ ap (λ p. p.parent.boundary) c.self.view_is in
    pruned_error rule c.args.self.now c.args.location (omega (arith, less, c.leaves.ensures.count)) (omega (arith, below, boundary))
    ∙ ap (λ (n : ℕ). Some (ElementPruned n)) (sym c.location_to_position.ensures)
