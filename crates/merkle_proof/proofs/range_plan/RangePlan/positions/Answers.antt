use Rattle.std.proofs.Common.{◌≡◌, ◌<◌, ◌≤◌, ◌∙◌, subst, rules}
use Rattle.merkle_scattered.specs.Positions.{range_positions}
use Rattle.merkle_proof.specs.RangePlans.{LeafRange}
use Rattle.merkle_proof.proofs.ReadPositions.{range_ascending}
use Rattle.merkle_proof.proofs.range_plan.RangePlan.positions.Goals as goal

pub returns-clause-ok : goal.returns-clause-ok
returns-clause-ok g c =
    let i = c.self.inside in
    let copied : c.in_ok-reads.reads.items ≡ i.reads.items = search rules in
    subst (λ (r : LeafRange). c.ascending.result.items ≡ range_positions g.F.Family.rule r.leaves r.start r.end) c.self.view_is
    (range_ascending g.F.Family.rule i.leaves i.range.start i.range.end _ _ (copied ∙ c.self.invariant.reads_are) c.ascending.ensures)

pub returns-clause-fits : goal.returns-clause-fits
returns-clause-fits g c =
    let i = c.self.invariant in
    subst (λ (r : LeafRange). (r.start < r.end) × (r.end ≤ r.leaves) × (r.leaves ≤ g.F.Family.MAX_LEAVES)) c.self.view_is (i.nonempty, i.within, i.within_max_leaves)
