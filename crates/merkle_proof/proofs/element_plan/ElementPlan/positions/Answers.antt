use Rattle.std.proofs.Common.{◌≡◌, ◌<◌, ◌≤◌, IfOk, arith, ap, length, ◌∙◌, subst, sym}
use Rattle.std.proofs.lemmas.Result.{IfOk-weaker}
use Rattle.merkle_proof.specs.ElementPlans.{leaf_range}
use Rattle.merkle_scattered.specs.Positions.{range_positions}
use Rattle.merkle_proof.specs.RangePlans.{LeafRange}
use Rattle.merkle_proof.proofs.FewDigests.{leaf_positions_few}
use Rattle.merkle_proof.proofs.element_plan.ElementPlan.positions.Goals as goal

pub returns-clause-ok : goal.returns-clause-ok
returns-clause-ok g c = subst (λ (r : LeafRange). IfOk c.positions.result (λ v. v.items ≡ range_positions g.F.Family.rule r.leaves r.start r.end))
    (c.self.invariant ∙ ap leaf_range c.self.view_is) c.positions.ensures.ok

pub returns-clause-at_most_122 : goal.returns-clause-at_most_122
returns-clause-at_most_122 g c = λ few.
    let fits = subst (λ (r : LeafRange). (r.start < r.end) × (r.end ≤ r.leaves) × (r.leaves ≤ g.F.Family.MAX_LEAVES)) (c.self.invariant ∙ ap leaf_range c.self.view_is) c.positions.ensures.fits in
    IfOk-weaker c.positions.result _ _ (λ v is. subst (λ ps. length ps ≤ 122) (sym is)
    (leaf_positions_few g.F.Family.rule g.F.Family.MAX_LEAVES g.F.Family.MAX_NODES _ _ g.met.F.Family.lawful few fits.2 (omega (arith, fits.1)))) (returns-clause-ok g c)
