use Rattle.std.proofs.Common.{◌≡◌, ◌∙◌, map, subst}
use Rattle.merkle_base.specs.Tree.{position}
use Rattle.merkle_root_theory.specs.Reads.{nodes_read}
use Rattle.merkle_proof.specs.RangePlans.{LeafRange}
use Rattle.merkle_proof.proofs.range_plan.RangePlan.reads.Goals as goal

pub returns : goal.returns
returns g c = c.deref.ensures.value ∙ subst (λ (r : LeafRange). c.self.inside.reads.items ≡ map position (nodes_read g.F.Family.rule r.leaves r.start r.end)) c.self.view_is c.self.invariant.reads_are
