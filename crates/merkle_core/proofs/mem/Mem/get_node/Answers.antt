use Rattle.std.proofs.Common.{ap, ◌∙◌}
use Rattle.std.specs.Prelude.{is_some, nat_lt, ◌&&◌}
use Rattle.merkle_batch_theory.specs.Contents.{is_kept}
use Rattle.std.specs.FinMap.{get}
use Rattle.merkle_core.proofs.mem.Mem.get_node.Goals as goal

pub returns-clause-node : goal.returns-clause-node
returns-clause-node g c = c.get.ensures ∙ ap (λ s. get s.stored c.args.position) c.self.view_is

pub returns-clause-held : goal.returns-clause-held
returns-clause-held g c =
    let p = c.args.position in
    ap is_some c.get.ensures ∙ c.self.invariant.holds p ∙ ap (λ s. nat_lt p s.size && is_kept g.F.Family.rule s.boundary p) c.self.view_is
