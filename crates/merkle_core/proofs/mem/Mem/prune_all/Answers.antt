use Rattle.std.proofs.Common.{◌≡◌, length, arith, ap, sym, ◌∙◌, subst}
use Rattle.merkle_base.proofs.Nodes.{size_inj}
use Rattle.merkle_batch_theory.specs.Contents.{Agrees, pruned}
use Rattle.merkle_batch_theory.specs.MemModel.{contents}
use Rattle.merkle_batch_theory.proofs.Agreed.{agree_pruned}
use Rattle.merkle_core.proofs.mem.Mem.prune_all.Goals as goal

pub returns-clause-pruned : goal.returns-clause-pruned
returns-clause-pruned g c = c.in_ok-prune_to.ensures.pruned ∙ ap (λ s. pruned g.F.Family.rule s.leaves (contents c.args.self.now)) c.prune_to.view_is

pub returns-clause-agrees : goal.returns-clause-agrees
returns-clause-agrees g c = λ h X agrees.
    let rule = g.F.Family.rule in
    let i = c.prune_to.inside in
    let leaves : i.leaves ≡ length X = size_inj rule i.leaves (length X) (c.prune_to.invariant.counted.sized ∙ ap (λ s. s.size) c.prune_to.view_is ∙ agrees.sized) in
    subst (λ d. Agrees h rule d X) (sym c.in_ok-prune_to.ensures.pruned) (agree_pruned h rule i.leaves X (contents c.args.self.now) (omega (arith, leaves)) agrees)
