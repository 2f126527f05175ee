use Rattle.std.proofs.Common.{rules, ◌≡◌, ◌<◌, ◌≤◌, length, arith, ap, sym, ◌∙◌, subst}
use Rattle.merkle_base.proofs.Nodes.{size_inj}
use Rattle.merkle_batch_theory.specs.Contents.{Agrees}
use Rattle.merkle_batch_theory.specs.MemModel.{contents}
use Rattle.merkle_batch_theory.proofs.Agreed.{agree_pruned}
use Rattle.merkle_core.proofs.mem.Mem.prune.Goals as goal

pub returns-then-gt-clause-allowed : goal.returns-then-gt-clause-allowed
returns-then-gt-clause-allowed g c = λ below.
    let above : c.self.inside.leaves < c.args.location = search rules in
    absurd (omega (arith, above, ap (λ s. s.leaves) c.self.view_is, below))

pub prune_to-requires : goal.prune_to-requires
prune_to-requires g c =
    let upto : c.args.location ≤ c.self.inside.leaves = search rules in
    omega (arith, upto, ap (λ s. s.leaves) c.self.view_is)

pub returns-in_err-prune_to-clause-refused : goal.returns-in_err-prune_to-clause-refused
returns-in_err-prune_to-clause-refused g c = λ above.
    let upto : c.args.location ≤ c.self.inside.leaves = search rules in
    absurd (omega (arith, upto, ap (λ s. s.leaves) c.self.view_is, above))

pub returns-clause-refused : goal.returns-clause-refused
returns-clause-refused g c = λ above.
    let upto : c.args.location ≤ c.self.inside.leaves = search rules in
    absurd (omega (arith, upto, ap (λ s. s.leaves) c.self.view_is, above))

pub returns-clause-agrees : goal.returns-clause-agrees
returns-clause-agrees g c = λ h X agrees.
    let rule = g.F.Family.rule in
    let i = c.self.inside in
    let upto : c.args.location ≤ i.leaves = search rules in
    let leaves : i.leaves ≡ length X = size_inj rule i.leaves (length X) (c.self.invariant.counted.sized ∙ ap (λ s. s.size) c.self.view_is ∙ agrees.sized) in
    subst (λ d. Agrees h rule d X) (sym c.in_ok-prune_to.ensures.pruned) (agree_pruned h rule c.args.location X (contents c.args.self.now) (omega (arith, upto, leaves)) agrees)
