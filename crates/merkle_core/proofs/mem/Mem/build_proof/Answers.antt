use Rattle.std.proofs.Common.{rules, ◌≡◌}
use Rattle.std.proofs.lemmas.Result.{IfErr-weaker}
use Rattle.std.specs.FinMap.{get}
use Rattle.merkle_batch_theory.specs.MemModel.{contents}
use Rattle.merkle_core.proofs.HonestReads.{answers_list}
use Rattle.merkle_proof.proofs.RefusedProofs.{refused_by}
use Rattle.merkle_core.proofs.mem.Mem.build_proof.Goals as goal

pub returns-clause-built : goal.returns-clause-built
returns-clause-built g c = c.build.ensures.built (get c.args.self.now.stored) (λ p r answered. search rules)

pub returns-clause-honest : goal.returns-clause-honest
returns-clause-honest g c = λ X long agrees. c.build.ensures.honest X long
    (λ p t d at answered. answers_list (g.H.Hasher.hashing c.args.hasher.now) g.F.Family.rule (contents c.args.self.now) X agrees p t d at (search rules))

pub returns-clause-err : goal.returns-clause-err
returns-clause-err g c = IfErr-weaker c.build.result _ _
    (λ e refused other. refused_by (g.H.Hasher.bagging_of c.args.hasher.now) g.F.Family.rule c.args.plan c.args.inactive _
    (λ p r. r ≡ get c.args.self.now.stored p) e (refused other) (λ p r answered. search rules)) c.build.ensures.err
