use Rattle.std.proofs.Common.{rules, ◌≡◌}
use Rattle.std.proofs.lemmas.Result.{IfErr-weaker}
use Rattle.merkle_batch_theory.specs.Read.{read_over}
use Rattle.merkle_batch_theory.specs.Records.{records}
use Rattle.merkle_batch_theory.specs.History.{last_list}
use Rattle.merkle_batch.proofs.BatchReads.{read_answers}
use Rattle.merkle_proof.proofs.RefusedProofs.{refused_by}
use Rattle.merkle_batch.proofs.merkleized.MerkleizedBatch.build_proof.Goals as goal

pub returns-clause-built : goal.returns-clause-built
returns-clause-built g c = c.build.ensures.built (read_over (records c.args.self.now) (g.B.Base.contents c.args.base.now)) (λ p r answered. search rules)

pub returns-clause-honest : goal.returns-clause-honest
returns-clause-honest g c = λ ls long stands agrees. c.build.ensures.honest (last_list ls) long
    (λ p t d at answered. read_answers (g.H.Hasher.hashing c.args.hasher.now) g.F.Family.rule (records c.args.self.now)
    (g.B.Base.contents c.args.base.now) ls stands agrees p t d at (search rules))

pub returns-clause-err : goal.returns-clause-err
returns-clause-err g c = IfErr-weaker c.build.result _ _
    (λ e refused other. refused_by (g.H.Hasher.bagging_of c.args.hasher.now) g.F.Family.rule c.args.plan c.args.inactive _
    (λ p r. r ≡ read_over (records c.args.self.now) (g.B.Base.contents c.args.base.now) p) e (refused other) (λ p r answered. search rules)) c.build.ensures.err
