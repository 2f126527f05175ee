use Rattle.std.proofs.Common.{rules, ◌≡◌}
use Rattle.std.proofs.lemmas.Result.{IfErr-weaker}
use Rattle.merkle_base.specs.Table.{digest_for}
use Rattle.merkle_proof.proofs.RefusedProofs.{refused_by}
use Rattle.merkle_verification.proofs.readers.build_proof.Goals as goal

pub returns-clause-honest : goal.returns-clause-honest
returns-clause-honest g c = λ xs long answers. c.build.ensures.honest xs long (λ p t d at answered. answers p t d at (search rules))

pub returns-clause-err : goal.returns-clause-err
returns-clause-err g c =
    let told = digest_for c.args.positions.now c.args.digests.now in
    IfErr-weaker c.build.result _ _
    (λ e refused other. refused_by (g.H.Hasher.bagging_of c.args.hasher.now) g.F.Family.rule c.args.plan c.args.inactive _ (λ p r. r ≡ told p) e
    (refused other) (λ p r answered. search rules)) c.build.ensures.err
