use Rattle.std.proofs.Common.{refl, sym, subst, inl, inr, ◌∙◌}
use Rattle.merkle_base.specs.Scheme.{scheme_of}
use Rattle.merkle_commands.specs.Commands.{IsCommand}
use Rattle.merkle_commands.specs.declared.command.Command.TheVariants.{Ask}
use Rattle.merkle_leaves.specs.Standard.{standard}
use Rattle.merkle_lines.specs.Answers.{IsRequestAnswered}
use Rattle.merkle_lines.specs.AnswerText.{answer_text}
use Rattle.merkle_lines.proofs.structure.Structure.answer.Goals as goal

pub returns-in-Prove-clause-answered : goal.returns-in-Prove-clause-answered
returns-in-Prove-clause-answered g c = λ given allowed held. (
  given,
  held,
  subst (λ r. IsRequestAnswered
      (scheme_of (standard g.H.PlainHasher.digest_of g.H.Digest.Digest.bytes g.H.Digest.PartialEq.eq g.H.Digest.Digest.EMPTY) c.args.self.now.hasher
      g.F.Family.rule g.F.Family.MAX_LEAVES g.F.Family.DOMAIN) g.H.Digest.Digest.SIZE g.H.Digest.Digest.Spells given r given
      (answer_text c.prove.result)) (sym c.in-Prove.is) (c.prove.ensures given held),
)

pub returns-in-Check-clause-answered : goal.returns-in-Check-clause-answered
returns-in-Check-clause-answered g c = λ given allowed held.
    let a = subst (λ r. IsCommand (Ask r)) c.in-Check.is allowed in
    let checked = c.check.ensures a.2.0 a.3.0 a.4 in (
      given,
      held,
      subst (λ r. IsRequestAnswered
          (scheme_of (standard g.H.PlainHasher.digest_of g.H.Digest.Digest.bytes g.H.Digest.PartialEq.eq g.H.Digest.Digest.EMPTY) c.args.self.now.hasher
          g.F.Family.rule g.F.Family.MAX_LEAVES g.F.Family.DOMAIN) g.H.Digest.Digest.SIZE g.H.Digest.Digest.Spells given r given
          (answer_text c.check.result)) (sym c.in-Check.is) (elim checked [ inl done ↦ inl (refl, done) | inr memory ↦ inr (refl, memory) ]),
    )

pub returns-in-Audit-clause-answered : goal.returns-in-Audit-clause-answered
returns-in-Audit-clause-answered g c = λ given allowed held.
    let a = subst (λ r. IsCommand (Ask r)) c.in-Audit.is allowed in
    let audited = c.audit.ensures given (c.deref.ensures.value ∙ held.listed) held.bounded a.2.0 a.3 in (
      given,
      held,
      subst (λ r. IsRequestAnswered
          (scheme_of (standard g.H.PlainHasher.digest_of g.H.Digest.Digest.bytes g.H.Digest.PartialEq.eq g.H.Digest.Digest.EMPTY) c.args.self.now.hasher
          g.F.Family.rule g.F.Family.MAX_LEAVES g.F.Family.DOMAIN) g.H.Digest.Digest.SIZE g.H.Digest.Digest.Spells given r given
          (answer_text c.audit.result)) (sym c.in-Audit.is) (elim audited [ inl done ↦ inl (refl, done) | inr memory ↦ inr (refl, memory) ]),
    )
