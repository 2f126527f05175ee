use Rattle.std.proofs.Common.{refl, subst}
use Rattle.merkle_commands.specs.declared.command.FamilyName.TheVariants.{Mmr, Mmb}
use Rattle.merkle_commands.specs.declared.command.HashName.TheVariants.{Sha256, Xor8}
use Rattle.merkle_lines.specs.AnswerText.{answer_text}
use Rattle.merkle_commands.specs.Commands.{IsCommand}
use Rattle.merkle_lines.specs.HoldsState.{HoldsState}
use Rattle.merkle_lines.proofs.Dispatched.{dispatched}
use Rattle.merkle_lines.proofs.session.Session.answer.Goals as goal

pub returns-in-MmrSha256 : goal.returns-in-MmrSha256
returns-in-MmrSha256 c = λ allowed told tells.
    let s = c.in-MmrSha256.structure in
    let was = subst (λ x. HoldsState x told) c.in-MmrSha256.is tells in
    let now = c.answer.ensures.answered was.0 (subst IsCommand c.in-Ask.is allowed) was.2 in (
      _,
      (now.0, refl, now.1),
      dispatched Mmr Sha256 s.hasher c.answer.new.self.hasher was.0 now.0 told c.args.command c.in-Ask.request
          (answer_text c.answer.result) was.1 c.in-Ask.is c.answer.ensures.kind now.2,
    )

pub returns-in-MmrXor8 : goal.returns-in-MmrXor8
returns-in-MmrXor8 c = λ allowed told tells.
    let s = c.in-MmrXor8.structure in
    let was = subst (λ x. HoldsState x told) c.in-MmrXor8.is tells in
    let now = c.answer-in-MmrXor8.ensures.answered was.0 (subst IsCommand c.in-Ask.is allowed) was.2 in (
      _,
      (now.0, refl, now.1),
      dispatched Mmr Xor8 s.hasher c.answer-in-MmrXor8.new.self.hasher was.0 now.0 told c.args.command c.in-Ask.request
          (answer_text c.answer-in-MmrXor8.result) was.1 c.in-Ask.is c.answer-in-MmrXor8.ensures.kind now.2,
    )

pub returns-in-MmbSha256 : goal.returns-in-MmbSha256
returns-in-MmbSha256 c = λ allowed told tells.
    let s = c.in-MmbSha256.structure in
    let was = subst (λ x. HoldsState x told) c.in-MmbSha256.is tells in
    let now = c.answer-in-MmbSha256.ensures.answered was.0 (subst IsCommand c.in-Ask.is allowed) was.2 in (
      _,
      (now.0, refl, now.1),
      dispatched Mmb Sha256 s.hasher c.answer-in-MmbSha256.new.self.hasher was.0 now.0 told c.args.command c.in-Ask.request
          (answer_text c.answer-in-MmbSha256.result) was.1 c.in-Ask.is c.answer-in-MmbSha256.ensures.kind now.2,
    )

pub returns-in-MmbXor8 : goal.returns-in-MmbXor8
returns-in-MmbXor8 c = λ allowed told tells.
    let s = c.in-MmbXor8.structure in
    let was = subst (λ x. HoldsState x told) c.in-MmbXor8.is tells in
    let now = c.answer-in-MmbXor8.ensures.answered was.0 (subst IsCommand c.in-Ask.is allowed) was.2 in (
      _,
      (now.0, refl, now.1),
      dispatched Mmb Xor8 s.hasher c.answer-in-MmbXor8.new.self.hasher was.0 now.0 told c.args.command c.in-Ask.request
          (answer_text c.answer-in-MmbXor8.result) was.1 c.in-Ask.is c.answer-in-MmbXor8.ensures.kind now.2,
    )
