use Rattle.std.proofs.Common.{inr, refl, subst}
use Rattle.std.specs.Str.{IsUtf8}
use Rattle.merkle_commands.proofs.AsciiLines.{no_command}
use Rattle.merkle_lines.proofs.run.Answerer.answer_line.Goals as goal

pub returns-in_default-clause-answered : goal.returns-in_default-clause-answered
returns-in_default-clause-answered c =
    λ told tells. (
      told,
      tells,
      inr
          (no_command c.args.self.now.line.items (subst (λ bytes. ¬ (IsUtf8 bytes)) c.as_slice.ensures.value c.in_default.ensures.cases.0), refl, refl),
    )
