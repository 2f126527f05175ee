-- The answer of a session is that of its structure.
use Rattle.std.proofs.Common.{◌≡◌, ℕ, List, Option, Some, sym, ap, subst}
use Rattle.merkle_base.specs.declared.family.Bagging.{Bagging}
use Rattle.merkle_commands.specs.declared.command.Command.{Command}
use Rattle.merkle_commands.specs.declared.command.Command.TheVariants.{Ask}
use Rattle.merkle_commands.specs.declared.command.FamilyName.{FamilyName}
use Rattle.merkle_commands.specs.declared.command.HashName.{HashName}
use Rattle.merkle_commands.specs.declared.command.Request.{Request}
use Rattle.merkle_lines.specs.StructureState.{StructureState}
use Rattle.merkle_lines.specs.Transcript.{SessionState, IsCommandAnswered, IsNamedAnswered}

pub dispatched : (family : FamilyName) (hash : HashName) (b c : Bagging) (g u : StructureState) (told : Option SessionState) (command : Command) (request : Request) (text : List ℕ)
    → told ≡ Some (record { family = family; bagging = b; hash = hash; structure = g }) → command ≡ Ask request → c ≡ b → IsNamedAnswered family b hash g request u text
    → IsCommandAnswered told command (Some (record { family = family; bagging = c; hash = hash; structure = u })) text
dispatched family hash b c g u told command request text t k same answered =
    subst (λ x. IsCommandAnswered x command (Some (record { family = family; bagging = c; hash = hash; structure = u })) text) (sym t)
    (subst (λ x. IsCommandAnswered (Some (record { family = family; bagging = b; hash = hash; structure = g })) x
    (Some (record { family = family; bagging = c; hash = hash; structure = u })) text) (sym k)
    (u, ap (λ x. Some (record { family = family; bagging = x; hash = hash; structure = u })) same, answered))
