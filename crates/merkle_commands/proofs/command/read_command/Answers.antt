use Rattle.std.proofs.Common.{◌≡◌, [], ◌∷◌, List, ℕ, Some, Bor, arith}
use Rattle.std.proofs.lemmas.Str.Pattern.{IsSplitOnceResult, split_parts}
use Rattle.merkle_commands.specs.Commands.{joined}
use Rattle.merkle_commands.proofs.command.read_command.Goals as goal

-- a line that was cut at its first space is its two parts
cut_line : (line : List ℕ) (front back : Bor (List ℕ)) (name rest : List ℕ) → IsSplitOnceResult 32 line (Some (front, back))
    → front.now ≡ name → back.now ≡ rest → line ≡ joined (name ∷ rest ∷ [])
cut_line line front back name rest cut e f = let parts = split_parts 32 line (Some (front, back)) cut (omega arith) in cc (parts.0, e, f)

pub returns-in_ok-read_element-in-add-clause-spelled : goal.returns-in_ok-read_element-in-add-clause-spelled
returns-in_ok-read_element-in-add-clause-spelled c =
    cut_line c.args.line.now c.in_ok-name.name c.in_ok-name.rest _ _ c.in_ok-name.ensures.cases c.in-add.is c.in_ok-read_element-in-add.ensures.spelled

pub returns-in_ok-read_count-in-root-clause-spelled : goal.returns-in_ok-read_count-in-root-clause-spelled
returns-in_ok-read_count-in-root-clause-spelled c =
    cut_line c.args.line.now c.in_ok-name.name c.in_ok-name.rest _ _ c.in_ok-name.ensures.cases c.in-root.is c.in_ok-read_count-in-root.ensures.value

pub returns-in_ok-read_number-in-prune-clause-spelled : goal.returns-in_ok-read_number-in-prune-clause-spelled
returns-in_ok-read_number-in-prune-clause-spelled c =
    cut_line c.args.line.now c.in_ok-name.name c.in_ok-name.rest _ _ c.in_ok-name.ensures.cases c.in-prune.is c.in_ok-read_number-in-prune.ensures.value
