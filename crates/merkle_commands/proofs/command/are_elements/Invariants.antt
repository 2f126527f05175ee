use Rattle.std.proofs.Common.{◌+◌, length}
use Rattle.std.specs.Prelude.{◌↔◌}
use Rattle.std.specs.List.{AllByRecursion}
use Rattle.std.specs.Option.{option_map_or}
use Rattle.merkle_commands.specs.Commands.{IsElementWord, optional_words, words_in}
use Rattle.merkle_commands.proofs.command.are_elements.Given as goal

abbrev pub invariant-loop-rest : goal.invariant-loop-rest
invariant-loop-rest l = AllByRecursion IsElementWord (optional_words l.rest) ↔ AllByRecursion IsElementWord (words_in l.fn.words)

abbrev pub decreases-loop-rest : goal.decreases-loop-rest
decreases-loop-rest l = option_map_or (λ row. length row.now + 1) l.rest 0
