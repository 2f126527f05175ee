use Rattle.std.proofs.Common.{◌≡◌, ◌+◌, ◌++◌, length, map}
use Rattle.std.specs.List.{AllByRecursion}
use Rattle.std.specs.Option.{option_map_or}
use Rattle.merkle_commands.specs.Commands.{IsElementWord, optional_words}
use Rattle.merkle_lines.specs.Answers.{word_bytes}
use Rattle.merkle_lines.proofs.checking.read_elements.Given as goal

abbrev pub invariant-loop-rest : goal.invariant-loop-rest
invariant-loop-rest l =
    AllByRecursion IsElementWord (optional_words l.fn.words) → AllByRecursion IsElementWord (optional_words l.rest)
    × (map word_bytes (optional_words l.fn.words) ≡ map (λ bytes. bytes.items) l.all.items ++ map word_bytes (optional_words l.rest))

abbrev pub decreases-loop-rest : goal.decreases-loop-rest
decreases-loop-rest l = option_map_or (λ row. length row.now + 1) l.rest 0
