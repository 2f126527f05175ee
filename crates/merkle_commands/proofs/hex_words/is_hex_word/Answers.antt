use Rattle.std.proofs.Common.{ap, sym, ◌∙◌}
use Rattle.std.proofs.lemmas.List.Sums.{AllPass-from_list_all, list_all-from_AllPass}
use Rattle.std.specs.List.{list_all}
use Rattle.hex.specs.Hex.{is_hex_digit}
use Rattle.merkle_commands.proofs.hex_words.is_hex_word.Goals as goal

pub returns-then-word-eq0 : goal.returns-then-word-eq0
returns-then-word-eq0 c =
    let told = c.are_digits.ensures ∙ ap (list_all is_hex_digit) c.as_bytes.ensures.value in (
      λ yes. (c.if-word-eq0.true, AllPass-from_list_all is_hex_digit c.args.word.now (sym told ∙ yes)),
      λ digits. told ∙ list_all-from_AllPass is_hex_digit c.args.word.now digits.1,
    )
