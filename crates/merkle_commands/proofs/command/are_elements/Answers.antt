use Rattle.std.proofs.Common.{◌≡◌, ◌∷◌, None, Some, ap, rules, subst, ◌∙◌}
use Rattle.std.specs.List.{AllByRecursion}
use Rattle.std.specs.Prelude.{not}
use Rattle.merkle_commands.specs.Commands.{IsElementWord, optional_words, words_in}
use Rattle.merkle_commands.proofs.Arguments.{not_element}
use Rattle.merkle_commands.proofs.command.are_elements.Goals as goal

pub returns-then-is_none : goal.returns-then-is_none
returns-then-is_none c = (
  λ no. absurd (search (rules, no)),
  λ all.
      let left : AllByRecursion IsElementWord (optional_words (Some c.in-Some.left)) = subst (λ r. AllByRecursion IsElementWord (optional_words r)) c.in-Some.is (c.loop-rest.invariant.1 all) in
      let first = (subst (AllByRecursion IsElementWord) c.cut.ensures.words left).0 in
      absurd (not_element c.cut.result.0.now c.read_element.result (c.read_element.ensures.none) (c.is_none.ensures ∙ ap not c.if-is_none.true) first),
)
