use Rattle.merkle_commands.proofs.WordRows.{words_in_cut, words_in_one}
use Rattle.merkle_commands.proofs.command.cut.Goals as goal

pub returns-in-Some-clause-words : goal.returns-in-Some-clause-words
returns-in-Some-clause-words c = words_in_cut c.args.words.now c.in-Some.first c.in-Some.rest c.in-Some.ensures.cases

pub returns-in-None-clause-words : goal.returns-in-None-clause-words
returns-in-None-clause-words c = words_in_one c.args.words.now c.in-None.ensures.cases
