use Rattle.merkle_walk_theory.proofs.Compared.{walk_finds_first}
use Rattle.merkle_walk_theory.proofs.Walked.{walks_find_first}
use Rattle.merkle_walk_theory.proofs.laws.walks.Goals as goal

pub returns-clause-claim : goal.returns-clause-claim
returns-clause-claim g c = walk_finds_first

pub returns-clause-checks : goal.returns-clause-checks
returns-clause-checks g c = walks_find_first
