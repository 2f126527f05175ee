use Rattle.merkle_batch_theory.proofs.ShownLists.{chain_shows}
use Rattle.merkle_batch.proofs.merkleized.MerkleizedBatchReadable.size.Goals as goal

pub returns-clause-shows : goal.returns-clause-shows
returns-clause-shows g c = λ h ls stands. chain_shows h g.F.Family.rule c.args.self.now ls stands
