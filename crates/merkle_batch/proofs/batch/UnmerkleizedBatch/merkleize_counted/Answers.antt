use Rattle.merkle_batch.proofs.batch.UnmerkleizedBatch.merkleize_counted.Goals as goal

pub returns-clause-refused : goal.returns-clause-refused
returns-clause-refused g c = c.compute.ensures.refused

pub returns-clause-granted : goal.returns-clause-granted
returns-clause-granted g c = c.compute.ensures.granted
