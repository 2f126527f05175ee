use Rattle.merkle_batch.proofs.LeafReads.{leaf_count, entries_shown}
use Rattle.merkle_batch.proofs.leaf_digests.held_leaf_digests.Goals as goal

pub returns-clause-count : goal.returns-clause-count
returns-clause-count g c = leaf_count g.R.Family.Family.rule (g.R.Readable.node c.args.reader.now) g.R.Family.Family.MAX_LEAVES c.args.start c.args.end c.requires

pub returns-clause-shown : goal.returns-clause-shown
returns-clause-shown g c =
    entries_shown g.R.Family.Family.rule (g.R.Readable.node c.args.reader.now) g.R.Family.Family.MAX_LEAVES (g.R.Readable.size c.args.reader.now) c.args.start c.args.end c.requires
