use Rattle.merkle_core.specs.MemModel.{contents}
use Rattle.example.proofs.Appending.{extends_by}
use Rattle.example.proofs.frontier.Frontier.extended.Goals as goal

pub returns-in-Ok-merkleize : goal.returns-in-Ok-merkleize
returns-in-Ok-merkleize g c =
    let h = g.H.Hasher.hashing c.args.hasher.now in
    let s = c.args.self.now.peaks in
    extends_by h g.F.Family.rule (contents s) s.leaves c.args.leaf c.in-Ok.fork c.in-Ok-add_leaf_digest.longer c.in-Ok-merkleize.batch.value
    c.in-Ok.ensures.forked c.in-Ok.ensures.of_list c.in-Ok-add_leaf_digest.ensures.added c.in-Ok-merkleize.ensures.history
