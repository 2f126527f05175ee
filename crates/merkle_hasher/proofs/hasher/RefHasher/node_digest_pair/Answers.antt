use Rattle.merkle_hasher.proofs.hasher.RefHasher.node_digest_pair.Goals as goal

pub returns : goal.returns
returns g c = c.node_digest_pair.ensures
