use Rattle.merkle_hasher.proofs.hasher.RefHasher.leaf_digest.Goals as goal

pub returns : goal.returns
returns g c = c.leaf_digest.ensures
