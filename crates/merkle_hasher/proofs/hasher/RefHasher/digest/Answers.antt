use Rattle.merkle_hasher.proofs.hasher.RefHasher.digest.Goals as goal

pub returns : goal.returns
returns g c = c.digest.ensures
