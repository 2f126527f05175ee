use Rattle.merkle_hasher.proofs.hasher.RefHasher.fold.Goals as goal

pub returns : goal.returns
returns g c = c.fold.ensures
