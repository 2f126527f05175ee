use Rattle.merkle_leaves.proofs.standard.StandardHasher.digest.Goals as goal

pub returns : goal.returns
returns g c = c.digest.ensures
