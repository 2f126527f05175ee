use Rattle.merkle_leaves.proofs.standard.StandardHasher.hash.Goals as goal

pub returns : goal.returns
returns g c = c.hash.ensures
