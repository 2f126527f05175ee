use Rattle.merkle_leaves.proofs.standard.StandardHasher.root_bagging.Goals as goal

pub returns : goal.returns
returns g c = c.root_bagging.ensures
