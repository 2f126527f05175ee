use Rattle.merkle_leaves.proofs.standard.Standard.root_bagging.Goals as goal

pub returns : goal.returns
returns g c = c.self.view_is
