use Rattle.merkle_reconstruction.proofs.InsideLists.{all_pushed}
use Rattle.merkle_reconstruction.proofs.inside.put_inside.Goals as goal

pub returns-clause-parents : goal.returns-clause-parents
returns-clause-parents g c = λ h all. all_pushed _ _ _ _ c.in_ok-push-2.ensures.items all (c.leaf_parent.ensures.digest h)
