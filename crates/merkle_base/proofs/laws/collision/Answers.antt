use Rattle.merkle_base.proofs.Colliding.{same_or_collide}
use Rattle.merkle_base.proofs.laws.collision.Goals as goal

pub returns : goal.returns
returns g c = record { collides = same_or_collide }
