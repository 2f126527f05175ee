use Rattle.merkle_audit_theory.proofs.LocatedNodes.{collide_is_located, located_is_collide}
use Rattle.merkle_audit_theory.proofs.laws.node_collisions.Goals as goal

pub returns : goal.returns
returns g c = record { located = collide_is_located; nodes = located_is_collide }
