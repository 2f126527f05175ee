use Rattle.merkle_restore_theory.proofs.HeldBelow.{held_nodes_have_children, damage_is_from_boundary}
use Rattle.merkle_restore_theory.proofs.WholeStructures.{first_is_unique}
use Rattle.merkle_restore_theory.proofs.laws.damage.Goals as goal

pub returns : goal.returns
returns g c = record { children = held_nodes_have_children; from_boundary = damage_is_from_boundary; unique = first_is_unique }
