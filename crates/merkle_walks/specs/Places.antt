-- What audits hand out, in the words of the theory.
use Rattle.merkle_root_theory.specs.Expression as theory
use Rattle.merkle_root_theory.specs.Collision.{Collision}
use Rattle.merkle_walks.specs.declared.place.Place.{Place}
use Rattle.merkle_walks.specs.declared.place.Place.TheVariants as place
use Rattle.merkle_walks.specs.declared.place.Argument.{Argument}
use Rattle.merkle_walks.specs.declared.place.Argument.TheVariants as argument

-- a place that is handed out
abbrev pub place_of : {F : Type 0} → Place F → theory.Place
place_of place.Root = theory.Root
place_of place.Join = theory.Join
place_of (place.PrefixFold i) = theory.PrefixFold i
place_of (place.SuffixFold i) = theory.SuffixFold i
place_of (place.Node p) = theory.Node p

-- an argument that is handed out
abbrev pub argument_of : {D : Type 0} → Argument D → theory.Argument D
argument_of (argument.Pair a b) = theory.Pair a b
argument_of (argument.Bytes bytes) = theory.Bytes bytes.items

-- a collision that is handed out
abbrev pub collision_of : {F D : Type 0} → Place F → Argument D → Argument D → Collision D
collision_of p a b = record { place = place_of p; claimed = argument_of a; listed = argument_of b }
