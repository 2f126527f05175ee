use Rattle.std.proofs.Common.{rules}
use Rattle.merkle_base.proofs.Nodes.{size_inj}
use Rattle.merkle_base.proofs.location.LocationTryFromPosition.try_from.Goals as goal

pub returns-in-Some : goal.returns-in-Some
returns-in-Some g c = search (rules, size_inj)
