use Rattle.std.proofs.Common.{Ok, Err}
use Rattle.std.proofs.lemmas.List.Sorted.{searched}
use Rattle.merkle_scattered.proofs.ToldTable.{rises_weakly, first_found, first_gap}
use Rattle.merkle_walks.proofs.scattered.LeafProof.first_from.Goals as goal

pub returns-in-Ok : goal.returns-in-Ok
returns-in-Ok g c =
    let xs = c.args.self.now.locations.now in
    let at = searched xs c.args.location (Ok c.in-Ok.index) c.in-Ok.ensures.position (rises_weakly xs c.requires.locations) in
    first_found xs c.requires.locations c.in-Ok.index c.args.location at.0 at.1

pub returns-in-Err : goal.returns-in-Err
returns-in-Err g c =
    let xs = c.args.self.now.locations.now in
    let gap = searched xs c.args.location (Err c.in-Err.index) c.in-Err.ensures.position (rises_weakly xs c.requires.locations) in
    first_gap xs c.in-Err.index c.args.location gap.1 gap.2
