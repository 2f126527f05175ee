use Rattle.std.proofs.Common.{Ok, Err}
use Rattle.std.proofs.lemmas.List.Sorted.{searched}
use Rattle.merkle_scattered.proofs.ToldTable.{rises_weakly, first_found, first_gap}
use Rattle.merkle_scattered.proofs.supplied.SuppliedDigests.index_from.Goals as goal

pub returns-in-Ok : goal.returns-in-Ok
returns-in-Ok g c =
    let ps = c.args.self.now.positions.now in
    let at = searched ps c.args.position (Ok c.in-Ok.index) c.in-Ok.ensures.position (rises_weakly ps c.requires) in
    first_found ps c.requires c.in-Ok.index c.args.position at.0 at.1

pub returns-in-Err : goal.returns-in-Err
returns-in-Err g c =
    let ps = c.args.self.now.positions.now in
    let gap = searched ps c.args.position (Err c.in-Err.index) c.in-Err.ensures.position (rises_weakly ps c.requires) in
    first_gap ps c.in-Err.index c.args.position gap.1 gap.2
