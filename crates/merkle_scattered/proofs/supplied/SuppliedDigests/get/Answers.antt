use Rattle.std.proofs.Common.{Ok, Err, sym, ◌∙◌}
use Rattle.std.proofs.lemmas.List.Sorted.{searched}
use Rattle.merkle_scattered.proofs.ToldTable.{get_reads, rises_weakly, table_found, table_none}
use Rattle.merkle_scattered.proofs.supplied.SuppliedDigests.get.Goals as goal

pub returns-in-Ok : goal.returns-in-Ok
returns-in-Ok g c =
    let ps = c.args.self.now.positions.now in
    let ds = c.args.self.now.digests.now in
    let at = searched ps c.args.position (Ok c.in-Ok.index) c.in-Ok.ensures.position (rises_weakly ps c.requires) in
    c.copied.ensures ∙ get_reads ds c.in-Ok.index c.get.result c.get.ensures.lookup ∙ table_found ps ds c.in-Ok.index c.args.position c.requires at.0 at.1

pub returns-in-Err : goal.returns-in-Err
returns-in-Err g c =
    let ps = c.args.self.now.positions.now in
    let gap = searched ps c.args.position (Err c.in-Err.field-0) c.in-Err.ensures.position (rises_weakly ps c.requires) in
    sym (table_none ps c.args.self.now.digests.now c.in-Err.field-0 c.args.position gap.1 gap.2)
