use Rattle.std.proofs.Common.{Ok, Err, ap, sym, ◌∙◌}
use Rattle.std.proofs.lemmas.List.Sorted.{searched}
use Rattle.std.specs.Option.{unwrap_or}
use Rattle.merkle_scattered.proofs.ToldTable.{rises_weakly, table_found, table_none}
use Rattle.merkle_walks.proofs.scattered.LeafProof.leaf.Goals as goal

pub returns-in-Ok : goal.returns-in-Ok
returns-in-Ok g c =
    let xs = c.args.self.now.locations.now in
    let ds = c.args.self.now.leaves.now in
    let at = searched xs c.args.location (Ok c.in-Ok.index) c.in-Ok.ensures.position (rises_weakly xs c.requires.locations) in
    c.digest_at.ensures ∙ ap (λ o. unwrap_or o g.D.Digest.EMPTY) (table_found xs ds c.in-Ok.index c.args.location c.requires.locations at.0 at.1)

pub returns-in-Err : goal.returns-in-Err
returns-in-Err g c =
    let xs = c.args.self.now.locations.now in
    let gap = searched xs c.args.location (Err c.in-Err.field-0) c.in-Err.ensures.position (rises_weakly xs c.requires.locations) in
    c.EMPTY.ensures ∙ sym (ap (λ o. unwrap_or o g.D.Digest.EMPTY) (table_none xs c.args.self.now.leaves.now c.in-Err.field-0 c.args.location gap.1 gap.2))
