use Rattle.std.proofs.Common.{◌-◌, arith, sym, ◌∙◌}
use Rattle.merkle_hasher.proofs.Comparisons.{lt_yes}
use Rattle.merkle_scattered.proofs.ToldTable.{item_read, before_last}
use Rattle.merkle_scattered.proofs.supplied.SuppliedDigests.are_before.Goals as goal

pub returns-in-Some : goal.returns-in-Some
returns-in-Some g c = λ yes k less.
    let ps = c.args.self.now.positions.now in
    let i = c.args.count - 1 in
    let at = item_read ps i c.in-Some.last c.in-Some.ensures.lookup in
    let low = lt_yes c.in-Some.last.now c.args.position (sym c.lt.ensures ∙ yes) in
    before_last ps c.requires i c.args.position at.0 (omega (arith, at.1, low)) k (omega (arith, less))
