use Rattle.std.proofs.Common.{◌<◌, length, get_or, arith, rules, sym, ◌∙◌}
use Rattle.merkle_hasher.proofs.Comparisons.{ge_yes}
use Rattle.merkle_scattered.proofs.ToldTable.{first_at, item_zero}
use Rattle.merkle_scattered.proofs.supplied.SuppliedDigests.index_near.Goals as goal

pub returns-then-ge : goal.returns-then-ge
returns-then-ge g c =
    let ps = c.args.self.now.positions.now in
    let i = c.loop-index.index in
    let within : i < length ps = search rules in
    let high = ge_yes (get_or ps i c.index-self-index.result) c.args.position (sym c.ge.ensures ∙ c.if-ge.true) in
    first_at ps c.requires i c.args.position within c.loop-index.invariant (omega (arith, high, c.index-self-index.is, item_zero ps i c.index-self-index.result within c.index-self-index.is))
