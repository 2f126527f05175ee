use Rattle.std.proofs.Common.{sym, ◌∙◌, arith}
use Rattle.std.proofs.lemmas.Bool.{eqb-true, eqb-false}
use Rattle.merkle_scattered.proofs.ToldTable.{get_reads, item_read, item_past, table_found, none_first}
use Rattle.merkle_scattered.proofs.supplied.SuppliedDigests.get_next.Goals as goal

pub returns-in_default : goal.returns-in_default
returns-in_default g c =
    let ps = c.args.self.now.positions.now in
    let past = item_past ps c.index_from-index.result c.in_default.ensures.lookup in
    sym (none_first ps c.args.self.now.digests.now c.requires c.index_from-index.result c.args.position c.index_from-index.ensures (λ l e. absurd (omega (arith, past, l))))

pub returns-then-eq : goal.returns-then-eq
returns-then-eq g c =
    let ps = c.args.self.now.positions.now in
    let ds = c.args.self.now.digests.now in
    let i = c.index_from-index.result in
    let at = item_read ps i c.in-Some.found c.in-Some.ensures.lookup in
    let same = eqb-true c.in-Some.found.now c.args.position (sym c.eq.ensures ∙ c.if-eq.true) in
    c.copied.ensures ∙ get_reads ds i c.get-then-eq.result c.get-then-eq.ensures.lookup ∙ table_found ps ds i c.args.position c.requires at.0 (sym at.1 ∙ same)

pub returns : goal.returns
returns g c =
    let ps = c.args.self.now.positions.now in
    let i = c.index_from-index.result in
    let at = item_read ps i c.in-Some.found c.in-Some.ensures.lookup in
    let other = eqb-false c.in-Some.found.now c.args.position (sym c.eq.ensures ∙ c.if-eq.false) in
    sym (none_first ps c.args.self.now.digests.now c.requires i c.args.position c.index_from-index.ensures (λ l e. other (at.1 ∙ e)))
