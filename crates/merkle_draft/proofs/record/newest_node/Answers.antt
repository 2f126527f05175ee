use Rattle.std.proofs.Common.{◌≡◌, suc, ◌-◌, ◌<◌, length, map, take, arith, sym, ap, ◌∙◌}
use Rattle.std.specs.Prelude.{is_some}
use Rattle.merkle_batch_theory.specs.Read.{written, newest}
use Rattle.merkle_batch_theory.proofs.NewestFirst.{newest_taken, or_later}
use Rattle.merkle_draft.proofs.record.newest_node.Goals as goal
use Rattle.merkle_batch_theory.proofs.OptionFacts.{or_some}

pub loop-i-preserved : goal.loop-i-preserved
loop-i-preserved g c =
    let next : c.loop-i.i ≡ suc (c.loop-i.i - 1) = omega arith in
    let within : c.loop-i.i - 1 < length c.args.records.now = omega arith in
    let found : c.get_node-found.result ≡ written c.index-records-i.result.value c.args.position = c.get_node-found.ensures ∙ ap (λ r. written r c.args.position) c.deref.ensures in
    let last = newest_taken (λ r. r.value) c.args.records.now (c.loop-i.i - 1) c.args.position c.index-records-i.result within c.index-records-i.is in (
      omega arith,
      c.loop-i.invariant.1 ∙ ap (λ n. newest (take n (map (λ r. r.value) c.args.records.now)) c.args.position) next ∙ last
          ∙ or_later (written c.index-records-i.result.value c.args.position)
          (newest (take (c.loop-i.i - 1) (map (λ r. r.value) c.args.records.now)) c.args.position)
          (ap is_some (sym found) ∙ sym c.is_some.ensures ∙ c.if-is_some.false),
    )

pub returns-then-is_some : goal.returns-then-is_some
returns-then-is_some g c =
    let next : c.loop-i.i ≡ suc (c.loop-i.i - 1) = omega arith in
    let within : c.loop-i.i - 1 < length c.args.records.now = omega arith in
    let found : c.get_node-found.result ≡ written c.index-records-i.result.value c.args.position = c.get_node-found.ensures ∙ ap (λ r. written r c.args.position) c.deref.ensures in
    let last = newest_taken (λ r. r.value) c.args.records.now (c.loop-i.i - 1) c.args.position c.index-records-i.result within c.index-records-i.is in
    found ∙ sym (c.loop-i.invariant.1 ∙ ap (λ n. newest (take n (map (λ r. r.value) c.args.records.now)) c.args.position) next ∙ last
    ∙ or_some (written c.index-records-i.result.value c.args.position)
    (newest (take (c.loop-i.i - 1) (map (λ r. r.value) c.args.records.now)) c.args.position) (ap is_some (sym found) ∙ sym c.is_some.ensures ∙ c.if-is_some.true))
