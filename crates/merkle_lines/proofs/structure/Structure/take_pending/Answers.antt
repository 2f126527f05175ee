use Rattle.std.proofs.Common.{◌≡◌, [], ap, rules, ◌∙◌}
use Rattle.std.proofs.lemmas.Result.{IfOk-weaker}
use Rattle.merkle_lines.specs.Held.{edited}
use Rattle.merkle_lines.proofs.Holdings.{new_makes, no_edits, pending_edits, pending_makes}
use Rattle.merkle_lines.proofs.structure.Structure.take_pending.Goals as goal

pub returns-in-None-clause-edits : goal.returns-in-None-clause-edits
returns-in-None-clause-edits g c = λ given held.
    let none : c.clear.new.self.items ≡ [] = search rules in
    ap (edited c.args.self.now.list.items) none ∙ no_edits _ g.F.Family.rule g.F.Family.MAX_LEAVES _ _ _ _ given held (let e = c.in-None.is in let f = c.take.ensures in cc)

pub returns-in-None-clause-batch : goal.returns-in-None-clause-batch
returns-in-None-clause-batch g c =
    IfOk-weaker c.new_batch.result _ _
    (λ b forked given held. new_makes _ g.F.Family.rule g.F.Family.MAX_LEAVES _ _ _ _ given held b
    (let e = c.in-None.is in let f = c.take.ensures in cc) forked) c.new_batch.ensures.forked

pub returns-in-Some-clause-edits : goal.returns-in-Some-clause-edits
returns-in-Some-clause-edits g c =
    λ given held. pending_edits _ g.F.Family.rule g.F.Family.MAX_LEAVES _ _ _ _ given held c.in-Some.batch (let e = c.in-Some.is in let f = c.take.ensures in cc)

pub returns-in-Some-clause-batch : goal.returns-in-Some-clause-batch
returns-in-Some-clause-batch g c =
    λ given held. pending_makes _ g.F.Family.rule g.F.Family.MAX_LEAVES _ _ _ _ given held c.in-Some.batch (let e = c.in-Some.is in let f = c.take.ensures in cc)
