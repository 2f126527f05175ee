use Rattle.std.proofs.Common.{◌≡◌, ◌<◌, ◌∷◌, Some, length, arith, ap, sym, ◌∙◌}
use Rattle.merkle_base.specs.Forest.{size}
use Rattle.merkle_hasher.proofs.Comparisons.{ge_no}
use Rattle.merkle_batch.specs.HeldLeaves.{held_leaves}
use Rattle.merkle_batch.proofs.LeafReads.{leaf_first}
use Rattle.merkle_batch.proofs.leaf_digests.LeafDigestsIterator.next.Goals as goal

pub returns-clause-steps : goal.returns-clause-steps
returns-clause-steps g c =
    let rule = g.R.Family.Family.rule in
    let s = c.self.inside in
    let node = g.R.Readable.node s.reader.now in
    let less : s.next < s.end = ge_no s.next s.end (sym c.ge.ensures ∙ c.if-ge.false) in
    let is : node (size rule s.next) ≡ Some c.in_ok-digest.digest = ap node (sym c.location_to_position-position.ensures) ∙ sym c.in_ok-digest.ensures in
    sym c.self.view_is ∙ leaf_first rule node s.next s.end c.in_ok-digest.digest less is
    ∙ ap (λ i. c.in_ok-digest.digest ∷ held_leaves rule node i s.end) (sym c.add-self-inside.ensures)

pub returns-clause-goes : goal.returns-clause-goes
returns-clause-goes g c = record { on = λ _. (tt, tt, omega (arith, ap length (returns-clause-steps g c))); keeps = tt; rests = λ _. tt }
