use Rattle.std.proofs.Common.{◌≡◌, Some, None, sym, ap, ◌∙◌}
use Rattle.merkle_batch_theory.specs.Read.{written, newest}
use Rattle.merkle_batch_theory.proofs.NewestFirst.{own_has, own_lacks, has_last}
use Rattle.merkle_batch.proofs.merkleized.MerkleizedBatch.get_node.Goals as goal

pub returns-in-Some-clause-newest : goal.returns-in-Some-clause-newest
returns-in-Some-clause-newest g c =
    let own : written c.args.self.now.own c.args.position ≡ Some c.in-Some.digest =
    sym (c.get_node.ensures ∙ ap (λ r. written r c.args.position) (c.deref.ensures ∙ ap (λ b. b.own) c.self.view_is)) ∙ c.in-Some.is in
    sym (own_has c.args.self.now c.args.position c.in-Some.digest own)

pub returns-in-Some-clause-listed : goal.returns-in-Some-clause-listed
returns-in-Some-clause-listed g c = λ h ls d stands is.
    has_last h g.F.Family.rule c.args.self.now c.args.position d ls stands (sym (returns-in-Some-clause-newest g c) ∙ is)

pub returns-in-None-clause-newest : goal.returns-in-None-clause-newest
returns-in-None-clause-newest g c =
    let own : written c.args.self.now.own c.args.position ≡ None =
    sym (c.get_node.ensures ∙ ap (λ r. written r c.args.position) (c.deref.ensures ∙ ap (λ b. b.own) c.self.view_is)) ∙ c.in-None.is in
    let others : c.newest_node.result ≡ newest c.args.self.now.ancestors c.args.position =
    (rw c.deref-in-None.ensures.value at c.newest_node.ensures) ∙ ap (λ b. newest b.ancestors c.args.position) c.self.view_is in
    others ∙ sym (own_lacks c.args.self.now c.args.position own)

pub returns-in-None-clause-listed : goal.returns-in-None-clause-listed
returns-in-None-clause-listed g c = λ h ls d stands is.
    has_last h g.F.Family.rule c.args.self.now c.args.position d ls stands (sym (returns-in-None-clause-newest g c) ∙ is)
