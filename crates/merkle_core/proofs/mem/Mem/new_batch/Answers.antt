use Rattle.std.proofs.Common.{rules, [], ◌∷◌, ap, sym, ◌∙◌, subst}
use Rattle.merkle_batch_theory.specs.Unmerkleized.{forked}
use Rattle.merkle_batch_theory.specs.Records.{records}
use Rattle.merkle_batch_theory.specs.History.{IsHistory}
use Rattle.merkle_core.proofs.mem.Mem.new_batch.Goals as goal

pub returns-in-Ok-clause-of_list : goal.returns-in-Ok-clause-of_list
returns-in-Ok-clause-of_list g c = λ h X agrees.
    subst (λ b. IsHistory h g.F.Family.rule (records b) (X ∷ X ∷ [])) (sym (ap (λ p. p.parent) c.new.ensures)) (c.in-Ok.ensures.of_list h X agrees)

pub returns-in-Ok-clause-forked : goal.returns-in-Ok-clause-forked
returns-in-Ok-clause-forked g c = c.new.ensures ∙ ap forked c.in-Ok.ensures.root

pub returns-in-Ok-clause-refused : goal.returns-in-Ok-clause-refused
returns-in-Ok-clause-refused g c = search rules depth 2
