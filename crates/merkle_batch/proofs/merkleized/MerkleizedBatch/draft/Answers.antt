use Rattle.std.proofs.Common.{◌≡◌, [], ◌∷◌, ◌++◌, cond, drop, map, IfOk, ap, ◌∙◌, subst}
use Rattle.merkle_batch_theory.specs.Unmerkleized.{is_changed}
use Rattle.merkle_draft.proofs.KeptRecords.{map_from}
use Rattle.merkle_batch.proofs.merkleized.MerkleizedBatch.draft.Goals as goal

pub returns-clause-kept : goal.returns-clause-kept
returns-clause-kept g c =
    let all : map (λ r. r.value) c.deref.result.now ≡ c.args.self.now.ancestors = ap (map (λ r. r.value)) c.deref.ensures.value ∙ ap (λ b. b.ancestors) c.self.view_is in
    let own : c.self.inside.own.value ≡ c.args.self.now.own = ap (λ b. b.own) c.self.view_is in
    let kept = map_from (λ r. r.value) c.deref.result.now c.args.forgotten ∙ ap (drop c.args.forgotten) all in
    subst (λ records. IfOk c.new.result (λ d. d.kept ≡ records)) (λ j. kept j ++ cond (is_changed (own j)) (own j ∷ []) []) c.new.ensures.kept
