use Rattle.std.proofs.Common.{◌≡◌, ◌++◌, ◌∷◌, [], length, arith, ap, sym, ◌∙◌, subst}
use Rattle.merkle_core.specs.Applying.{IsApplied}
use Rattle.merkle_core.specs.Contents.{Agrees}
use Rattle.merkle_core.specs.Forest.{size}
use Rattle.merkle_core.specs.MemModel.{contents}
use Rattle.example.specs.Appended.{with_entry}
use Rattle.merkle_core.proofs.WrittenNodes.{on_err}
use Rattle.example.proofs.Appending.{agrees_with_leaf, decides_of, ok_is}
use Rattle.example.proofs.frontier.Frontier.append.Goals as goal

pub returns-in_err-batch-clause-err : goal.returns-in_err-batch-clause-err
returns-in_err-batch-clause-err g c =
    on_err c.from_residual.result _ (λ X agrees. c.in_default.ensures.agrees (g.H.Hasher.hashing c.args.hasher.now) X agrees)

pub returns-in-Err-apply_batch-clause-err : goal.returns-in-Err-apply_batch-clause-err
returns-in-Err-apply_batch-clause-err g c = λ X agrees.
    let h = g.H.Hasher.hashing c.args.hasher.now in
    subst (λ m. Agrees h g.F.Family.rule (contents m) X) (sym c.in-Err-apply_batch.ensures.unchanged) (c.in_default.ensures.agrees h X agrees)

pub returns-in-Ok-clause-appended : goal.returns-in-Ok-clause-appended
returns-in-Ok-clause-appended g c = λ X agrees.
    let rule = g.F.Family.rule in
    let hasher = c.args.hasher.now in
    let h = g.H.Hasher.hashing hasher in
    let equal = g.D.PartialEq.eq in
    let same = (g.met.H.Hasher.over_digest hasher).same in
    let before = contents c.prune_all.new.self in
    let after = contents c.apply_batch.new.self in
    let leaf = c.leaf_digest-leaf.result in
    let pruned : Agrees h rule before X = c.in_default.ensures.agrees h X agrees in
    let batch = c.in_ok-batch.batch.value in
    let applied : IsApplied equal rule batch before after = subst (λ b. IsApplied equal rule b before after) c.deref.ensures c.in_default-apply_batch.ensures.on_lists in
    let longer = agrees_with_leaf h rule equal (decides_of h equal same g.met.D.Digest.eq_decides) same before after leaf batch c.in_ok-batch.ensures applied X pruned in
    let is : leaf ≡ h.leaf (size rule (length X)) c.args.entry.now = c.leaf_digest-leaf.ensures ∙ ap (λ p. h.leaf p c.args.entry.now) (c.size.ensures ∙ pruned.sized) in
    let agreed : Agrees h rule after (with_entry h rule X c.args.entry.now) = subst (λ d. Agrees h rule after (X ++ d ∷ [])) is longer in
    let listed = c.root.ensures.listed (with_entry h rule X c.args.entry.now) agreed (omega arith) in
    (agreed, ok_is c.in-Ok.root _ c.root.result c.in-Ok.is listed)
