use Rattle.std.proofs.Common.{◌≡◌, Ok, IfOk, subst}
use Rattle.std.proofs.lemmas.Result.{IfOk-weaker}
use Rattle.merkle_root_theory.specs.Extract.{extracted}
use Rattle.merkle_root_theory.specs.Reconstruction.{reconstructed}
use Rattle.merkle_range.specs.Input.{digest_input_of_parts}
use Rattle.merkle_range.proofs.Answered.{extraction_refused}
use Rattle.merkle_range.proofs.extraction.verify_leaf_digests_and_extract.Goals as goal

pub returns-clause-ok : goal.returns-clause-ok
returns-clause-ok g c =
    let s = g.H.Hasher.scheme c.args.hasher.now in
    let r = digest_input_of_parts c.args.parts.now c.args.start c.args.leaves.now in
    IfOk-weaker c.pairs_for.result _ _
    (λ v e. subst (λ z. IfOk z (λ found. (reconstructed s r ≡ Ok found.0) × (found.1.items ≡ extracted s r))) e c.extract_leaf_digests.ensures.ok)
    c.pairs_for.ensures.ok

pub returns-clause-err : goal.returns-clause-err
returns-clause-err g c =
    let s = g.H.Hasher.scheme c.args.hasher.now in
    let r = digest_input_of_parts c.args.parts.now c.args.start c.args.leaves.now in
    extraction_refused s r (λ v. v.items) c.args.root.now c.extract_leaf_digests.result c.pairs_for.result c.extract_leaf_digests.ensures.ok
    c.extract_leaf_digests.ensures.err c.pairs_for.ensures.err
