use Rattle.std.proofs.Common.{◌≡◌, Ok, IfOk, subst}
use Rattle.std.proofs.lemmas.Result.{IfOk-weaker}
use Rattle.merkle_hasher.specs.LeafDigests.{bytes_of}
use Rattle.merkle_root_theory.specs.Extract.{extracted}
use Rattle.merkle_root_theory.specs.Reconstruction.{reconstructed}
use Rattle.merkle_range.specs.Input.{input_of_parts}
use Rattle.merkle_range.proofs.Answered.{extraction_refused}
use Rattle.merkle_range.proofs.extraction.verify_and_extract.Goals as goal

pub returns-clause-ok : goal.returns-clause-ok
returns-clause-ok g c =
    let s = g.H.Hasher.scheme c.args.hasher.now in
    let r = input_of_parts s c.args.parts.now c.args.start (bytes_of c.args.elements.now) in
    IfOk-weaker c.pairs_for.result _ _
    (λ v e. subst (λ z. IfOk z (λ found. (reconstructed s r ≡ Ok found.0) × (found.1.items ≡ extracted s r))) e c.reconstruct_or_extract.ensures.ok)
    c.pairs_for.ensures.ok

pub returns-clause-err : goal.returns-clause-err
returns-clause-err g c =
    let s = g.H.Hasher.scheme c.args.hasher.now in
    let r = input_of_parts s c.args.parts.now c.args.start (bytes_of c.args.elements.now) in
    extraction_refused s r (λ v. v.items) c.args.root.now c.reconstruct_or_extract.result c.pairs_for.result c.reconstruct_or_extract.ensures.ok
    c.reconstruct_or_extract.ensures.err c.pairs_for.ensures.err
