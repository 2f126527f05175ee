use Rattle.std.proofs.Common.{◌++◌, reverse, Some, ap, ◌∙◌}
use Rattle.std.proofs.lemmas.Result.{err_from_is_err_and}
use Rattle.std.specs.Option.{option_to_list}
use Rattle.merkle_base.specs.Root.{right_fold, folded}
use Rattle.merkle_base.specs.declared.family.Bagging.TheVariants.{ForwardFold}
use Rattle.merkle_proof.proofs.ReadRuns.{zip_reverse, missing_before, missing_after, appended_four}
use Rattle.merkle_proof.proofs.reading.read_digests.Given as given
use Rattle.merkle_proof.proofs.reading.read_digests.Goals as goal

pub returns-in_err-read_folded-clause-err : goal.returns-in_err-read_folded-clause-err
returns-in_err-read_folded-clause-err g c =
    let p = err_from_is_err_and c.from_residual-in_err-read_folded.result c.from_residual-in_err-read_folded.ensures.1 in
    let q = c.in_err-read_folded.field-0.0.position in
    rw p.1 (λ n. (q, p.2, missing_before (given.G-post g c.args.get_node.now) c.args.prefix.now _ q c.in_err-read_folded.ensures.err))

pub returns-in_err-read_each-clause-err : goal.returns-in_err-read_each-clause-err
returns-in_err-read_each-clause-err g c =
    let p = err_from_is_err_and c.from_residual-in_err-read_each.result c.from_residual-in_err-read_each.ensures.1 in
    let q = c.in_err-read_each.field-0.0.position in let answered = given.G-post g c.args.get_node.now in
    let prefix = c.in_ok-read_folded.ensures.ok in
    rw p.1 (λ n. (q, p.2, missing_after answered c.args.prefix.now _ prefix.0 q prefix.1 (missing_before answered c.args.single.now _ q c.in_err-read_each.ensures.err)))

pub returns-in_err-read_bagged-clause-err : goal.returns-in_err-read_bagged-clause-err
returns-in_err-read_bagged-clause-err g c =
    let p = err_from_is_err_and c.from_residual-in_err-read_bagged.result c.from_residual-in_err-read_bagged.ensures.1 in
    let q = c.in_err-read_bagged.field-0.0.position in let answered = given.G-post g c.args.get_node.now in
    let prefix = c.in_ok-read_folded.ensures.ok in let single = c.in_ok-read_each.ensures.ok in
    rw p.1 (λ n. (
      q,
      p.2,
      missing_after answered c.args.prefix.now _ prefix.0 q prefix.1
          (missing_after answered c.args.single.now _ single.0 q single.1 (missing_before answered (reverse c.args.suffix.now) c.args.siblings.now q c.in_err-read_bagged.ensures.err)),
    ))

pub returns-in_err-read_each-2-clause-err : goal.returns-in_err-read_each-2-clause-err
returns-in_err-read_each-2-clause-err g c =
    let p = err_from_is_err_and c.from_residual-in_err-read_each-2.result c.from_residual-in_err-read_each-2.ensures.1 in
    let q = c.in_err-read_each-2.field-0.0.position in let answered = given.G-post g c.args.get_node.now in
    let prefix = c.in_ok-read_folded.ensures.ok in let single = c.in_ok-read_each.ensures.ok in let suffix = c.in_ok-read_bagged.ensures.ok in
    rw p.1 (λ n. (
      q,
      p.2,
      missing_after answered c.args.prefix.now _ prefix.0 q prefix.1
          (missing_after answered c.args.single.now _ single.0 q single.1
          (missing_after answered (reverse c.args.suffix.now) c.args.siblings.now _ q (zip_reverse (λ r d. answered r (Some d)) c.args.suffix.now suffix.0 suffix.1) c.in_err-read_each-2.ensures.err)),
    ))

pub returns-clause-ok : goal.returns-clause-ok
returns-clause-ok g c =
    let f = (g.H.Hasher.hashing c.args.hasher.now).fold in
    let prefix = c.in_ok-read_folded.ensures.ok in let single = c.in_ok-read_each.ensures.ok in let suffix = c.in_ok-read_bagged.ensures.ok in let siblings = c.in_ok-read_each-2.ensures.ok in
    record {
      of_prefix = prefix.0;
      of_single = single.0;
      of_suffix = suffix.0;
      of_siblings = siblings.0;
      prefix_read = prefix.1;
      single_read = single.1;
      suffix_read = suffix.1;
      siblings_read = siblings.1;
      digests_are = appended_four (option_to_list (folded f ForwardFold 0 prefix.0)) single.0 (option_to_list (right_fold f suffix.0)) siblings.0 _ _
          _ _ (prefix.2 ∙ ap (λ z. z ++ option_to_list (folded f ForwardFold 0 prefix.0)) c.in_ok-digests.ensures.items) single.2 suffix.2 siblings.2;
    }
