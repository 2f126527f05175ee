use Rattle.std.proofs.Common.{◌≡◌, ◌≢◌, Some, IfOk, IfErr, refl, ap, subst}
use Rattle.std.proofs.lemmas.Result.{err_from_is_err_and}
use Rattle.merkle_base.specs.Cases.{first_case}
use Rattle.merkle_base.specs.Scheme.{Scheme}
use Rattle.merkle_base.specs.declared.error.ReconstructionError.TheVariants.{OutOfMemory}
use Rattle.merkle_root_theory.specs.Extract.{extracted}
use Rattle.merkle_root_theory.specs.Reconstruction.{range_refusals}
use Rattle.merkle_range.specs.Input.{IsComputed, digest_input_of_parts}
use Rattle.merkle_range.proofs.checks.root_of_leaf_digests_into.Goals as goal

pub returns-in_err-range-clause-err : goal.returns-in_err-range-clause-err
returns-in_err-range-clause-err g c =
    let p = err_from_is_err_and c.from_residual.result c.from_residual.ensures.1 in
    let s = g.H.Hasher.scheme c.args.hasher.now in
    let is = g.met.H.Hasher.scheme_is c.args.hasher.now in
    rw (p.1, p.2) (λ n.
    c.in_err-range.ensures.err n s c.args.leaves.now (ap (λ (z : Scheme g.row.H-Digest.Denot). z.rule) is)
    (ap (λ (z : Scheme g.row.H-Digest.Denot). z.max_leaves) is) refl)

pub returns-clause-ok : goal.returns-clause-ok
returns-clause-ok g c =
    let s = g.H.Hasher.scheme c.args.hasher.now in
    subst (λ a. IfOk c.root_over_range.result (λ d. IsComputed s (digest_input_of_parts c.args.parts.now a c.args.leaves.now) d))
    c.in_ok-range.ensures.range.0 c.root_over_range.ensures.ok

pub returns-clause-taken : goal.returns-clause-taken
returns-clause-taken g c =
    let s = g.H.Hasher.scheme c.args.hasher.now in
    subst (λ a. IfOk c.root_over_range.result (λ _. g.C.Collector.Took c.args.collector.now
    (extracted s (digest_input_of_parts c.args.parts.now a c.args.leaves.now)) c.root_over_range.new.collector))
    c.in_ok-range.ensures.range.0 c.root_over_range.ensures.taken

pub returns-clause-err : goal.returns-clause-err
returns-clause-err g c =
    let s = g.H.Hasher.scheme c.args.hasher.now in
    subst (λ a. IfErr c.root_over_range.result (λ e. e ≢ OutOfMemory
    → first_case (range_refusals s (digest_input_of_parts c.args.parts.now a c.args.leaves.now)) ≡ Some e))
    c.in_ok-range.ensures.range.0 c.root_over_range.ensures.err
