use Rattle.std.proofs.Common.{◌≡◌, ◌≢◌, length, Some, IfOk, IfErr, arith, ap, ap₂, sym, ◌∙◌, subst}
use Rattle.std.proofs.lemmas.List.{length-map}
use Rattle.std.proofs.lemmas.Result.{err_from_is_err_and}
use Rattle.merkle_base.specs.Cases.{first_case}
use Rattle.merkle_base.specs.Scheme.{Scheme}
use Rattle.merkle_base.specs.declared.error.ReconstructionError.TheVariants.{OutOfMemory}
use Rattle.merkle_hasher.specs.LeafDigests.{bytes_of, leaf_digests}
use Rattle.merkle_hasher.proofs.LeafDigests.{leaves_given, length-leaf_digests}
use Rattle.merkle_root_theory.specs.Extract.{extracted}
use Rattle.merkle_root_theory.specs.Reconstruction.{range_refusals}
use Rattle.merkle_range.specs.Input.{IsComputed, digest_input_of_parts, input_of_parts}
use Rattle.merkle_range.proofs.checks.reconstruct_root_into.Goals as goal

pub returns-in_err-range-clause-err : goal.returns-in_err-range-clause-err
returns-in_err-range-clause-err g c =
    let p = err_from_is_err_and c.from_residual.result c.from_residual.ensures.1 in
    let s = g.H.Hasher.scheme c.args.hasher.now in
    let is = g.met.H.Hasher.scheme_is c.args.hasher.now in
    let es = c.args.elements.now in
    rw (p.1, p.2) (λ n.
    c.in_err-range.ensures.err n s (leaf_digests s.hashing s.rule c.args.start (bytes_of es)) (ap (λ (z : Scheme g.row.H-Digest.Denot). z.rule) is)
    (ap (λ (z : Scheme g.row.H-Digest.Denot). z.max_leaves) is)
    (length-leaf_digests s.hashing s.rule c.args.start (bytes_of es) ∙ length-map es (λ e. e.now)))

pub root_over_range-requires-clause-nonempty : goal.root_over_range-requires-clause-nonempty
root_over_range-requires-clause-nonempty g c =
    let h = g.H.Hasher.hashing c.args.hasher.now in
    let es = c.args.elements.now in
    let leaves_are = leaves_given h g.F.Family.rule c.args.start es c.new-leaves.result.items c.push_leaf_digests.new.digests.items c.deref.result.now
    c.new-leaves.ensures.items c.in-Ok.ensures c.deref.ensures.value in
    let count = ap length leaves_are ∙ length-leaf_digests h g.F.Family.rule c.args.start (bytes_of es) ∙ length-map es (λ e. e.now) in
    omega (arith, c.requires.nonempty, count)

pub root_over_range-requires-clause-end : goal.root_over_range-requires-clause-end
root_over_range-requires-clause-end g c =
    let h = g.H.Hasher.hashing c.args.hasher.now in
    let es = c.args.elements.now in
    let leaves_are = leaves_given h g.F.Family.rule c.args.start es c.new-leaves.result.items c.push_leaf_digests.new.digests.items c.deref.result.now
    c.new-leaves.ensures.items c.in-Ok.ensures c.deref.ensures.value in
    let count = ap length leaves_are ∙ length-leaf_digests h g.F.Family.rule c.args.start (bytes_of es) ∙ length-map es (λ e. e.now) in
    omega (arith, c.in_ok-range.ensures.range.0, c.in_ok-range.ensures.range.1, count)

pub returns-clause-ok : goal.returns-clause-ok
returns-clause-ok g c =
    let s = g.H.Hasher.scheme c.args.hasher.now in
    let is = g.met.H.Hasher.scheme_is c.args.hasher.now in
    let h = g.H.Hasher.hashing c.args.hasher.now in
    let es = c.args.elements.now in
    let p = c.args.parts.now in
    let leaves_are = leaves_given h g.F.Family.rule c.args.start es c.new-leaves.result.items c.push_leaf_digests.new.digests.items c.deref.result.now
    c.new-leaves.ensures.items c.in-Ok.ensures c.deref.ensures.value in
    let input_is : digest_input_of_parts p c.in_ok-range.range.start c.deref.result.now ≡ input_of_parts s p c.args.start (bytes_of es) =
    ap₂ (λ a ls. digest_input_of_parts p a ls) c.in_ok-range.ensures.range.0
    (leaves_are ∙ ap₂ (λ h rule. leaf_digests h rule c.args.start (bytes_of es)) (sym (ap (λ (z : Scheme g.row.H-Digest.Denot). z.hashing) is))
    (sym (ap (λ (z : Scheme g.row.H-Digest.Denot). z.rule) is))) in
    subst (λ r. IfOk c.root_over_range.result (λ d. IsComputed s r d)) input_is c.root_over_range.ensures.ok

pub returns-clause-taken : goal.returns-clause-taken
returns-clause-taken g c =
    let s = g.H.Hasher.scheme c.args.hasher.now in
    let is = g.met.H.Hasher.scheme_is c.args.hasher.now in
    let h = g.H.Hasher.hashing c.args.hasher.now in
    let es = c.args.elements.now in
    let p = c.args.parts.now in
    let leaves_are = leaves_given h g.F.Family.rule c.args.start es c.new-leaves.result.items c.push_leaf_digests.new.digests.items c.deref.result.now
    c.new-leaves.ensures.items c.in-Ok.ensures c.deref.ensures.value in
    let input_is : digest_input_of_parts p c.in_ok-range.range.start c.deref.result.now ≡ input_of_parts s p c.args.start (bytes_of es) =
    ap₂ (λ a ls. digest_input_of_parts p a ls) c.in_ok-range.ensures.range.0
    (leaves_are ∙ ap₂ (λ h rule. leaf_digests h rule c.args.start (bytes_of es)) (sym (ap (λ (z : Scheme g.row.H-Digest.Denot). z.hashing) is))
    (sym (ap (λ (z : Scheme g.row.H-Digest.Denot). z.rule) is))) in
    subst (λ r. IfOk c.root_over_range.result (λ _. g.C.Collector.Took c.args.collector.now (extracted s r) c.root_over_range.new.collector)) input_is c.root_over_range.ensures.taken

pub returns-clause-err : goal.returns-clause-err
returns-clause-err g c =
    let s = g.H.Hasher.scheme c.args.hasher.now in
    let is = g.met.H.Hasher.scheme_is c.args.hasher.now in
    let h = g.H.Hasher.hashing c.args.hasher.now in
    let es = c.args.elements.now in
    let p = c.args.parts.now in
    let leaves_are = leaves_given h g.F.Family.rule c.args.start es c.new-leaves.result.items c.push_leaf_digests.new.digests.items c.deref.result.now
    c.new-leaves.ensures.items c.in-Ok.ensures c.deref.ensures.value in
    let input_is : digest_input_of_parts p c.in_ok-range.range.start c.deref.result.now ≡ input_of_parts s p c.args.start (bytes_of es) =
    ap₂ (λ a ls. digest_input_of_parts p a ls) c.in_ok-range.ensures.range.0
    (leaves_are ∙ ap₂ (λ h rule. leaf_digests h rule c.args.start (bytes_of es)) (sym (ap (λ (z : Scheme g.row.H-Digest.Denot). z.hashing) is))
    (sym (ap (λ (z : Scheme g.row.H-Digest.Denot). z.rule) is))) in
    subst (λ r. IfErr c.root_over_range.result (λ e. e ≢ OutOfMemory → first_case (range_refusals s r) ≡ Some e)) input_is c.root_over_range.ensures.err
