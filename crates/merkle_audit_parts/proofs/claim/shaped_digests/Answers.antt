use Rattle.std.proofs.Common.{◌≢◌, Ok, arith, ap, ◌∙◌}
use Rattle.std.proofs.lemmas.List.{length-map}
use Rattle.std.proofs.lemmas.Result.{IfOk-weaker}
use Rattle.merkle_base.specs.Scheme.{Scheme}
use Rattle.merkle_hasher.specs.LeafDigests.{bytes_of, leaf_digests}
use Rattle.merkle_hasher.proofs.LeafDigests.{length-leaf_digests}
use Rattle.merkle_proof.specs.Input.{input_of}
use Rattle.merkle_root_theory.specs.Reconstruction.{reconstructed}
use Rattle.merkle_audit_parts.proofs.Claims.{led_within, none_then}
use Rattle.merkle_audit_parts.proofs.claim.shaped_digests.Goals as goal

pub returns-then-branch-clause-none : goal.returns-then-branch-clause-none
returns-then-branch-clause-none g c = λ d led.
    let s = g.H.Hasher.scheme c.args.hasher.now in
    let es = c.args.elements.now in
    let a = c.args.start in
    c.in_ok-is_shape_refused.ensures c.if-branch.true (leaf_digests s.hashing s.rule a (bytes_of es))
    (length-leaf_digests s.hashing s.rule a (bytes_of es) ∙ length-map es (λ e. e.now)) d led

pub returns-clause-none : goal.returns-clause-none
returns-clause-none g c =
    let s = g.H.Hasher.scheme c.args.hasher.now in
    let es = c.args.elements.now in
    let a = c.args.start in
    let r = input_of s c.args.proof.now a (bytes_of es) in
    let many = length-leaf_digests s.hashing s.rule a (bytes_of es) ∙ length-map es (λ e. e.now) in
    let most = ap (λ (z : Scheme g.row.H-Digest.Denot). z.max_leaves) (g.met.H.Hasher.scheme_is c.args.hasher.now) in
    IfOk-weaker c.digests_from.result _ _ (λ o w. none_then o _ ((d : g.row.H-Digest.Denot) → reconstructed s r ≢ Ok d) w
    (λ past d led. absurd (omega (arith, led_within s r d led, many, most, past)))) c.digests_from.ensures.none
