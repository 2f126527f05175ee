use Rattle.std.proofs.Common.{refl, ◌≡◌, length, inl, inr, arith, ap, sym, ◌∙◌}
use Rattle.std.proofs.lemmas.Result.{IfOk-at_ok}
use Rattle.merkle_base.proofs.Limits.{lawful_leaves}
use Rattle.merkle_base.specs.Scheme.{Scheme}
use Rattle.merkle_root_theory.specs.Check.{RangeInput}
use Rattle.merkle_root_theory.specs.Range.{IsEmptyInput}
use Rattle.merkle_root_theory.proofs.Reconstruction.{leads_is_accepted}
use Rattle.merkle_proof.specs.Input.{digest_input_of}
use Rattle.merkle_audit_parts.specs.Claimed.{IsClaim}
use Rattle.merkle_audit_parts.proofs.Claims.{empty_led}
use Rattle.merkle_audit_parts.proofs.claim.accepted.Goals as goal
use Rattle.merkle_audit_parts.proofs.claim.accepted.Goals.{in-Ok, in-Err+in-Empty}

pub add-end-requires : goal.add-end-requires
add-end-requires g c =
    let s = g.H.Hasher.scheme c.args.hasher.now in
    let es = c.args.digests.now in
    let r = digest_input_of c.args.proof.now c.args.start es in
    let count : length r.elements ≡ length es = refl in
    let ok = c.in-Ok.ensures.accepted in
    let most = ap (λ (z : Scheme g.row.H-Digest.Denot). z.max_leaves) (g.met.H.Hasher.scheme_is c.args.hasher.now) in
    omega (arith, ok.within, ok.leaves, count, most, lawful_leaves _ _ _ g.met.F.Family.lawful)

pub claim_of-claim-requires-clause-within : goal.claim_of-claim-requires-clause-within
claim_of-claim-requires-clause-within g c =
    let s = g.H.Hasher.scheme c.args.hasher.now in
    let es = c.args.digests.now in
    let r = digest_input_of c.args.proof.now c.args.start es in
    let count : length r.elements ≡ length es = refl in
    let ok = c.in-Ok.ensures.accepted in
    let most = ap (λ (z : Scheme g.row.H-Digest.Denot). z.max_leaves) (g.met.H.Hasher.scheme_is c.args.hasher.now) in
    omega (arith, ok.within, count, c.add-end.ensures)

pub returns-in-Ok-claim-clause-some : goal.returns-in-Ok-claim-clause-some
returns-in-Ok-claim-clause-some g c =
    let s = g.H.Hasher.scheme c.args.hasher.now in
    let es = c.args.digests.now in
    let r = digest_input_of c.args.proof.now c.args.start es in
    let count : length r.elements ≡ length es = refl in
    elim c.match-from_leaf_digests.branch [
      | in-Ok w ↦ (
        (leads_is_accepted s r c.args.root.now).1 (inl w.in-Ok.ensures.accepted),
        IfOk-at_ok (IsClaim g.H.Digest.Digest.EMPTY s r) (sym w.claim-is ∙ c.in-Ok-claim.is) w.claim_of-claim.ensures.claim,
      )
      | in-Err+in-Empty w ↦
          (let led = empty_led s r c.args.root.now w.in-Err.error es w.in-Empty.is w.in-Err.ensures.err in
          let empty = (let none : length es ≡ 0 = ap length led.1 in
          let accepted : IsEmptyInput r = elim ((leads_is_accepted s r c.args.root.now).0 led.0) [ inl a ↦ absurd (omega (arith, a.nonempty, count, none)) | inr a ↦ a.0 ] in accepted) in (
            led.0,
            IfOk-at_ok (λ k. (q : RangeInput g.row.H-Digest.Denot) → IsEmptyInput q → IsClaim g.H.Digest.Digest.EMPTY s q k)
                (sym w.claim-is ∙ c.in-Ok-claim.is) w.empty_claim.ensures.claim r empty,
          ))
    ]
