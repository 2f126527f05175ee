use Rattle.std.proofs.Common.{◌≡◌, [], false, IsTrue, Result, Ok, ap, sym, ◌∙◌}
use Rattle.merkle_root_theory.specs.Reconstruction.{reconstructed}
use Rattle.merkle_range.specs.Input.{range_input}
use Rattle.merkle_range.proofs.Answered.{err_is_no_ok}
use Rattle.merkle_proof.proofs.ScatteredRoot.{empty_accepted}
use Rattle.merkle_proof.proofs.multi_checks.verify_empty.Goals as goal

never : IsTrue false → ⊥
never e = cc

ok_inj : {A E : Type 0} (a b : A) → ◌≡◌ {A = Result A E} (Ok a) (Ok b) → a ≡ b
ok_inj a b f = cc

pub returns-in-Ok : goal.returns-in-Ok
returns-in-Ok g c =
    let parts = c.args.parts.now in
    let w = empty_accepted (g.H.Hasher.scheme c.args.hasher.now) parts.leaves parts.inactive parts.digests.now c.args.root.now in
    let equal = g.met.H.Digest.Digest.eq_decides c.in-Ok.computed c.args.root.now in
    let start = ap (λ n. reconstructed (g.H.Hasher.scheme c.args.hasher.now) (range_input (g.H.Hasher.scheme c.args.hasher.now) parts.leaves parts.inactive parts.digests.now n [])) c.new.ensures in
    (λ t. w.0 (sym (c.in-Ok.ensures ∙ start) ∙ ap Ok (equal.0 (sym c.eq.ensures ∙ t))), λ ok. c.eq.ensures ∙ equal.1 (ok_inj _ _ (c.in-Ok.ensures ∙ start ∙ w.1 ok)))

pub returns-in-Err : goal.returns-in-Err
returns-in-Err g c =
    let parts = c.args.parts.now in
    let w = empty_accepted (g.H.Hasher.scheme c.args.hasher.now) parts.leaves parts.inactive parts.digests.now c.args.root.now in
    let start = ap (λ n. reconstructed (g.H.Hasher.scheme c.args.hasher.now) (range_input (g.H.Hasher.scheme c.args.hasher.now) parts.leaves parts.inactive parts.digests.now n [])) c.new.ensures in
    (λ e. absurd (never e), λ ok. absurd (err_is_no_ok _ _ (c.in-Err.ensures ∙ start ∙ w.1 ok)))
