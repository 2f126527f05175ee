use Rattle.std.proofs.Common.{[], ◌∷◌, subst, refl, inl, inr, rules}
use Rattle.merkle_codec.specs.NumberLaws.{lawful_locations}
use Rattle.merkle_range.specs.Input.{range_input}
use Rattle.merkle_base.specs.Scheme.{scheme_of}
use Rattle.merkle_verifier.specs.Answers.{JudgesRange, accepted, rejected}
use Rattle.merkle_sha256.specs.PlainHashings.{sha256_hashing}
use Rattle.merkle_verifier.proofs.Spelled.{unread}
use Rattle.merkle_verifier.proofs.checks.check_element.Goals as goal

pub returns-in-Err : goal.returns-in-Err
returns-in-Err g c =
    let F = g.F.Family in
    let s = scheme_of sha256_hashing c.args.hasher.now F.rule F.MAX_LEAVES F.DOMAIN in
    let fits = lawful_locations F.rule F.MAX_LEAVES F.MAX_NODES g.met.F.Family.lawful in
    elim (unread F.MAX_LEAVES fits c.args.proof.now c.in-Err.error c.in-Err.ensures.err
    (λ n k ds. JudgesRange s c.in-Some.root (range_input s n k ds c.args.location (c.args.element.now ∷ []))) c.answer.result c.answer.ensures) [
      | inl memory ↦ inl memory
      | inr refused ↦ inr (inr (c.in-Some.root, c.in-Some.ensures, refused))
    ]

pub returns-in-Ok-true : goal.returns-in-Ok-true
returns-in-Ok-true g c =
    let F = g.F.Family in
    let s = scheme_of sha256_hashing c.args.hasher.now F.rule F.MAX_LEAVES F.DOMAIN in
    let p = c.in-Ok.proof in
    let checks = c.in-Ok-true.ensures in
    let is = c.in-Ok-true.field-0-test in
    inr (inr (
      c.in-Some.root,
      c.in-Some.ensures,
      inr (
        p.leaves,
        p.inactive_peaks,
        p.digests.items,
        c.in-Ok.ensures.ok,
        subst (λ a. JudgesRange s c.in-Some.root (range_input s p.leaves p.inactive_peaks p.digests.items a (c.args.element.now ∷ [])) accepted)
            c.new.ensures (inl (refl, checks.exact.0 is, checks.sound is)),
      ),
    ))

pub returns-in-Ok-false : goal.returns-in-Ok-false
returns-in-Ok-false g c =
    let F = g.F.Family in
    let s = scheme_of sha256_hashing c.args.hasher.now F.rule F.MAX_LEAVES F.DOMAIN in
    let p = c.in-Ok.proof in
    let checks = c.in-Ok-false.ensures in
    let not = c.in-Ok-false.field-0-test in
    inr (inr (
      c.in-Some.root,
      c.in-Some.ensures,
      inr (
        p.leaves,
        p.inactive_peaks,
        p.digests.items,
        c.in-Ok.ensures.ok,
        subst (λ a. JudgesRange s c.in-Some.root (range_input s p.leaves p.inactive_peaks p.digests.items a (c.args.element.now ∷ [])) rejected) c.new.ensures
            (inr (refl, (λ leads. search (rules, checks.exact.1 leads, not)), λ xs k few enough root-is honest. search (rules, checks.honest xs k few enough root-is honest, not))),
      ),
    ))
