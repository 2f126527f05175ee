use Rattle.std.proofs.Common.{[], ◌∷◌, length, sym, ap, subst, refl, inl, inr, rules, ◌∙◌}
use Rattle.merkle_codec.specs.NumberLaws.{lawful_locations}
use Rattle.merkle_range.specs.Input.{digest_input}
use Rattle.merkle_base.specs.Scheme.{scheme_of}
use Rattle.merkle_verifier.specs.Answers.{JudgesRange, accepted, rejected}
use Rattle.merkle_sha256.specs.PlainHashings.{sha256_hashing}
use Rattle.merkle_verifier.proofs.Spelled.{unread}
use Rattle.merkle_verifier.proofs.digest_checks.check_leaf_digest.Goals as goal

pub returns-in_default-from_bytes : goal.returns-in_default-from_bytes
returns-in_default-from_bytes g c = inr (inr (c.in-Some.root, c.in-Some.ensures, inl (refl, λ d e. c.in_default-from_bytes.ensures (ap length (sym e) ∙ d.sized))))

pub returns-in-Err : goal.returns-in-Err
returns-in-Err g c =
    let F = g.F.Family in
    let s = scheme_of sha256_hashing c.args.hasher.now F.rule F.MAX_LEAVES F.DOMAIN in
    let fits = lawful_locations F.rule F.MAX_LEAVES F.MAX_NODES g.met.F.Family.lawful in
    elim (unread F.MAX_LEAVES fits c.args.proof.now c.in-Err.error c.in-Err.ensures.err
    (λ n k ds. JudgesRange s c.in-Some.root (digest_input n k ds c.args.location (c.in-Some-from_bytes.leaf ∷ []))) c.answer.result c.answer.ensures) [
      | inl memory ↦ inl memory
      | inr refused ↦ inr (inr (c.in-Some.root, c.in-Some.ensures, inr (c.in-Some-from_bytes.leaf, c.in-Some-from_bytes.ensures, refused)))
    ]

pub returns-in-Ok-true : goal.returns-in-Ok-true
returns-in-Ok-true g c =
    let F = g.F.Family in
    let s = scheme_of sha256_hashing c.args.hasher.now F.rule F.MAX_LEAVES F.DOMAIN in
    let p = c.in-Ok.proof in
    let checks = c.in-Ok-true.ensures in
    let is = c.in-Ok-true.field-0-test in
    inr (inr (
      c.in-Some.root,
      c.in-Some.ensures,
      inr (
        c.in-Some-from_bytes.leaf,
        c.in-Some-from_bytes.ensures,
        inr (
          p.leaves,
          p.inactive_peaks,
          p.digests.items,
          c.in-Ok.ensures.ok,
          subst (λ a. JudgesRange s c.in-Some.root (digest_input p.leaves p.inactive_peaks p.digests.items a (c.in-Some-from_bytes.leaf ∷ []))
              accepted) c.new.ensures (inl (refl, checks.exact.0 is, checks.sound is)),
        ),
      ),
    ))

pub returns-in-Ok-false : goal.returns-in-Ok-false
returns-in-Ok-false g c =
    let F = g.F.Family in
    let s = scheme_of sha256_hashing c.args.hasher.now F.rule F.MAX_LEAVES F.DOMAIN in
    let p = c.in-Ok.proof in
    let checks = c.in-Ok-false.ensures in
    let not = c.in-Ok-false.field-0-test in
    inr (inr (
      c.in-Some.root,
      c.in-Some.ensures,
      inr (
        c.in-Some-from_bytes.leaf,
        c.in-Some-from_bytes.ensures,
        inr (
          p.leaves,
          p.inactive_peaks,
          p.digests.items,
          c.in-Ok.ensures.ok,
          subst (λ a. JudgesRange s c.in-Some.root (digest_input p.leaves p.inactive_peaks p.digests.items a (c.in-Some-from_bytes.leaf ∷ [])) rejected) c.new.ensures
              (inr (refl, (λ leads. search (rules, checks.exact.1 leads, not)), λ xs k few enough root-is honest. search (rules, checks.honest xs k few enough root-is honest, not))),
        ),
      ),
    ))
