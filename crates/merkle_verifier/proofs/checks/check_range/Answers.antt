use Rattle.std.proofs.Common.{sym, ap, subst, refl, inl, inr, rules}
use Rattle.std.specs.Prelude.{IfSome, IsNone}
use Rattle.merkle_codec.specs.NumberLaws.{lawful_locations}
use Rattle.merkle_range.specs.Input.{range_input}
use Rattle.merkle_base.specs.Scheme.{scheme_of}
use Rattle.merkle_root_theory.specs.Walk.{bytes_of}
use Rattle.merkle_verifier.specs.Answers.{JudgesRange, accepted, rejected}
use Rattle.merkle_verifier.specs.Inputs.{IsCut}
use Rattle.merkle_sha256.specs.PlainHashings.{sha256_hashing}
use Rattle.merkle_verifier.proofs.Spelled.{unread}
use Rattle.merkle_verifier.proofs.checks.check_range.Goals as goal

pub returns-in-Ok-None : goal.returns-in-Ok-None
returns-in-Ok-None g c = inr (inr (c.in-Some.root, c.in-Some.ensures, inl (refl, c.in-Ok-None.ensures.none (subst IsNone (sym c.in-Ok-None.field-0-is) refl))))

pub returns-in-Err-read_proof : goal.returns-in-Err-read_proof
returns-in-Err-read_proof g c =
    let F = g.F.Family in
    let s = scheme_of sha256_hashing c.args.hasher.now F.rule F.MAX_LEAVES F.DOMAIN in
    let es = bytes_of c.in-Ok-Some.elements.items in
    let cut : IsCut c.args.elements.now.lengths.now c.args.elements.now.bytes.now es =
    subst (λ o. IfSome o (λ parts. IsCut c.args.elements.now.lengths.now c.args.elements.now.bytes.now (bytes_of parts.items)))
    c.in-Ok-Some.field-0-is c.in-Ok-Some.ensures.some in
    let fits = lawful_locations F.rule F.MAX_LEAVES F.MAX_NODES g.met.F.Family.lawful in
    elim (unread F.MAX_LEAVES fits c.args.proof.now c.in-Err-read_proof.error c.in-Err-read_proof.ensures.err
    (λ n k ds. JudgesRange s c.in-Some.root (range_input s n k ds c.args.start es)) c.answer.result c.answer.ensures) [
      | inl memory ↦ inl memory
      | inr refused ↦ inr (inr (c.in-Some.root, c.in-Some.ensures, inr (es, cut, refused)))
    ]

pub returns-in-Ok-true : goal.returns-in-Ok-true
returns-in-Ok-true g c =
    let F = g.F.Family in
    let s = scheme_of sha256_hashing c.args.hasher.now F.rule F.MAX_LEAVES F.DOMAIN in
    let es = bytes_of c.in-Ok-Some.elements.items in
    let cut : IsCut c.args.elements.now.lengths.now c.args.elements.now.bytes.now es =
    subst (λ o. IfSome o (λ parts. IsCut c.args.elements.now.lengths.now c.args.elements.now.bytes.now (bytes_of parts.items)))
    c.in-Ok-Some.field-0-is c.in-Ok-Some.ensures.some in
    let p = c.in-Ok.proof in
    let checks = c.in-Ok-true.ensures in
    let is = c.in-Ok-true.field-0-test in
    inr (inr (
      c.in-Some.root,
      c.in-Some.ensures,
      inr (
        es,
        cut,
        inr (
          p.leaves,
          p.inactive_peaks,
          p.digests.items,
          c.in-Ok.ensures.ok,
          subst (λ e. JudgesRange s c.in-Some.root (range_input s p.leaves p.inactive_peaks p.digests.items c.args.start e) accepted) (ap bytes_of c.deref.ensures.value)
              (subst (λ a. JudgesRange s c.in-Some.root (range_input s p.leaves p.inactive_peaks p.digests.items a (bytes_of c.deref.result.now))
              accepted) c.new.ensures (inl (refl, checks.exact.0 is, checks.sound is))),
        ),
      ),
    ))

pub returns-in-Ok-false : goal.returns-in-Ok-false
returns-in-Ok-false g c =
    let F = g.F.Family in
    let s = scheme_of sha256_hashing c.args.hasher.now F.rule F.MAX_LEAVES F.DOMAIN in
    let es = bytes_of c.in-Ok-Some.elements.items in
    let cut : IsCut c.args.elements.now.lengths.now c.args.elements.now.bytes.now es =
    subst (λ o. IfSome o (λ parts. IsCut c.args.elements.now.lengths.now c.args.elements.now.bytes.now (bytes_of parts.items)))
    c.in-Ok-Some.field-0-is c.in-Ok-Some.ensures.some in
    let p = c.in-Ok.proof in
    let checks = c.in-Ok-false.ensures in
    let not = c.in-Ok-false.field-0-test in
    inr (inr (
      c.in-Some.root,
      c.in-Some.ensures,
      inr (
        es,
        cut,
        inr (
          p.leaves,
          p.inactive_peaks,
          p.digests.items,
          c.in-Ok.ensures.ok,
          subst (λ e. JudgesRange s c.in-Some.root (range_input s p.leaves p.inactive_peaks p.digests.items c.args.start e) rejected) (ap bytes_of c.deref.ensures.value)
              (subst (λ a. JudgesRange s c.in-Some.root (range_input s p.leaves p.inactive_peaks p.digests.items a (bytes_of c.deref.result.now)) rejected) c.new.ensures
              (inr (refl, (λ leads. search (rules, checks.exact.1 leads, not)), λ xs k few enough root-is honest. search (rules, checks.honest xs k few enough root-is honest, not)))),
        ),
      ),
    ))
