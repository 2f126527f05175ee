use Rattle.std.proofs.Common.{◌≡◌, length, sym, ap, subst, refl, inl, inr, rules, ◌∙◌}
use Rattle.std.specs.Prelude.{IfSome, IsNone}
use Rattle.merkle_codec.specs.NumberLaws.{lawful_locations}
use Rattle.merkle_proof.specs.Input.{digested, multi_digest_input}
use Rattle.merkle_base.specs.Scheme.{scheme_of}
use Rattle.merkle_root_theory.specs.Walk.{bytes_of}
use Rattle.merkle_verifier.specs.Answers.{JudgesMulti, accepted, rejected}
use Rattle.merkle_verifier.specs.Inputs.{IsCut, leaf_digests_at, located}
use Rattle.merkle_sha256.specs.PlainHashings.{sha256_hashing}
use Rattle.merkle_verifier.proofs.Located.{digested-located}
use Rattle.merkle_verifier.proofs.Spelled.{unread}
use Rattle.merkle_verifier.proofs.checks.check_scattered.Goals as goal

pub returns-then-locations-elements : goal.returns-then-locations-elements
returns-then-locations-elements g c = inr (inr (c.in-Some.root, c.in-Some.ensures, inl (refl, λ same. search (rules, c.if-locations-elements.true, same))))

pub returns-in-Ok-None : goal.returns-in-Ok-None
returns-in-Ok-None g c =
    let same : length c.args.locations.now ≡ length c.args.elements.now.lengths.now = search (rules, c.if-locations-elements.false) in
    inr (inr (c.in-Some.root, c.in-Some.ensures, inr (same, inl (refl, c.in-Ok-None.ensures.none (subst IsNone (sym c.in-Ok-None.field-0-is) refl)))))

pub returns-in-Err-read_proof : goal.returns-in-Err-read_proof
returns-in-Err-read_proof g c =
    let F = g.F.Family in
    let s = scheme_of sha256_hashing c.args.hasher.now F.rule F.MAX_LEAVES F.DOMAIN in
    let same : length c.args.locations.now ≡ length c.args.elements.now.lengths.now = search (rules, c.if-locations-elements.false) in
    let es = bytes_of c.in-Ok-Some.elements.items in
    let cut : IsCut c.args.elements.now.lengths.now c.args.elements.now.bytes.now es =
    subst (λ o. IfSome o (λ parts. IsCut c.args.elements.now.lengths.now c.args.elements.now.bytes.now (bytes_of parts.items)))
    c.in-Ok-Some.field-0-is c.in-Ok-Some.ensures.some in
    let fits = lawful_locations F.rule F.MAX_LEAVES F.MAX_NODES g.met.F.Family.lawful in
    elim (unread F.MAX_LEAVES fits c.args.proof.now c.in-Err-read_proof.error c.in-Err-read_proof.ensures.err
    (λ n k ds. JudgesMulti s c.in-Some.root
    (multi_digest_input n k ds (located c.args.locations.now (leaf_digests_at s.hashing s.rule c.args.locations.now es)))) c.answer.result c.answer.ensures) [
      | inl memory ↦ inl memory
      | inr refused ↦ inr (inr (c.in-Some.root, c.in-Some.ensures, inr (same, inr (es, cut, refused))))
    ]

pub returns-in-Ok-true : goal.returns-in-Ok-true
returns-in-Ok-true g c =
    let F = g.F.Family in
    let s = scheme_of sha256_hashing c.args.hasher.now F.rule F.MAX_LEAVES F.DOMAIN in
    let same : length c.args.locations.now ≡ length c.args.elements.now.lengths.now = search (rules, c.if-locations-elements.false) in
    let es = bytes_of c.in-Ok-Some.elements.items in
    let cut : IsCut c.args.elements.now.lengths.now c.args.elements.now.bytes.now es =
    subst (λ o. IfSome o (λ parts. IsCut c.args.elements.now.lengths.now c.args.elements.now.bytes.now (bytes_of parts.items)))
    c.in-Ok-Some.field-0-is c.in-Ok-Some.ensures.some in
    let lent : c.deref-2.result.now ≡ located c.args.locations.now c.in-Ok-Some.elements.items = c.deref-2.ensures.value ∙ c.in-Ok.ensures ∙ ap (located c.args.locations.now) c.deref.ensures.value in
    let leaves : digested s.hashing s.rule c.deref-2.result.now
    ≡ located c.args.locations.now (leaf_digests_at s.hashing s.rule c.args.locations.now es) = ap (digested s.hashing s.rule) lent
    ∙ digested-located s.hashing s.rule c.args.locations.now c.in-Ok-Some.elements.items in
    let p = c.in-Ok-read_proof.proof in
    let checks = c.in-Ok-true.ensures in
    let is = c.in-Ok-true.field-0-test in
    inr (inr (
      c.in-Some.root,
      c.in-Some.ensures,
      inr (
        same,
        inr (
          es,
          cut,
          inr (
            p.leaves,
            p.inactive_peaks,
            p.digests.items,
            c.in-Ok-read_proof.ensures.ok,
            subst (λ ls. JudgesMulti s c.in-Some.root (multi_digest_input p.leaves p.inactive_peaks p.digests.items ls) accepted) leaves (inl (refl, checks.exact.0 is, checks.sound is)),
          ),
        ),
      ),
    ))

pub returns-in-Ok-false : goal.returns-in-Ok-false
returns-in-Ok-false g c =
    let F = g.F.Family in
    let s = scheme_of sha256_hashing c.args.hasher.now F.rule F.MAX_LEAVES F.DOMAIN in
    let same : length c.args.locations.now ≡ length c.args.elements.now.lengths.now = search (rules, c.if-locations-elements.false) in
    let es = bytes_of c.in-Ok-Some.elements.items in
    let cut : IsCut c.args.elements.now.lengths.now c.args.elements.now.bytes.now es =
    subst (λ o. IfSome o (λ parts. IsCut c.args.elements.now.lengths.now c.args.elements.now.bytes.now (bytes_of parts.items)))
    c.in-Ok-Some.field-0-is c.in-Ok-Some.ensures.some in
    let lent : c.deref-2.result.now ≡ located c.args.locations.now c.in-Ok-Some.elements.items = c.deref-2.ensures.value ∙ c.in-Ok.ensures ∙ ap (located c.args.locations.now) c.deref.ensures.value in
    let leaves : digested s.hashing s.rule c.deref-2.result.now
    ≡ located c.args.locations.now (leaf_digests_at s.hashing s.rule c.args.locations.now es) = ap (digested s.hashing s.rule) lent
    ∙ digested-located s.hashing s.rule c.args.locations.now c.in-Ok-Some.elements.items in
    let p = c.in-Ok-read_proof.proof in
    let checks = c.in-Ok-false.ensures in
    let not = c.in-Ok-false.field-0-test in
    inr (inr (
      c.in-Some.root,
      c.in-Some.ensures,
      inr (
        same,
        inr (
          es,
          cut,
          inr (
            p.leaves,
            p.inactive_peaks,
            p.digests.items,
            c.in-Ok-read_proof.ensures.ok,
            subst (λ ls. JudgesMulti s c.in-Some.root (multi_digest_input p.leaves p.inactive_peaks p.digests.items ls) rejected) leaves
                (inr (refl, (λ accepts. search (rules, checks.exact.1 accepts, not)), λ xs k few enough root-is honest. search (rules, checks.honest xs k few enough root-is honest, not))),
          ),
        ),
      ),
    ))
