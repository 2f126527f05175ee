use Rattle.std.proofs.Common.{◌≡◌, length, sym, subst, refl, inl, inr, rules}
use Rattle.std.specs.Prelude.{IfSome, IsNone}
use Rattle.merkle_codec.specs.NumberLaws.{lawful_locations}
use Rattle.merkle_proof.specs.Input.{multi_digest_input}
use Rattle.merkle_base.specs.Scheme.{scheme_of}
use Rattle.merkle_verifier.specs.Answers.{JudgesMulti, accepted, rejected}
use Rattle.merkle_verifier.specs.Inputs.{joined_digests, located}
use Rattle.merkle_sha256.specs.PlainHashings.{sha256_hashing}
use Rattle.merkle_verifier.proofs.Spelled.{unread}
use Rattle.merkle_verifier.proofs.digest_checks.check_scattered_digests.Goals as goal

pub returns-in-Ok-None : goal.returns-in-Ok-None
returns-in-Ok-None g c = inr (inr (c.in-Some.root, c.in-Some.ensures, inl (refl, c.in-Ok-None.ensures.none (subst IsNone (sym c.in-Ok-None.field-0-is) refl))))

pub returns-then-locations-len : goal.returns-then-locations-len
returns-then-locations-len g c =
    let ls = c.in-Ok-Some.leaves.items in
    let joined : joined_digests ls ≡ c.args.digests.now = subst (λ o. IfSome o (λ all. joined_digests all.items ≡ c.args.digests.now)) c.in-Ok-Some.field-0-is c.in-Ok-Some.ensures.some in
    inr (inr (c.in-Some.root, c.in-Some.ensures, inr (ls, joined, inl (refl, λ same. search (rules, c.if-locations-len.true, c.len.ensures, same)))))

pub returns-in-Err-read_proof : goal.returns-in-Err-read_proof
returns-in-Err-read_proof g c =
    let F = g.F.Family in
    let s = scheme_of sha256_hashing c.args.hasher.now F.rule F.MAX_LEAVES F.DOMAIN in
    let ls = c.in-Ok-Some.leaves.items in
    let joined : joined_digests ls ≡ c.args.digests.now = subst (λ o. IfSome o (λ all. joined_digests all.items ≡ c.args.digests.now)) c.in-Ok-Some.field-0-is c.in-Ok-Some.ensures.some in
    let same : length c.args.locations.now ≡ length ls = search (rules, c.if-locations-len.false, c.len.ensures) in
    let fits = lawful_locations F.rule F.MAX_LEAVES F.MAX_NODES g.met.F.Family.lawful in
    elim (unread F.MAX_LEAVES fits c.args.proof.now c.in-Err-read_proof.error c.in-Err-read_proof.ensures.err
    (λ n k ds. JudgesMulti s c.in-Some.root (multi_digest_input n k ds (located c.args.locations.now ls))) c.answer.result c.answer.ensures) [
      | inl memory ↦ inl memory
      | inr refused ↦ inr (inr (c.in-Some.root, c.in-Some.ensures, inr (ls, joined, inr (same, refused))))
    ]

pub returns-in-Ok-true : goal.returns-in-Ok-true
returns-in-Ok-true g c =
    let F = g.F.Family in
    let s = scheme_of sha256_hashing c.args.hasher.now F.rule F.MAX_LEAVES F.DOMAIN in
    let ls = c.in-Ok-Some.leaves.items in
    let joined : joined_digests ls ≡ c.args.digests.now = subst (λ o. IfSome o (λ all. joined_digests all.items ≡ c.args.digests.now)) c.in-Ok-Some.field-0-is c.in-Ok-Some.ensures.some in
    let same : length c.args.locations.now ≡ length ls = search (rules, c.if-locations-len.false, c.len.ensures) in
    let paired : c.in-Ok.located.items ≡ located c.args.locations.now ls = subst (λ all. c.in-Ok.located.items ≡ located c.args.locations.now all) c.deref.ensures.value c.in-Ok.ensures in
    let lent : c.deref-2.result.now ≡ located c.args.locations.now ls = subst (λ all. all ≡ located c.args.locations.now ls) (sym c.deref-2.ensures.value) paired in
    let p = c.in-Ok-read_proof.proof in
    let checks = c.in-Ok-true.ensures in
    let is = c.in-Ok-true.field-0-test in
    inr (inr (
      c.in-Some.root,
      c.in-Some.ensures,
      inr (
        ls,
        joined,
        inr (
          same,
          inr (
            p.leaves,
            p.inactive_peaks,
            p.digests.items,
            c.in-Ok-read_proof.ensures.ok,
            subst (λ all. JudgesMulti s c.in-Some.root (multi_digest_input p.leaves p.inactive_peaks p.digests.items all) accepted) lent (inl (refl, checks.exact.0 is, checks.sound is)),
          ),
        ),
      ),
    ))

pub returns-in-Ok-false : goal.returns-in-Ok-false
returns-in-Ok-false g c =
    let F = g.F.Family in
    let s = scheme_of sha256_hashing c.args.hasher.now F.rule F.MAX_LEAVES F.DOMAIN in
    let ls = c.in-Ok-Some.leaves.items in
    let joined : joined_digests ls ≡ c.args.digests.now = subst (λ o. IfSome o (λ all. joined_digests all.items ≡ c.args.digests.now)) c.in-Ok-Some.field-0-is c.in-Ok-Some.ensures.some in
    let same : length c.args.locations.now ≡ length ls = search (rules, c.if-locations-len.false, c.len.ensures) in
    let paired : c.in-Ok.located.items ≡ located c.args.locations.now ls = subst (λ all. c.in-Ok.located.items ≡ located c.args.locations.now all) c.deref.ensures.value c.in-Ok.ensures in
    let lent : c.deref-2.result.now ≡ located c.args.locations.now ls = subst (λ all. all ≡ located c.args.locations.now ls) (sym c.deref-2.ensures.value) paired in
    let p = c.in-Ok-read_proof.proof in
    let checks = c.in-Ok-false.ensures in
    let not = c.in-Ok-false.field-0-test in
    inr (inr (
      c.in-Some.root,
      c.in-Some.ensures,
      inr (
        ls,
        joined,
        inr (
          same,
          inr (
            p.leaves,
            p.inactive_peaks,
            p.digests.items,
            c.in-Ok-read_proof.ensures.ok,
            subst (λ all. JudgesMulti s c.in-Some.root (multi_digest_input p.leaves p.inactive_peaks p.digests.items all) rejected) lent
                (inr (refl, (λ accepts. search (rules, checks.exact.1 accepts, not)), λ xs k few enough root-is honest. search (rules, checks.honest xs k few enough root-is honest, not))),
          ),
        ),
      ),
    ))
