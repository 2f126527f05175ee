use Rattle.std.proofs.Common.{◌≡◌, sym, ap, subst, refl, inl, inr, rules}
use Rattle.std.specs.Prelude.{◌↔◌, IsTrue, IfSome, IsNone}
use Rattle.merkle_codec.specs.NumberLaws.{lawful_locations}
use Rattle.merkle_range.specs.Input.{range_input}
use Rattle.merkle_base.specs.Scheme.{scheme_of}
use Rattle.merkle_root_theory.specs.Walk.{bytes_of}
use Rattle.merkle_claim_theory.specs.CheckAnswers.{GivesRoot}
use Rattle.merkle_verifier.specs.Answers.{accepted, rejected, JudgesGrowth}
use Rattle.merkle_verifier.proofs.Grown.{JudgesPinned, grown_accepted, grown_rejected, not_grown}
use Rattle.merkle_verifier.specs.Inputs.{IsCut, joined_digests}
use Rattle.merkle_sha256.specs.PlainHashings.{sha256_hashing}
use Rattle.merkle_verifier.proofs.Spelled.{unread}
use Rattle.merkle_verifier.proofs.checks.check_pinned.Goals as goal

pub returns-in-Ok-None : goal.returns-in-Ok-None
returns-in-Ok-None g c = inr (inr (c.in-Some.old_root, c.in-Some.ensures, inl (refl, c.in-Ok-None.ensures.none (subst IsNone (sym c.in-Ok-None.field-0-is) refl))))

pub returns-in-Ok-None-cut : goal.returns-in-Ok-None-cut
returns-in-Ok-None-cut g c =
    let joined : joined_digests c.in-Ok-Some.pins.items ≡ c.args.old.now.pins.now =
    subst (λ o. IfSome o (λ digests. joined_digests digests.items ≡ c.args.old.now.pins.now)) c.in-Ok-Some.field-0-is c.in-Ok-Some.ensures.some in
    inr (inr (
      c.in-Some.old_root,
      c.in-Some.ensures,
      inr (c.in-Ok-Some.pins.items, joined, inl (refl, c.in-Ok-None-cut.ensures.none (subst IsNone (sym c.in-Ok-None-cut.field-0-is) refl))),
    ))

pub returns-in-Err-read_proof : goal.returns-in-Err-read_proof
returns-in-Err-read_proof g c =
    let F = g.F.Family in
    let s = scheme_of sha256_hashing c.args.hasher.now F.rule F.MAX_LEAVES F.DOMAIN in
    let joined : joined_digests c.in-Ok-Some.pins.items ≡ c.args.old.now.pins.now =
    subst (λ o. IfSome o (λ digests. joined_digests digests.items ≡ c.args.old.now.pins.now)) c.in-Ok-Some.field-0-is c.in-Ok-Some.ensures.some in
    let es = bytes_of c.in-Ok-Some-cut.elements.items in
    let cut : IsCut c.args.elements.now.lengths.now c.args.elements.now.bytes.now es =
    subst (λ o. IfSome o (λ parts. IsCut c.args.elements.now.lengths.now c.args.elements.now.bytes.now (bytes_of parts.items)))
    c.in-Ok-Some-cut.field-0-is c.in-Ok-Some-cut.ensures.some in
    let fits = lawful_locations F.rule F.MAX_LEAVES F.MAX_NODES g.met.F.Family.lawful in
    elim (unread F.MAX_LEAVES fits c.args.proof.now c.in-Err-read_proof.error c.in-Err-read_proof.ensures.err
    (λ n k ds. JudgesGrowth s c.in-Some.old_root c.args.old.now.inactive_peaks c.in-Ok-Some.pins.items c.args.root.now
    (range_input s n k ds c.args.old.now.leaves es)) c.answer.result c.answer.ensures) [
      | inl memory ↦ inl memory
      | inr refused ↦ inr (inr (c.in-Some.old_root, c.in-Some.ensures, inr (c.in-Ok-Some.pins.items, joined, inr (es, cut, refused))))
    ]

pub returns-then-not-gives_root : goal.returns-then-not-gives_root
returns-then-not-gives_root g c =
    let F = g.F.Family in
    let s = scheme_of sha256_hashing c.args.hasher.now F.rule F.MAX_LEAVES F.DOMAIN in
    let joined : joined_digests c.in-Ok-Some.pins.items ≡ c.args.old.now.pins.now =
    subst (λ o. IfSome o (λ digests. joined_digests digests.items ≡ c.args.old.now.pins.now)) c.in-Ok-Some.field-0-is c.in-Ok-Some.ensures.some in
    let es = bytes_of c.in-Ok-Some-cut.elements.items in
    let cut : IsCut c.args.elements.now.lengths.now c.args.elements.now.bytes.now es =
    subst (λ o. IfSome o (λ parts. IsCut c.args.elements.now.lengths.now c.args.elements.now.bytes.now (bytes_of parts.items)))
    c.in-Ok-Some-cut.field-0-is c.in-Ok-Some-cut.ensures.some in
    let p = c.in-Ok.proof in
    let r = range_input s p.leaves p.inactive_peaks p.digests.items c.args.old.now.leaves es in
    let given : IsTrue c.gives_root.result ↔ GivesRoot s c.in-Some.old_root c.args.old.now.leaves c.args.old.now.inactive_peaks c.in-Ok-Some.pins.items =
    subst (λ ps. IsTrue c.gives_root.result ↔ GivesRoot s c.in-Some.old_root c.args.old.now.leaves c.args.old.now.inactive_peaks ps) c.deref.ensures.value
    (subst (λ a. IsTrue c.gives_root.result ↔ GivesRoot s c.in-Some.old_root a c.args.old.now.inactive_peaks c.deref.result.now) c.new-leaves.ensures c.gives_root.ensures) in
    inr (inr (
      c.in-Some.old_root,
      c.in-Some.ensures,
      inr (
        c.in-Ok-Some.pins.items,
        joined,
        inr (
          es,
          cut,
          inr (
            p.leaves,
            p.inactive_peaks,
            p.digests.items,
            c.in-Ok.ensures.ok,
            not_grown s c.in-Some.old_root c.args.old.now.inactive_peaks c.in-Ok-Some.pins.items c.args.root.now r (λ w. search (rules, given.1 w, c.if-not-gives_root.true)),
          ),
        ),
      ),
    ))

pub returns-in-Ok-true : goal.returns-in-Ok-true
returns-in-Ok-true g c =
    let F = g.F.Family in
    let s = scheme_of sha256_hashing c.args.hasher.now F.rule F.MAX_LEAVES F.DOMAIN in
    let joined : joined_digests c.in-Ok-Some.pins.items ≡ c.args.old.now.pins.now =
    subst (λ o. IfSome o (λ digests. joined_digests digests.items ≡ c.args.old.now.pins.now)) c.in-Ok-Some.field-0-is c.in-Ok-Some.ensures.some in
    let es = bytes_of c.in-Ok-Some-cut.elements.items in
    let cut : IsCut c.args.elements.now.lengths.now c.args.elements.now.bytes.now es =
    subst (λ o. IfSome o (λ parts. IsCut c.args.elements.now.lengths.now c.args.elements.now.bytes.now (bytes_of parts.items)))
    c.in-Ok-Some-cut.field-0-is c.in-Ok-Some-cut.ensures.some in
    let p = c.in-Ok.proof in
    let r = range_input s p.leaves p.inactive_peaks p.digests.items c.args.old.now.leaves es in
    let given : IsTrue c.gives_root.result ↔ GivesRoot s c.in-Some.old_root c.args.old.now.leaves c.args.old.now.inactive_peaks c.in-Ok-Some.pins.items =
    subst (λ ps. IsTrue c.gives_root.result ↔ GivesRoot s c.in-Some.old_root c.args.old.now.leaves c.args.old.now.inactive_peaks ps) c.deref.ensures.value
    (subst (λ a. IsTrue c.gives_root.result ↔ GivesRoot s c.in-Some.old_root a c.args.old.now.inactive_peaks c.deref.result.now) c.new-leaves.ensures c.gives_root.ensures) in
    let checks = c.in-Ok-true.ensures in
    let is = c.in-Ok-true.field-0-test in
    let judged : JudgesPinned s c.in-Ok-Some.pins.items c.args.root.now r accepted =
    subst (λ e. JudgesPinned s c.in-Ok-Some.pins.items c.args.root.now (range_input s p.leaves p.inactive_peaks p.digests.items c.args.old.now.leaves e) accepted) (ap bytes_of c.deref-2.ensures.value)
    (subst (λ a. JudgesPinned s c.in-Ok-Some.pins.items c.args.root.now (range_input s p.leaves p.inactive_peaks p.digests.items a (bytes_of c.deref-2.result.now)) accepted) c.new-leaves.ensures
    (subst (λ ps. JudgesPinned s ps c.args.root.now (range_input s p.leaves p.inactive_peaks p.digests.items c.new-leaves.result (bytes_of c.deref-2.result.now)) accepted) c.deref-3.ensures.value
    (inl (refl, checks.exact.0 is, checks.sound is)))) in
    inr (inr (
      c.in-Some.old_root,
      c.in-Some.ensures,
      inr (
        c.in-Ok-Some.pins.items,
        joined,
        inr (
          es,
          cut,
          inr (
            p.leaves,
            p.inactive_peaks,
            p.digests.items,
            c.in-Ok.ensures.ok,
            grown_accepted s c.in-Some.old_root c.args.old.now.inactive_peaks c.in-Ok-Some.pins.items c.args.root.now r (given.0 (search (rules, c.if-not-gives_root.false))) judged,
          ),
        ),
      ),
    ))

pub returns-in-Ok-false : goal.returns-in-Ok-false
returns-in-Ok-false g c =
    let F = g.F.Family in
    let s = scheme_of sha256_hashing c.args.hasher.now F.rule F.MAX_LEAVES F.DOMAIN in
    let joined : joined_digests c.in-Ok-Some.pins.items ≡ c.args.old.now.pins.now =
    subst (λ o. IfSome o (λ digests. joined_digests digests.items ≡ c.args.old.now.pins.now)) c.in-Ok-Some.field-0-is c.in-Ok-Some.ensures.some in
    let es = bytes_of c.in-Ok-Some-cut.elements.items in
    let cut : IsCut c.args.elements.now.lengths.now c.args.elements.now.bytes.now es =
    subst (λ o. IfSome o (λ parts. IsCut c.args.elements.now.lengths.now c.args.elements.now.bytes.now (bytes_of parts.items)))
    c.in-Ok-Some-cut.field-0-is c.in-Ok-Some-cut.ensures.some in
    let p = c.in-Ok.proof in
    let r = range_input s p.leaves p.inactive_peaks p.digests.items c.args.old.now.leaves es in
    let checks = c.in-Ok-false.ensures in
    let not = c.in-Ok-false.field-0-test in
    let judged : JudgesPinned s c.in-Ok-Some.pins.items c.args.root.now r rejected =
    subst (λ e. JudgesPinned s c.in-Ok-Some.pins.items c.args.root.now (range_input s p.leaves p.inactive_peaks p.digests.items c.args.old.now.leaves e) rejected) (ap bytes_of c.deref-2.ensures.value)
    (subst (λ a. JudgesPinned s c.in-Ok-Some.pins.items c.args.root.now (range_input s p.leaves p.inactive_peaks p.digests.items a (bytes_of c.deref-2.result.now)) rejected) c.new-leaves.ensures
    (subst (λ ps. JudgesPinned s ps c.args.root.now (range_input s p.leaves p.inactive_peaks p.digests.items c.new-leaves.result (bytes_of c.deref-2.result.now)) rejected) c.deref-3.ensures.value
    (inr (refl, (λ accepts. search (rules, checks.exact.1 accepts, not)), λ xs k few enough root-is honest. search (rules, checks.honest xs k few enough root-is honest, not))))) in
    inr (inr (
      c.in-Some.old_root,
      c.in-Some.ensures,
      inr (
        c.in-Ok-Some.pins.items,
        joined,
        inr (
          es,
          cut,
          inr (
            p.leaves,
            p.inactive_peaks,
            p.digests.items,
            c.in-Ok.ensures.ok,
            grown_rejected s c.in-Some.old_root c.args.old.now.inactive_peaks c.in-Ok-Some.pins.items c.args.root.now r judged,
          ),
        ),
      ),
    ))
