use Rattle.std.proofs.Common.{◌++◌, sym, ap, ◌∙◌}
use Rattle.std.specs.Option.{option_to_list}
use Rattle.merkle_store_theory.specs.StoreProof.{found_at, first_lacking}
use Rattle.merkle_store_theory.specs.StoreValue.{StoreValue}
use Rattle.merkle_verification.specs.PairReads.{read_all}
use Rattle.merkle_verification.proofs.PartReads.{or_skip, or_take, parts_lack, parts_read}
use Rattle.merkle_verification.proofs.store.ProofStore.digests.Goals as goal

pub returns-in-Err-read_each-clause-err : goal.returns-in-Err-read_each-clause-err
returns-in-Err-read_each-clause-err g c = λ other.
    let v = c.args.self.now in let e = c.new-parts.ensures in let p = c.new-parts.result in
    let all = parts_lack v c.args.counts c.args.held c.args.reads.now p.prefix.now p.before.now p.after.now p.suffix.now p.siblings.now e.prefix e.before e.after e.suffix e.siblings in
    let same = sym (ap (λ (w : StoreValue g.row.D.Denot). w.pairs) c.self.view_is) in
    let x = c.in-Err-read_each.ensures.err other in (
      x.0,
      x.1,
      all ∙ or_skip _ _ _ c.in-Ok.ensures.held (or_take _ _ _ (ap (λ z. first_lacking (found_at z) p.before.now) same ∙ x.2)),
    )

pub returns-in-Err-read_each-2-clause-err : goal.returns-in-Err-read_each-2-clause-err
returns-in-Err-read_each-2-clause-err g c = λ other.
    let v = c.args.self.now in let e = c.new-parts.ensures in let p = c.new-parts.result in
    let all = parts_lack v c.args.counts c.args.held c.args.reads.now p.prefix.now p.before.now p.after.now p.suffix.now p.siblings.now e.prefix e.before e.after e.suffix e.siblings in
    let same = sym (ap (λ (w : StoreValue g.row.D.Denot). w.pairs) c.self.view_is) in
    let x = c.in-Err-read_each-2.ensures.err other in (
      x.0,
      x.1,
      all ∙ or_skip _ _ _ c.in-Ok.ensures.held
          (or_skip _ _ _ (ap (λ z. first_lacking (found_at z) p.before.now) same ∙ c.in_default.ensures.held) (or_take _ _ _ (ap (λ z. first_lacking (found_at z) p.after.now) same ∙ x.2))),
    )

pub returns-in-Err-suffix_digest-clause-err : goal.returns-in-Err-suffix_digest-clause-err
returns-in-Err-suffix_digest-clause-err g c = λ other.
    let v = c.args.self.now in let e = c.new-parts.ensures in let p = c.new-parts.result in
    let all = parts_lack v c.args.counts c.args.held c.args.reads.now p.prefix.now p.before.now p.after.now p.suffix.now p.siblings.now e.prefix e.before e.after e.suffix e.siblings in
    let same = sym (ap (λ (w : StoreValue g.row.D.Denot). w.pairs) c.self.view_is) in
    let x = c.in-Err-suffix_digest.ensures.err in (
      x.0,
      x.1,
      all ∙ or_skip _ _ _ c.in-Ok.ensures.held
          (or_skip _ _ _ (ap (λ z. first_lacking (found_at z) p.before.now) same ∙ c.in_default.ensures.held)
          (or_skip _ _ _ (ap (λ z. first_lacking (found_at z) p.after.now) same ∙ c.in_default-read_each.ensures.held) (or_take _ _ _ x.2))),
    )

pub returns-in-Err-read_each-3-clause-err : goal.returns-in-Err-read_each-3-clause-err
returns-in-Err-read_each-3-clause-err g c = λ other.
    let v = c.args.self.now in let e = c.new-parts.ensures in let p = c.new-parts.result in
    let all = parts_lack v c.args.counts c.args.held c.args.reads.now p.prefix.now p.before.now p.after.now p.suffix.now p.siblings.now e.prefix e.before e.after e.suffix e.siblings in
    let same = sym (ap (λ (w : StoreValue g.row.D.Denot). w.pairs) c.self.view_is) in
    let x = c.in-Err-read_each-3.ensures.err other in (
      x.0,
      x.1,
      all ∙ or_skip _ _ _ c.in-Ok.ensures.held
          (or_skip _ _ _ (ap (λ z. first_lacking (found_at z) p.before.now) same ∙ c.in_default.ensures.held)
          (or_skip _ _ _ (ap (λ z. first_lacking (found_at z) p.after.now) same ∙ c.in_default-read_each.ensures.held)
          (or_skip _ _ _ c.in-Ok-suffix_digest.ensures.held (ap (λ z. first_lacking (found_at z) p.siblings.now) same ∙ x.2)))),
    )

pub returns-clause-held : goal.returns-clause-held
returns-clause-held g c =
    let v = c.args.self.now in let e = c.new-parts.ensures in let p = c.new-parts.result in
    let all = parts_lack v c.args.counts c.args.held c.args.reads.now p.prefix.now p.before.now p.after.now p.suffix.now p.siblings.now e.prefix e.before e.after e.suffix e.siblings in
    let same = sym (ap (λ (w : StoreValue g.row.D.Denot). w.pairs) c.self.view_is) in
    all ∙ or_skip _ _ _ c.in-Ok.ensures.held
    (or_skip _ _ _ (ap (λ z. first_lacking (found_at z) p.before.now) same ∙ c.in_default.ensures.held)
    (or_skip _ _ _ (ap (λ z. first_lacking (found_at z) p.after.now) same ∙ c.in_default-read_each.ensures.held)
    (or_skip _ _ _ c.in-Ok-suffix_digest.ensures.held (ap (λ z. first_lacking (found_at z) p.siblings.now) same ∙ c.in_default-read_each-2.ensures.held))))

pub returns-clause-read : goal.returns-clause-read
returns-clause-read g c =
    let h = g.H.Hasher.hashing c.args.hasher.now in
    let v = c.args.self.now in let e = c.new-parts.ensures in let p = c.new-parts.result in
    let same = ap (λ (w : StoreValue g.row.D.Denot). w.pairs) c.self.view_is in
    let one = c.in_ok-digests.digests.items in let two = c.push_some.new.out.items in let three = c.read_each.new.out.items in
    let four = c.read_each-2.new.out.items in let five = c.push_some-2.new.out.items in
    parts_read v h c.args.counts c.args.held c.args.reads.now p.prefix.now p.before.now p.after.now p.suffix.now p.siblings.now one two three four five c.read_each-3.new.out.items
    (option_to_list c.in-Ok.prefix) (option_to_list c.in-Ok-suffix_digest.suffix) e.prefix e.before e.after e.suffix e.siblings c.in-Ok.ensures.read c.in-Ok-suffix_digest.ensures.read
    c.in_ok-digests.ensures.items c.in_ok-push_some.ensures
    (c.in_default.ensures.read h ∙ ap (λ z. two ++ read_all h z p.before.now) same)
    (c.in_default-read_each.ensures.read h ∙ ap (λ z. three ++ read_all h z p.after.now) same)
    c.in_ok-push_some-2.ensures
    (c.in_default-read_each-2.ensures.read h ∙ ap (λ z. five ++ read_all h z p.siblings.now) same)
