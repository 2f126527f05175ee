use Rattle.std.proofs.Common.{inl, sym, ap, ◌∙◌, subst, refl}
use Rattle.merkle_base.specs.Scheme.{scheme_of}
use Rattle.merkle_proof.specs.declared.proof.Proof.{Proof}
use Rattle.merkle_store_theory.specs.StoreValue.{StoreValue}
use Rattle.merkle_verification.specs.StoreCalls.{IsStoreRefusal}
use Rattle.merkle_verification.specs.StoreParts.{IsFoldedCount}
use Rattle.merkle_verification.proofs.AnsweredProofs.{asked, shorter_refused, lacking_refused, is_answered}
use Rattle.merkle_verification.proofs.store.ProofStore.answer.Goals as goal

pub returns-in-Err-clause-err : goal.returns-in-Err-clause-err
returns-in-Err-clause-err g c = λ other.
    let h = g.H.Hasher.hashing c.args.hasher.now in
    let s = scheme_of h (g.H.Hasher.bagging_of c.args.hasher.now) g.F.Family.rule g.F.Family.MAX_LEAVES g.F.Family.DOMAIN in
    rw (g.met.H.Hasher.scheme_is c.args.hasher.now) (subst (λ (w : StoreValue g.row.D.Denot). IsStoreRefusal s w c.args.range.start c.args.range.end c.in-Err.error) c.self.view_is
    (inl (c.in-Err.ensures.err other)))

pub returns-in-Some-clause-err : goal.returns-in-Some-clause-err
returns-in-Some-clause-err g c = λ other.
    let h = g.H.Hasher.hashing c.args.hasher.now in
    let s = scheme_of h (g.H.Hasher.bagging_of c.args.hasher.now) g.F.Family.rule g.F.Family.MAX_LEAVES g.F.Family.DOMAIN in
    let i = c.self.inside in let a = c.args.range.start in let b = c.args.range.end in let n = c.counts-counts.ensures in
    let v : StoreValue g.row.D.Denot = record {
      leaves = i.leaves;
      inactive = i.inactive_peaks;
      bagging = i.bagging;
      root = i.root;
      start = i.range.start;
      end = i.range.end;
      pairs = i.pairs;
      suffix_peaks = i.suffix_peaks.items;
      prefix = i.prefix;
      suffix = i.suffix;
    } in
    let w = asked s v c.args.self.now a b c.in-Ok.plan c.counts-counts.result i.held _ c.self.view_is c.in-Ok.ensures.ok n.before n.after n.folded n.single c.self.invariant.0 refl
    c.in-Ok.ensures.within.0 c.in-Ok.ensures.within.1 in
    let count = subst (λ (z : StoreValue g.row.D.Denot). IsFoldedCount g.F.Family.rule z.bagging z.leaves z.inactive z.start i.held) c.self.view_is c.self.invariant.0 in
    rw (g.met.H.Hasher.scheme_is c.args.hasher.now)
    (shorter_refused s c.args.self.now a b c.counts-counts.result i.held _ w c.in-Some.position (sym c.in-Some.is ∙ c.lacking_prefix.ensures i.held count))

pub returns-in-Ok-digests-clause-ok : goal.returns-in-Ok-digests-clause-ok
returns-in-Ok-digests-clause-ok g c =
    let h = g.H.Hasher.hashing c.args.hasher.now in
    let s = scheme_of h (g.H.Hasher.bagging_of c.args.hasher.now) g.F.Family.rule g.F.Family.MAX_LEAVES g.F.Family.DOMAIN in
    let i = c.self.inside in let a = c.args.range.start in let b = c.args.range.end in let n = c.counts-counts.ensures in
    let v : StoreValue g.row.D.Denot = record {
      leaves = i.leaves;
      inactive = i.inactive_peaks;
      bagging = i.bagging;
      root = i.root;
      start = i.range.start;
      end = i.range.end;
      pairs = i.pairs;
      suffix_peaks = i.suffix_peaks.items;
      prefix = i.prefix;
      suffix = i.suffix;
    } in
    let w = asked s v c.args.self.now a b c.in-Ok.plan c.counts-counts.result i.held c.reads.result.now c.self.view_is c.in-Ok.ensures.ok n.before
    n.after n.folded n.single c.self.invariant.0 c.reads.ensures
    c.in-Ok.ensures.within.0 c.in-Ok.ensures.within.1 in
    let count = subst (λ (z : StoreValue g.row.D.Denot). IsFoldedCount g.F.Family.rule z.bagging z.leaves z.inactive z.start i.held) c.self.view_is c.self.invariant.0 in
    let p : Proof g.row.F.Denot g.row.D.Denot g.row.F-Peaks.Denot g.row.F-ParentHeights.Denot = record { leaves = i.leaves; inactive_peaks = i.inactive_peaks; digests = c.in-Ok-digests.digests } in
    rw (g.met.H.Hasher.scheme_is c.args.hasher.now)
    (is_answered s c.args.self.now a b c.counts-counts.result i.held c.reads.result.now w (sym c.in_default.is ∙ c.lacking_prefix.ensures i.held count) c.in-Ok-digests.ensures.held p
    (ap (λ (z : StoreValue g.row.D.Denot). z.leaves) c.self.view_is) (ap (λ (z : StoreValue g.row.D.Denot). z.inactive) c.self.view_is) c.in-Ok-digests.ensures.read)

pub returns-clause-err : goal.returns-clause-err
returns-clause-err g c = λ other.
    let h = g.H.Hasher.hashing c.args.hasher.now in
    let s = scheme_of h (g.H.Hasher.bagging_of c.args.hasher.now) g.F.Family.rule g.F.Family.MAX_LEAVES g.F.Family.DOMAIN in
    let i = c.self.inside in let a = c.args.range.start in let b = c.args.range.end in let n = c.counts-counts.ensures in
    let v : StoreValue g.row.D.Denot = record {
      leaves = i.leaves;
      inactive = i.inactive_peaks;
      bagging = i.bagging;
      root = i.root;
      start = i.range.start;
      end = i.range.end;
      pairs = i.pairs;
      suffix_peaks = i.suffix_peaks.items;
      prefix = i.prefix;
      suffix = i.suffix;
    } in
    let w = asked s v c.args.self.now a b c.in-Ok.plan c.counts-counts.result i.held c.reads.result.now c.self.view_is c.in-Ok.ensures.ok n.before
    n.after n.folded n.single c.self.invariant.0 c.reads.ensures
    c.in-Ok.ensures.within.0 c.in-Ok.ensures.within.1 in
    let count = subst (λ (z : StoreValue g.row.D.Denot). IsFoldedCount g.F.Family.rule z.bagging z.leaves z.inactive z.start i.held) c.self.view_is c.self.invariant.0 in
    let x = c.in-Err-digests.ensures.err other in
    rw (g.met.H.Hasher.scheme_is c.args.hasher.now) (subst (λ e. IsStoreRefusal s c.args.self.now a b e) (sym x.1)
    (lacking_refused s c.args.self.now a b c.counts-counts.result i.held c.reads.result.now w (sym c.in_default.is ∙ c.lacking_prefix.ensures i.held count) x.0 x.2))
