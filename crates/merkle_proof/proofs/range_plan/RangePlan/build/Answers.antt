use Rattle.std.proofs.Common.{◌≡◌, ◌≤◌, length, arith, refl, sym, subst, ap, ◌∙◌, inr}
use Rattle.merkle_base.specs.Places.{peaks_of}
use Rattle.merkle_base.specs.Scheme.{scheme_of}
use Rattle.merkle_root_theory.specs.Range.{IsHonestRange}
use Rattle.merkle_proof.specs.RangePlans.{LeafRange, IsAnsweredProof, IsBuiltProof, IsBuildRefusal, IsFirstMissing, list_input}
use Rattle.merkle_proof.specs.declared.proof.Proof.{Proof}
use Rattle.merkle_proof.proofs.BuiltDigests.{is_built, is_honest}
use Rattle.merkle_root_theory.proofs.PeakGroups.{length-peaks_of}
use Rattle.merkle_proof.proofs.ReadingOrder.{laid_by_runs, runs_of_plan, order_of_runs}
use Rattle.merkle_proof.proofs.range_plan.RangePlan.build.Given as given
use Rattle.merkle_proof.proofs.range_plan.RangePlan.build.Goals as goal

pub overflow_sub-self-inside : goal.overflow_sub-self-inside
overflow_sub-self-inside g c =
    let i = c.self.invariant in
    omega (arith, i.peaks_are, i.after_are, length-peaks_of g.F.Family.rule c.self.inside.leaves c.self.inside.range.start c.self.inside.range.end i.nonempty)

pub returns-clause-err : goal.returns-clause-err
returns-clause-err g c = λ other.
    let i = c.self.invariant in let bagging = g.H.Hasher.bagging_of c.args.hasher.now in
    let n = c.self.inside.leaves in let a = c.self.inside.range.start in let b = c.self.inside.range.end in
    let few : c.args.inactive ≤ length (peaks_of g.F.Family.rule n) = omega (arith, c.if-inactive-self.false, i.peaks_are) in
    let runs = runs_of_plan g.F.Family.rule g.F.Family.MAX_LEAVES n a b c.self.inside.peaks c.self.inside.before c.self.inside.after
    c.self.inside.reads.items i bagging c.root_bagging-bagging.result c.root_bagging-bagging.ensures
    c.args.inactive c.prefix_count-prefix.result c.single_count-single.result c.prefix_count-prefix.ensures.exact c.single_count-single.ensures.exact
    _ _ _ _ c.deref.ensures.value c.deref-2.ensures.value c.deref-3.ensures.value c.deref-4.ensures.value in
    let order = order_of_runs bagging c.args.inactive g.F.Family.rule n a b _ _ _ _ runs in
    let w = c.in-Err.ensures.err other in
    subst (λ z. IsBuildRefusal bagging g.F.Family.rule z c.args.inactive (given.G-post g c.args.get_node) c.in-Err.error) c.self.view_is
    (inr (few, (w.0, w.1, subst (λ ps. IsFirstMissing (given.G-post g c.args.get_node) ps w.0) order w.2)))

pub returns-in-Ok-clause-built : goal.returns-in-Ok-clause-built
returns-in-Ok-clause-built g c = λ node agree.
    let s = scheme_of (g.H.Hasher.hashing c.args.hasher.now) (g.H.Hasher.bagging_of c.args.hasher.now) g.F.Family.rule g.F.Family.MAX_LEAVES g.F.Family.DOMAIN in
    let i = c.self.invariant in
    let p : Proof g.row.F.Denot g.row.H-Digest.Denot g.row.F-Peaks.Denot g.row.F-ParentHeights.Denot =
    record { leaves = c.self.inside.leaves; inactive_peaks = c.args.inactive; digests = c.in-Ok.digests } in
    let n = c.self.inside.leaves in let a = c.self.inside.range.start in let b = c.self.inside.range.end in
    let few : c.args.inactive ≤ length (peaks_of g.F.Family.rule n) = omega (arith, c.if-inactive-self.false, i.peaks_are) in
    let runs = runs_of_plan g.F.Family.rule g.F.Family.MAX_LEAVES n a b c.self.inside.peaks c.self.inside.before c.self.inside.after
    c.self.inside.reads.items i s.bagging c.root_bagging-bagging.result c.root_bagging-bagging.ensures
    c.args.inactive c.prefix_count-prefix.result c.single_count-single.result c.prefix_count-prefix.ensures.exact c.single_count-single.ensures.exact
    _ _ _ _ c.deref.ensures.value c.deref-2.ensures.value c.deref-3.ensures.value c.deref-4.ensures.value in
    rw (g.met.H.Hasher.scheme_is c.args.hasher.now) (subst (λ r. IsBuiltProof s node c.args.inactive r p) c.self.view_is
    (is_built s (given.G-post g c.args.get_node) p c.args.inactive n a b refl refl few _ _ _ _ runs c.in-Ok.ensures.ok node agree))

pub returns-in-Ok-clause-read : goal.returns-in-Ok-clause-read
returns-in-Ok-clause-read g c =
    let bagging = g.H.Hasher.bagging_of c.args.hasher.now in
    let i = c.self.invariant in
    let n = c.self.inside.leaves in let a = c.self.inside.range.start in let b = c.self.inside.range.end in
    let runs = runs_of_plan g.F.Family.rule g.F.Family.MAX_LEAVES n a b c.self.inside.peaks c.self.inside.before c.self.inside.after
    c.self.inside.reads.items i bagging c.root_bagging-bagging.result c.root_bagging-bagging.ensures
    c.args.inactive c.prefix_count-prefix.result c.single_count-single.result c.prefix_count-prefix.ensures.exact c.single_count-single.ensures.exact
    _ _ _ _ c.deref.ensures.value c.deref-2.ensures.value c.deref-3.ensures.value c.deref-4.ensures.value in
    subst (λ (r : LeafRange). IsAnsweredProof (g.H.Hasher.hashing c.args.hasher.now).fold bagging g.F.Family.rule c.args.inactive r
    (given.G-post g c.args.get_node) c.in-Ok.digests.items) c.self.view_is
    (laid_by_runs (g.H.Hasher.hashing c.args.hasher.now).fold bagging c.args.inactive g.F.Family.rule n a b (given.G-post g c.args.get_node) _ _ _ _ c.in-Ok.digests.items runs c.in-Ok.ensures.ok)

pub returns-in-Ok-clause-honest : goal.returns-in-Ok-clause-honest
returns-in-Ok-clause-honest g c = λ xs long right.
    let s = scheme_of (g.H.Hasher.hashing c.args.hasher.now) (g.H.Hasher.bagging_of c.args.hasher.now) g.F.Family.rule g.F.Family.MAX_LEAVES g.F.Family.DOMAIN in
    let i = c.self.invariant in
    let p : Proof g.row.F.Denot g.row.H-Digest.Denot g.row.F-Peaks.Denot g.row.F-ParentHeights.Denot =
    record { leaves = c.self.inside.leaves; inactive_peaks = c.args.inactive; digests = c.in-Ok.digests } in
    let n = c.self.inside.leaves in let a = c.self.inside.range.start in let b = c.self.inside.range.end in
    let few : c.args.inactive ≤ length (peaks_of g.F.Family.rule n) = omega (arith, c.if-inactive-self.false, i.peaks_are) in
    let runs = runs_of_plan g.F.Family.rule g.F.Family.MAX_LEAVES n a b c.self.inside.peaks c.self.inside.before c.self.inside.after
    c.self.inside.reads.items i s.bagging c.root_bagging-bagging.result c.root_bagging-bagging.ensures
    c.args.inactive c.prefix_count-prefix.result c.single_count-single.result c.prefix_count-prefix.ensures.exact c.single_count-single.ensures.exact
    _ _ _ _ c.deref.ensures.value c.deref-2.ensures.value c.deref-3.ensures.value c.deref-4.ensures.value in
    let at : length xs ≡ n = long ∙ sym (ap (λ (r : LeafRange). r.leaves) c.self.view_is) in
    rw (g.met.H.Hasher.scheme_is c.args.hasher.now) (subst (λ (r : LeafRange). IsHonestRange s xs c.args.inactive (list_input p xs r.start r.end)) c.self.view_is
    (is_honest s (given.G-post g c.args.get_node) p c.args.inactive n a b refl refl few _ _ _ _ runs c.in-Ok.ensures.ok i.nonempty i.within xs at right))
