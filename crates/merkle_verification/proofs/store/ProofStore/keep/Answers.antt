use Rattle.std.proofs.Common.{◌≡◌, ◌+◌, ◌≤◌, min, length, take, drop, slice_get, arith, sym, ap, ◌∙◌, subst, rules}
use Rattle.std.proofs.lemmas.List.{length-map}
use Rattle.merkle_base.specs.Tree.{position}
use Rattle.merkle_root_theory.specs.Reads.{nodes_read}
use Rattle.merkle_verification.specs.StoreParts.{FitReads, IsInput}
use Rattle.merkle_verification.proofs.KeptStores.{planned, kept}
use Rattle.merkle_verification.proofs.store.ProofStore.keep.Goals as goal

pub returns-clause-ok : goal.returns-clause-ok
returns-clause-ok g c = λ s r w.
    let rule = g.F.Family.rule in let b = c.args.bagging in let p = c.args.proof.now in let q = c.in-Ok.plan in
    let n = c.counts-counts.ensures in let counts = c.counts-counts.result in let reads = c.reads.result.now in let e = c.new-parts.ensures in let parts = c.new-parts.result in
    let plan = planned rule b p.leaves p.inactive_peaks c.args.range.start c.args.range.end q counts reads c.in-Ok.ensures.ok n.before n.after n.folded n.single c.reads.ensures in
    let all : counts.before + counts.after ≤ length reads = omega (arith, n.read, ap length c.reads.ensures, length-map (nodes_read rule q.leaves q.start q.end) position) in
    let fit : FitReads counts reads = record { folded = n.within.0; single = n.within.1; read = all } in
    let copied : c.in_ok-suffix_peaks.suffix_peaks.items ≡ parts.suffix.now = search rules in
    let index = c.min.result + length parts.before.now + length parts.after.now in
    let index_is : index ≡ min counts.folded 1 + length (drop counts.folded (take counts.before reads)) + length (take counts.single (drop counts.before reads)) =
    ap (λ z. z + length parts.before.now + length parts.after.now) c.min.ensures ∙ ap (λ z. min counts.folded 1 + length z + length parts.after.now) e.before
    ∙ ap (λ z. min counts.folded 1 + length (drop counts.folded (take counts.before reads)) + length z) e.after in
    kept s r rule b p.leaves p.inactive_peaks p.digests.items c.args.range.start c.args.range.end c.in_ok-pairs.pairs
    (subst (λ z. IsInput s r rule b p.leaves p.inactive_peaks p.digests.items c.args.range.start c.args.range.end z) (sym c.in_ok-pairs.ensures) w)
    counts reads plan fit c.args.root.now index (length parts.suffix.now) c.in_ok-suffix_peaks.suffix_peaks.items c.folded_digest.result c.folded_digest-2.result
    (copied ∙ e.suffix) index_is (ap length (sym copied))
    (c.folded_digest.ensures ∙ ap (λ d. slice_get (take (min counts.folded 1) (drop 0 d)) 0) c.deref.ensures.value)
    (c.folded_digest-2.ensures ∙ ap (λ d. slice_get (take (min (length parts.suffix.now) 1) (drop index d)) 0) c.deref-2.ensures.value)
