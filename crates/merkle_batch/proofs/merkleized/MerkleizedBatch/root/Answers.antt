use Rattle.std.proofs.Common.{◌≡◌, Ok, Err, ℕ, length, arith, ap, sym, ◌∙◌, subst}
use Rattle.merkle_base.specs.declared.error.Error.TheVariants.{InvalidInactivePeaks}
use Rattle.merkle_base.specs.Places.{peaks_of}
use Rattle.merkle_base.specs.Digests.{peak_digests}
use Rattle.merkle_base.specs.Root.{peaks_root}
use Rattle.merkle_batch_theory.specs.BatchValid.{IsBatchValid}
use Rattle.merkle_batch_theory.specs.History.{last_list}
use Rattle.merkle_base.proofs.Nodes.{size_inj}
use Rattle.merkle_batch_theory.proofs.Forking.{last_size}
use Rattle.merkle_batch.proofs.merkleized.MerkleizedBatch.root.Goals as goal

pub returns-clause-ok : goal.returns-clause-ok
returns-clause-ok g c = λ enough.
    let same : c.self.inside.leaves ≡ c.args.self.now.leaves = ap (λ b. b.leaves) c.self.view_is in
    let peaks : c.as_slice.result.now ≡ c.args.self.now.own.peaks_after =
    c.as_slice.ensures.value ∙ ap (λ r. r.peaks_after) (c.behind-self.view_is ∙ c.deref.ensures) ∙ ap (λ b. b.own.peaks_after) c.self.view_is in
    let linked : IsBatchValid g.F.Family.rule g.F.Family.MAX_LEAVES c.args.self.now = subst (IsBatchValid g.F.Family.rule g.F.Family.MAX_LEAVES) c.self.view_is c.self.invariant in
    let root = peaks_root (g.H.Hasher.scheme c.args.hasher.now) in
    c.root.ensures.ok (omega (arith, enough, ap length peaks, linked.peaks))
    ∙ ap (λ (n : ℕ). Ok (root n c.args.inactive c.args.inactive c.as_slice.result.now)) same ∙ ap (λ ps. Ok (root c.args.self.now.leaves c.args.inactive c.args.inactive ps)) peaks

pub returns-clause-err : goal.returns-clause-err
returns-clause-err g c = λ many.
    let peaks : c.as_slice.result.now ≡ c.args.self.now.own.peaks_after =
    c.as_slice.ensures.value ∙ ap (λ r. r.peaks_after) (c.behind-self.view_is ∙ c.deref.ensures) ∙ ap (λ b. b.own.peaks_after) c.self.view_is in
    let linked : IsBatchValid g.F.Family.rule g.F.Family.MAX_LEAVES c.args.self.now = subst (IsBatchValid g.F.Family.rule g.F.Family.MAX_LEAVES) c.self.view_is c.self.invariant in
    let count : length c.as_slice.result.now ≡ length (peaks_of g.F.Family.rule c.args.self.now.leaves) = ap length peaks ∙ linked.peaks in
    c.root.ensures.err (omega (arith, count, many)) ∙ ap (λ (n : ℕ). Err (InvalidInactivePeaks c.args.inactive n)) count

pub returns-clause-listed : goal.returns-clause-listed
returns-clause-listed g c = λ ls stands enough.
    let h = g.H.Hasher.hashing c.args.hasher.now in
    let rule = g.F.Family.rule in
    let last = last_size h rule c.args.self.now ls stands in
    let linked : IsBatchValid rule g.F.Family.MAX_LEAVES c.args.self.now = subst (IsBatchValid rule g.F.Family.MAX_LEAVES) c.self.view_is c.self.invariant in
    let same : c.args.self.now.leaves ≡ length (last_list ls) = size_inj rule c.args.self.now.leaves (length (last_list ls)) (linked.counted.sized ∙ last.0) in
    let root = peaks_root (g.H.Hasher.scheme c.args.hasher.now) in
    returns-clause-ok g c (omega (arith, enough, ap (λ (n : ℕ). length (peaks_of rule n)) same))
    ∙ ap (λ (n : ℕ). Ok (root n c.args.inactive c.args.inactive c.args.self.now.own.peaks_after)) same ∙ ap (λ ps. Ok (root (length (last_list ls)) c.args.inactive c.args.inactive ps)) last.1
    ∙ ap (λ s. Ok (root (length (last_list ls)) c.args.inactive c.args.inactive (peak_digests s.hashing s.rule (last_list ls)))) (sym (g.met.H.Hasher.scheme_is c.args.hasher.now))

pub returns-clause-too_many : goal.returns-clause-too_many
returns-clause-too_many g c = λ h ls stands many.
    let rule = g.F.Family.rule in
    let last = last_size h rule c.args.self.now ls stands in
    let linked : IsBatchValid rule g.F.Family.MAX_LEAVES c.args.self.now = subst (IsBatchValid rule g.F.Family.MAX_LEAVES) c.self.view_is c.self.invariant in
    let same : c.args.self.now.leaves ≡ length (last_list ls) = size_inj rule c.args.self.now.leaves (length (last_list ls)) (linked.counted.sized ∙ last.0) in
    let count : length (peaks_of rule c.args.self.now.leaves) ≡ length (peaks_of rule (length (last_list ls))) = ap (λ (n : ℕ). length (peaks_of rule n)) same in
    returns-clause-err g c (omega (arith, count, many)) ∙ ap (λ (n : ℕ). Err (InvalidInactivePeaks c.args.inactive n)) count
