use Rattle.std.proofs.Common.{◌≡◌, ℕ, List, Ok, Err, length, arith, ap, sym, ◌∙◌}
use Rattle.merkle_base.specs.declared.error.Error.TheVariants.{InvalidInactivePeaks}
use Rattle.merkle_base.specs.Forest.{size}
use Rattle.merkle_base.specs.Hashing.{Hashing}
use Rattle.merkle_base.specs.Places.{peaks_of}
use Rattle.merkle_base.specs.Digests.{peak_digests}
use Rattle.merkle_base.specs.Root.{peaks_root}
use Rattle.merkle_batch_theory.specs.Contents.{Agrees, held_peaks}
use Rattle.merkle_batch_theory.specs.MemModel.{MemModel, contents}
use Rattle.merkle_batch_theory.proofs.Accepted.{peaks_agree}
use Rattle.merkle_base.proofs.Nodes.{size_inj}
use Rattle.merkle_core.proofs.mem.Mem.root.Goals as goal

pub write_peaks-count-requires : goal.write_peaks-count-requires
write_peaks-count-requires g c = omega (arith, g.met.D.Digest.small)

pub front-requires : goal.front-requires
front-requires g c = (omega (arith, g.met.D.Digest.small), c.write_peaks-count.ensures.at_most_max_peaks)

pub returns-clause-ok : goal.returns-clause-ok
returns-clause-ok g c = λ enough.
    let held = c.front.ensures ∙ c.write_peaks-count.ensures.held in
    let root = peaks_root (g.H.Hasher.scheme c.args.hasher.now) in
    c.root.ensures.ok (omega (arith, enough, ap length held, c.write_peaks-count.ensures.many))
    ∙ (λ j. Ok (root (c.leaves.ensures.count j) c.args.inactive c.args.inactive (held j)))

pub returns-clause-err : goal.returns-clause-err
returns-clause-err g c = λ many.
    let count : length c.front.result.now ≡ length (peaks_of g.F.Family.rule c.args.self.now.leaves) =
    ap length (c.front.ensures ∙ c.write_peaks-count.ensures.held) ∙ c.write_peaks-count.ensures.many in
    c.root.ensures.err (omega (arith, count, many)) ∙ ap (λ (n : ℕ). Err (InvalidInactivePeaks c.args.inactive n)) count

-- the list that the structure agrees with has its number of leaves
listed_length : {D : Type 0} (h : Hashing D) (rule : List ℕ → List ℕ) (s : MemModel D) (X : List D) (leaves : ℕ) → Agrees h rule (contents s) X
    → leaves ≡ s.leaves → size rule leaves ≡ s.size → s.leaves ≡ length X
listed_length h rule s X leaves agrees same sized = sym same ∙ size_inj rule leaves (length X) (sized ∙ agrees.sized)

pub returns-clause-listed : goal.returns-clause-listed
returns-clause-listed g c = λ X agrees enough.
    let h = g.H.Hasher.hashing c.args.hasher.now in
    let rule = g.F.Family.rule in
    let root = peaks_root (g.H.Hasher.scheme c.args.hasher.now) in
    let same = listed_length h rule c.args.self.now X c.leaves.result agrees c.leaves.ensures.count c.leaves.ensures.sized in
    returns-clause-ok g c (omega (arith, enough, ap (λ n. length (peaks_of rule n)) same))
    ∙ ap (λ n. Ok (root n c.args.inactive c.args.inactive (held_peaks rule n (contents c.args.self.now)))) same
    ∙ ap (λ peaks. Ok (root (length X) c.args.inactive c.args.inactive peaks)) (peaks_agree h rule (contents c.args.self.now) X agrees)
    ∙ ap (λ s. Ok (root (length X) c.args.inactive c.args.inactive (peak_digests s.hashing s.rule X))) (sym (g.met.H.Hasher.scheme_is c.args.hasher.now))

pub returns-clause-too_many : goal.returns-clause-too_many
returns-clause-too_many g c = λ X agrees many.
    let h = g.H.Hasher.hashing c.args.hasher.now in
    let rule = g.F.Family.rule in
    let same = ap (λ n. length (peaks_of rule n)) (listed_length h rule c.args.self.now X c.leaves.result agrees c.leaves.ensures.count c.leaves.ensures.sized) in
    returns-clause-err g c (omega (arith, same, many)) ∙ ap (λ (n : ℕ). Err (InvalidInactivePeaks c.args.inactive n)) same
