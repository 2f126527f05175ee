use Rattle.std.proofs.Common.{rules, ◌≡◌, map, length, arith, ap, sym, ◌∙◌, subst}
use Rattle.std.proofs.lemmas.List.{length-map}
use Rattle.merkle_base.specs.Places.{peaks_of, placed}
use Rattle.merkle_base.proofs.PeakLists.{first-placed, few_peaks}
use Rattle.merkle_batch_theory.specs.HeldPeaks.{held_at}
use Rattle.merkle_base.specs.Tree.{position}
use Rattle.merkle_batch_theory.specs.Contents.{held_peaks}
use Rattle.merkle_batch_theory.specs.Held.{held_contents}
use Rattle.merkle_batch_theory.specs.MemModel.{MemModel, contents}
use Rattle.merkle_batch_theory.proofs.HeldNodes.{counted_nodes}
use Rattle.merkle_batch_theory.proofs.HeldWhere.{many_held}
use Rattle.merkle_core.proofs.mem.Mem.write_peaks.Goals as goal

pub loop-position-init : goal.loop-position-init
loop-position-init g c =
    let rule = g.F.Family.rule in
    let counted = c.self.invariant.counted in
    let leaves = c.self.inside.leaves in
    let told = ap g.F.Peaks.Listed.left c.into_iter-position-iterator.ensures.into_iter_gives ∙ c.peaks-position-items.ensures leaves counted.bounded (counted.sized ∙ sym c.size.ensures) in (
      g.met.F.Peaks.Listed.may_go c.into_iter-position-iterator.result,
      g.met.F.Peaks.Listed.ends c.into_iter-position-iterator.result,
      search rules,
      omega (arith, ap length told, length-map (peaks_of rule leaves) placed, few_peaks rule g.F.Family.MAX_LEAVES g.F.Family.MAX_NODES g.met.F.Family.lawful leaves counted.bounded),
      ap (λ qs. held_at (contents c.args.self.now) (map (λ q. q.0) qs)) told
          ∙ ap (held_at (contents c.args.self.now)) (first-placed (peaks_of rule leaves)) ∙ ap (λ s. held_peaks rule s.leaves (contents c.args.self.now)) c.self.view_is,
    )

pub size-requires : goal.size-requires
size-requires g c =
    let law = g.met.F.Family.lawful in
    omega (arith, law.limit_fits, counted_nodes g.F.Family.rule g.F.Family.MAX_LEAVES g.F.Family.MAX_NODES c.self.inside.leaves c.self.inside.held.size law c.self.invariant.counted)

pub peaks-position-items-requires : goal.peaks-position-items-requires
peaks-position-items-requires g c = (c.self.inside.leaves, c.self.invariant.counted.bounded, c.self.invariant.counted.sized ∙ sym c.size.ensures)

pub returns-clause-many : goal.returns-clause-many
returns-clause-many g c =
    let rule = g.F.Family.rule in
    let i = c.self.inside in
    let kept = c.self.invariant in
    let many : length (held_peaks rule i.leaves (held_contents i.boundary i.held)) ≡ length (peaks_of rule i.leaves) =
    many_held rule (held_contents i.boundary i.held) i.leaves kept.holds kept.within (sym kept.counted.sized) ∙ length-map (peaks_of rule i.leaves) position in
    subst (λ (s : MemModel _). length (held_peaks rule s.leaves (contents s)) ≡ length (peaks_of rule s.leaves)) c.self.view_is many
