use Rattle.std.proofs.Common.{arith, ◌+◌, sym, subst, ap, ◌∙◌, take, length}
use Rattle.std.proofs.lemmas.List.{length-map}
use Rattle.merkle_claim_theory.specs.Rebuilt.{rebuilt_part}
use Rattle.merkle_base.specs.Table.{digest_for}
use Rattle.merkle_hasher.specs.Subtrees.{Denotes, subtree_of}
use Rattle.merkle_root_theory.specs.Plan.{left_fold_plan, peak}
use Rattle.merkle_range.proofs.IndividualPeaks.{all_taken}
use Rattle.merkle_reconstruction.proofs.NodeElements.{element_means}
use Rattle.merkle_range.proofs.PinWalks.{fold_more}
use Rattle.merkle_range.proofs.pins.rebuilt_fold.Goals as goal

pub loop-peak-init : goal.loop-peak-init
loop-peak-init g c = λ t ts w e h. c.rebuilt_digest-folded.ensures t w

pub rebuilt_digest-digest-requires : goal.rebuilt_digest-digest-requires
rebuilt_digest-digest-requires g c =
    let n = c.requires.nodes in
    let w = element_means g.F.Family.rule g.F.Family.MAX_LEAVES c.args.others.now n.0 n.1 n.2 c.loop-peak.peak-index c.loop-peak-test.true c.peak-item.result in
    record { node = (w.0, subst (λ s. Denotes g.F.Family.rule g.F.Family.MAX_LEAVES s w.0) (sym c.peak-item.is) w.1) }

pub loop-peak-preserved : goal.loop-peak-preserved
loop-peak-preserved g c = λ t ts w e h.
    let v = element_means g.F.Family.rule g.F.Family.MAX_LEAVES c.args.others.now ts e h c.loop-peak.peak-index c.loop-peak-test.true c.peak-item.result in
    fold_more (g.H.Hasher.hashing c.args.hasher.now) (digest_for c.args.pins.now.positions.items c.args.pins.now.digests.now) (peak t) 1
    (take (c.loop-peak.peak-index + 1) ts) (take c.loop-peak.peak-index ts) v.0 _ _ _ v.2
    (c.loop-peak.invariant t ts w e h) (c.rebuilt_digest-digest.ensures v.0 (subst (λ s. Denotes g.F.Family.rule g.F.Family.MAX_LEAVES s v.0) (sym c.peak-item.is) v.1)) c.fold-folded.ensures

pub returns : goal.returns
returns g c = λ t ts w e h.
    c.loop-peak.invariant t ts w e h
    ∙ ap (λ us. rebuilt_part (g.H.Hasher.hashing c.args.hasher.now) (digest_for c.args.pins.now.positions.items c.args.pins.now.digests.now) (left_fold_plan (peak t) 1 us))
    (all_taken c.loop-peak.peak-index ts (omega (arith, c.loop-peak-test.false, ap length e, length-map ts (subtree_of {F = g.row.F.Denot}))))
