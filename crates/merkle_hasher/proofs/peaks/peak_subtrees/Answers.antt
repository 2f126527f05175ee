use Rattle.std.proofs.Common.{sym}
use Rattle.merkle_hasher.proofs.SubtreeLists.{peaks_stand, peaks_listed}
use Rattle.merkle_hasher.proofs.peaks.peak_subtrees.Goals as goal

pub invariant_of-result : goal.invariant_of-result
invariant_of-result g c =
    let within = c.requires.within_max_leaves in
    peaks_stand _ _ _ g.met.F.Family.lawful c.args.leaves _ _ within c.new.ensures (c.peaks.ensures c.args.leaves within (sym c.location_to_position.ensures))

pub returns : goal.returns
returns g c =
    let within = c.requires.within_max_leaves in
    peaks_listed _ _ _ g.met.F.Family.lawful c.args.leaves _ _ within c.new.ensures (c.peaks.ensures c.args.leaves within (sym c.location_to_position.ensures))
