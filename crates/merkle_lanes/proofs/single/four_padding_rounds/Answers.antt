use Rattle.std.proofs.Common.{◌+◌, refl, arith}
use Rattle.sha2.specs.Sha256.{padding, schedule}
use Rattle.merkle_lanes.proofs.PaddingSums.{padding_sums}
use Rattle.merkle_lanes.proofs.single.four_padding_rounds.Goals as goal

pub returns : goal.returns
returns c = λ h held.
    let t = c.args.t in
    let sum = padding_sums _ refl in
    c.four_rounds.ensures (schedule (padding 64) 48) h t (sum t (omega arith)) (sum (t + 1) (omega arith)) (sum (t + 2) (omega arith)) (sum (t + 3) (omega arith)) held
