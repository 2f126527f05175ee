use Rattle.std.proofs.Common.{◌≡◌, ℕ, ◌+◌, ◌<◌, slice_index, arith}
use Rattle.merkle_lanes.specs.Lanes.{IsSum}
use Rattle.merkle_lanes.proofs.Schedule.{sum_at}
use Rattle.merkle_lanes.proofs.single.four_rounds_of.Goals as goal

pub returns : goal.returns
returns c = λ ws h words.
    let t : ℕ = c.args.t in
    let sum : (j k : ℕ) → j < 4 → t + j ≡ k → IsSum (slice_index c.with_constants.result j) ws k = λ j k l place. sum_at ws t j k _ _ (c.with_constants.ensures j l) (words j l) place in
    c.four_rounds.ensures ws h t (sum 0 t (omega arith) (omega arith)) (sum 1 (t + 1) (omega arith) (omega arith)) (sum 2 (t + 2) (omega arith) (omega arith))
    (sum 3 (t + 3) (omega arith) (omega arith))
