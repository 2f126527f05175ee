use Rattle.std.proofs.Common.{ap, ◌∙◌, arith}
use Rattle.sha2.specs.Sha256.{rounds, schedule}
use Rattle.merkle_lanes.proofs.compress.four_block_rounds.Goals as goal

pub returns : goal.returns
returns g c j l = λ b h window held.
    let after = rounds h (schedule b 48) in
    let s1 = c.block_round.ensures j l b h window held in
    let s2 = c.block_round-2.ensures j l b h window s1 in
    let s3 = c.block_round-3.ensures j l b h window (s2 ∙ ap after (omega arith)) in
    c.block_round-4.ensures j l b h window (s3 ∙ ap after (omega arith)) ∙ ap after (omega arith)
