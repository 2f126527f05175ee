use Rattle.std.proofs.Common.{◌≡◌, ℕ, List, ◌*◌, refl, ap, ◌∙◌, arith}
use Rattle.sha2.specs.Sha256.{add_state, compress, padding, rounds, schedule}
use Rattle.merkle_lanes.specs.Lanes.{state_lane}
use Rattle.merkle_lanes.proofs.single.compress_padding.Goals as goal

pub loop-turn-init : goal.loop-turn-init
unfolding rounds
loop-turn-init c = refl

pub loop-turn-preserved : goal.loop-turn-preserved
loop-turn-preserved c =
    let h : List ℕ = state_lane 0 c.args.state.now in
    c.four_padding_rounds-in-loop-turn.ensures h (c.four_padding_rounds.ensures h c.loop-turn.invariant) ∙ ap (rounds h (schedule (padding 64) 48)) (omega arith)

pub returns : goal.returns
unfolding compress
returns c =
    let done : 8 * c.loop-turn.turn ≡ 64 = omega (arith, c.loop-turn.auto.turn-end) in
    c.add_words.ensures 0 (omega arith) ∙ ap (add_state (state_lane 0 c.args.state.now)) (rw done at c.loop-turn.invariant)
