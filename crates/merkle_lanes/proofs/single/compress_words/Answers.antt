use Rattle.std.proofs.Common.{◌≡◌, ℕ, List, ◌+◌, ◌*◌, ◌<◌, slice_index, refl, ap, sym, ◌∙◌, arith}
use Rattle.sha2.specs.Sha256.{add_state, compress, rounds, schedule, word_at}
use Rattle.sha2.proofs.Schedule256.{slice_index-schedule_first}
use Rattle.merkle_lanes.specs.Lanes.{StandAt, state_lane}
use Rattle.merkle_lanes.proofs.single.compress_words.Goals as goal

-- words that stand at a place stand at an equal one
moved : (four words : List ℕ) (n k : ℕ) → n ≡ k → StandAt four words n → StandAt four words k
moved four words n k e s j h = s j h ∙ ap (λ (i : ℕ). slice_index words (i + j)) e

pub loop-turn-init : goal.loop-turn-init
unfolding rounds
loop-turn-init c = λ block w0 w1 w2 w3.
    let at : (k : ℕ) → k < 16 → word_at block (4 * k) ≡ slice_index (schedule block 48) k = λ k h. sym (slice_index-schedule_first block 48 k h) in (
      (λ j h. w0 j h ∙ at j (omega arith) ∙ ap (slice_index (schedule block 48)) (omega arith)),
      (λ j h. w1 j h ∙ at (4 + j) (omega arith)),
      (λ j h. w2 j h ∙ at (8 + j) (omega arith)),
      (λ j h. w3 j h ∙ at (12 + j) (omega arith)),
      refl,
    )

pub loop-turn-preserved : goal.loop-turn-preserved
loop-turn-preserved c = λ block w0 w1 w2 w3.
    let ws : List ℕ = schedule block 48 in
    let n : ℕ = 8 * c.loop-turn.turn in
    let h : List ℕ = state_lane 0 c.args.state.now in
    let (a, b, c4, d, held) = c.loop-turn.invariant block w0 w1 w2 w3 in
    let e : StandAt c.next_four-e.result ws (n + 16) = c.next_four-e.ensures block n (omega arith) a b c4 d in
    let f : StandAt c.next_four-f.result ws (n + 4 + 16) =
    c.next_four-f.ensures block (n + 4) (omega arith) b (moved _ ws (n + 8) (n + 4 + 4) (omega arith) c4) (moved _ ws (n + 12) (n + 4 + 8) (omega arith) d)
    (moved _ ws (n + 16) (n + 4 + 12) (omega arith) e) in
    let v1 = c.four_rounds_of.ensures ws h a held in
    let v2 = c.four_rounds_of-in-loop-turn.ensures ws h b v1 in (
      moved _ ws (n + 8) _ (omega arith) c4,
      moved _ ws (n + 12) _ (omega arith) d,
      moved _ ws (n + 16) _ (omega arith) e,
      moved _ ws (n + 4 + 16) _ (omega arith) f,
      v2 ∙ ap (rounds h ws) (omega arith),
    )

pub returns : goal.returns
unfolding compress
returns c = λ block w0 w1 w2 w3.
    let ws : List ℕ = schedule block 48 in
    let h : List ℕ = state_lane 0 c.args.state.now in
    let done : 8 * c.loop-turn.turn ≡ 48 = omega (arith, c.loop-turn.auto.turn-end) in
    let (a, b, c4, d, held) = c.loop-turn.invariant block w0 w1 w2 w3 in
    let v1 = c.four_rounds_of-2.ensures ws h (moved _ ws _ 48 done a) (held ∙ ap (rounds h ws) done) in
    let v2 = c.four_rounds_of-3.ensures ws h (moved _ ws _ 52 (omega (arith, done)) b) v1 in
    let v3 = c.four_rounds_of-4.ensures ws h (moved _ ws _ 56 (omega (arith, done)) c4) v2 in
    let v4 = c.four_rounds_of-5.ensures ws h (moved _ ws _ 60 (omega (arith, done)) d) v3 in
    c.add_words.ensures 0 (omega arith) ∙ ap (add_state h) v4
