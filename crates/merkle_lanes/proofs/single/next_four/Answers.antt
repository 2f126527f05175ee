use Rattle.std.proofs.Common.{◌≡◌, ℕ, ◌+◌, ◌<◌, slice_index, arith, refl, ap, ◌∙◌}
use Rattle.sha2.specs.Sha256.{add32, schedule, small_sigma0, small_sigma1}
use Rattle.merkle_lanes.proofs.LaneLemmas.{below_four}
use Rattle.merkle_lanes.proofs.Schedule.{next_at}
use Rattle.merkle_lanes.proofs.single.next_four.Goals as goal

pub returns : goal.returns
returns c = λ block n fits wa wb wc wd.
    let word : ℕ → ℕ = slice_index (schedule block 48) in
    let lane = slice_index in
    let far = c.from_second.ensures in
    let near = c.from_second-2.ensures in
    let early : (j : ℕ) → j < 4 → lane c.add-early.result j ≡ add32 (add32 (lane c.args.a j) (small_sigma0 (lane c.from_second.result j))) (lane c.from_second-2.result j) =
    λ j h. rw (c.add-early.ensures j h, c.add.ensures j h, c.small_sigma0.ensures j h) refl in
    let late : (j : ℕ) → j < 4 → lane c.add-first.result j ≡ add32 (lane c.add-early.result j) (small_sigma1 (lane c.last_two.result j)) =
    λ j h. rw (c.add-first.ensures j h, c.small_sigma1.ensures j h) refl in
    let last : (j : ℕ) → j < 4 → lane c.add-second.result j ≡ add32 (lane c.add-early.result j) (small_sigma1 (lane c.first_two.result j)) =
    λ j h. rw (c.add-second.ensures j h, c.small_sigma1-2.ensures j h) refl in
    let w0 : lane c.add-first.result 0 ≡ word (n + 16 + 0) =
    next_at block n 0 _ _ _ _ _ (omega arith) (wa 0 (omega arith)) (far.first ∙ wa 1 (omega arith) ∙ ap word (omega arith)) (near.first ∙ wc 1 (omega arith) ∙ ap word (omega arith))
    (c.last_two.ensures.first ∙ wd 2 (omega arith) ∙ ap word (omega arith)) (rw (← early 0 (omega arith)) (late 0 (omega arith))) in
    let w1 : lane c.add-first.result 1 ≡ word (n + 16 + 1) =
    next_at block n 1 _ _ _ _ _ (omega arith) (wa 1 (omega arith)) (far.second ∙ wa 2 (omega arith) ∙ ap word (omega arith)) (near.second ∙ wc 2 (omega arith) ∙ ap word (omega arith))
    (c.last_two.ensures.second ∙ wd 3 (omega arith) ∙ ap word (omega arith)) (rw (← early 1 (omega arith)) (late 1 (omega arith))) in
    let w2 : lane c.add-second.result 2 ≡ word (n + 16 + 2) =
    next_at block n 2 _ _ _ _ _ (omega arith) (wa 2 (omega arith)) (far.third ∙ wa 3 (omega arith) ∙ ap word (omega arith)) (near.third ∙ wc 3 (omega arith) ∙ ap word (omega arith))
    (c.first_two.ensures.third ∙ w0 ∙ ap word (omega arith)) (rw (← early 2 (omega arith)) (last 2 (omega arith))) in
    let w3 : lane c.add-second.result 3 ≡ word (n + 16 + 3) =
    next_at block n 3 _ _ _ _ _ (omega arith) (wa 3 (omega arith)) (far.fourth ∙ wb 0 (omega arith) ∙ ap word (omega arith)) (near.fourth ∙ wd 0 (omega arith) ∙ ap word (omega arith))
    (c.first_two.ensures.fourth ∙ w1 ∙ ap word (omega arith)) (rw (← early 3 (omega arith)) (last 3 (omega arith))) in
    below_four (λ j. lane c.halves.result j ≡ word (n + 16 + j)) (c.halves.ensures.first ∙ w0) (c.halves.ensures.second ∙ w1) (c.halves.ensures.third ∙ w2) (c.halves.ensures.fourth ∙ w3)
