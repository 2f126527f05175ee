use Rattle.std.proofs.Common.{refl, ap, List, ℕ, [], ◌∷◌, slice_index_or, ◌∙◌}
use Rattle.merkle_lanes.specs.Lanes.{lane_at, state_lane}
use Rattle.merkle_lanes.proofs.LaneLemmas.{written_all}
use Rattle.merkle_lanes.proofs.Sums.{temp1_by_constant_and_word}
use Rattle.merkle_lanes.proofs.vectors.round_of_sum.Goals as goal

pub returns : goal.returns
returns g c j h = λ k w sum.
    let v = c.args.v.now in
    let at : ℕ → List ℕ = λ i. slice_index_or v i [] in
    ap (state_lane j) (written_all v (c.add-3.result ∷ at 0 ∷ at 1 ∷ at 2 ∷ c.add-4.result ∷ at 4 ∷ at 5 ∷ at 6 ∷ []) c.told-v)
    ∙ rw (
      c.add-3.ensures j h,
      c.add-4.ensures j h,
      c.add-temp2.ensures j h,
      c.add-temp1.ensures j h,
      c.add-2.ensures j h,
      c.add.ensures j h,
      c.big_sigma1.ensures j h,
      c.big_sigma0.ensures j h,
      c.ch.ensures j h,
      c.maj.ensures j h,
      sum,
      temp1_by_constant_and_word (lane_at v 7 j) k w _ _,
    ) refl
