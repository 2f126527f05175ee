use Rattle.std.proofs.Common.{refl, ap, [], ◌∷◌, ◌∙◌}
use Rattle.merkle_lanes.specs.Lanes.{state_lane}
use Rattle.merkle_lanes.proofs.LaneLemmas.{written_all}
use Rattle.merkle_lanes.proofs.compress.add_words.Goals as goal

pub returns : goal.returns
returns g c j h =
    let sums = c.add.result ∷ c.add-2.result ∷ c.add-3.result ∷ c.add-4.result ∷ c.add-5.result ∷ c.add-6.result ∷ c.add-7.result ∷ c.add-8.result ∷ [] in
    ap (state_lane j) (written_all c.args.state.now sums c.told-state)
    ∙ rw (
      c.add.ensures j h,
      c.add-2.ensures j h,
      c.add-3.ensures j h,
      c.add-4.ensures j h,
      c.add-5.ensures j h,
      c.add-6.ensures j h,
      c.add-7.ensures j h,
      c.add-8.ensures j h,
    ) refl
