use Rattle.std.proofs.Common.{refl, ap, [], ◌∷◌, ◌∙◌}
use Rattle.merkle_lanes.specs.Lanes.{state_lane}
use Rattle.merkle_lanes.proofs.LaneLemmas.{written_all}
use Rattle.merkle_lanes.proofs.blocks.initialize.Goals as goal

pub returns : goal.returns
returns g c j h =
    let words = c.splat.result ∷ c.splat-2.result ∷ c.splat-3.result ∷ c.splat-4.result ∷ c.splat-5.result ∷ c.splat-6.result ∷ c.splat-7.result ∷ c.splat-8.result ∷ [] in
    ap (state_lane j) (written_all c.args.state.now words c.told-state)
    ∙ rw (
      c.splat.ensures j h,
      c.splat-2.ensures j h,
      c.splat-3.ensures j h,
      c.splat-4.ensures j h,
      c.splat-5.ensures j h,
      c.splat-6.ensures j h,
      c.splat-7.ensures j h,
      c.splat-8.ensures j h,
    ) refl
