use Rattle.std.proofs.Common.{rules, ◌≡◌, arith, ap, sym, ◌∙◌}
use Rattle.std.proofs.lemmas.List.{take_all}
use Rattle.std.proofs.lemmas.Slice.{overwrites}
use Rattle.sha2.specs.Sha256.{digest_bytes}
use Rattle.sha2.proofs.Absorbing256.{digest_more}
use Rattle.std.specs.Int.{w32, to_be_bytes}
use Rattle.merkle_lanes.specs.Lanes.{state_lane}
use Rattle.merkle_lanes.proofs.LaneLemmas.{slice_index-state_lane}
use Rattle.merkle_lanes.proofs.blocks.digest.Goals as goal

pub loop-i-init : goal.loop-i-init
unfolding digest_bytes
loop-i-init g c = search rules

pub loop-i-preserved : goal.loop-i-preserved
loop-i-preserved g c =
    let state = c.args.state.now in (
      search (rules, overwrites),
      digest_more c.loop-i.out (state_lane c.args.j state) _ c.loop-i.i _ c.loop-i.invariant.1 (omega arith)
          (c.copy_from_slice.ensures.after ∙ c.to_be_bytes.ensures ∙ ap (to_be_bytes w32) (sym (slice_index-state_lane c.args.j state c.loop-i.i (omega arith)))),
    )

pub returns : goal.returns
returns g c =
    let done : c.loop-i.i ≡ 8 = omega arith in
    sym (take_all 32 c.loop-i.out (omega arith)) ∙ rw done at c.loop-i.invariant.1
