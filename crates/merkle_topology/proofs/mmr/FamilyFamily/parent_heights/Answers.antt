use Rattle.std.proofs.Common.{ap, sym, ◌∙◌, arith, w64}
use Rattle.std.specs.Int.{trailing_ones}
use Rattle.std.specs.List.{range_with_len}
use Rattle.merkle_forest_theory.proofs.Digits.{ends_trailing}
use Rattle.merkle_forest_theory.proofs.MountainRange.{mmr_parents}
use Rattle.merkle_topology.proofs.mmr.FamilyFamily.parent_heights.Goals as goal

pub returns : goal.returns
returns c =
    let k = mmr_parents c.args.leaves in
    let same = c.trailing_ones.ensures ∙ ap (trailing_ones w64) c.as_u64.ensures ∙ ends_trailing k.0 c.args.leaves k.2 (omega (arith, c.requires)) in
    ap (range_with_len 1) same ∙ sym k.1
