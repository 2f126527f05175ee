use Rattle.std.proofs.Common.{◌+◌, ◌∷◌, [], ℕ, arith, ap, sym, ◌∙◌, w64}
use Rattle.std.specs.Int.{trailing_ones, is_power_of_two}
use Rattle.std.specs.Option.{option_to_list}
use Rattle.merkle_topology.proofs.BeltNodes.{mmb_parent}
use Rattle.merkle_topology.proofs.mmb.FamilyFamily.parent_heights.Goals as goal
use Rattle.merkle_topology.proofs.mmb.FamilyFamily.parent_heights.Goals.{then-is_power_of_two, else-is_power_of_two}

pub returns : goal.returns
returns c =
    let same = c.is_power_of_two.ensures ∙ ap (λ (n : ℕ). is_power_of_two (n + 2)) c.as_u64-leaves.ensures in
    let k = mmb_parent c.args.leaves (omega (arith, c.requires)) c.is_power_of_two.result same in
    elim c.if-is_power_of_two.branch [
      | then-is_power_of_two w ↦ ap option_to_list w.height-is ∙ sym (k.0 w.if-is_power_of_two.true)
      | else-is_power_of_two w ↦
          ap option_to_list w.height-is
          ∙ ap (λ (h : ℕ). (h + 1) ∷ []) (w.trailing_ones.ensures ∙ ap (λ (n : ℕ). trailing_ones w64 (n + 1)) c.as_u64-leaves.ensures)
          ∙ sym (k.1 w.if-is_power_of_two.false)
    ]
