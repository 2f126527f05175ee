use Rattle.std.proofs.Common.{◌<◌, ◌+◌, ◌-◌, ◌++◌, arith, ap, sym, ◌∙◌}
use Rattle.std.specs.Prelude.{Some}
use Rattle.std.specs.List.{range_with_len}
use Rattle.merkle_batch_theory.specs.HeldPeaks.{held_at}
use Rattle.merkle_batch_theory.specs.MemModel.{contents}
use Rattle.merkle_core.proofs.HeldReads.{next_range, read_on, skip_on}
use Rattle.merkle_core.proofs.mem.Mem.nodes.Goals.{in-Some+in_ok-push, in_default}
use Rattle.merkle_core.proofs.mem.Mem.nodes.Goals as goal

pub loop-index-preserved : goal.loop-index-preserved
loop-index-preserved g c =
    let held = contents c.args.self.now in
    let i = c.loop-index.index in
    let old = c.loop-index.digests.items in
    let below : i < held.size = omega (arith, c.loop-index-test.true, c.as_u64-index-end.ensures, c.size-end.ensures) in
    let rest = range_with_len (i + 1) (held.size - (i + 1)) in
    let read = ap held.node (sym c.new.ensures) ∙ sym c.get_node.ensures.node in
    elim c.match-get_node.branch [
      | in-Some+in_ok-push w ↦
          ap (λ v. v.items ++ held_at held rest) w.digests-is ∙ ap (λ ds. ds ++ held_at held rest) w.in_ok-push.ensures.items
          ∙ read_on held old i rest (Some w.in-Some.digest) (read ∙ w.in-Some.is) ∙ ap (λ ps. old ++ held_at held ps) (sym (next_range i held.size below)) ∙ c.loop-index.invariant
      | in_default w ↦
          ap (λ v. v.items ++ held_at held rest) w.digests-is ∙ skip_on held old i rest (read ∙ w.in_default.is)
          ∙ ap (λ ps. old ++ held_at held ps) (sym (next_range i held.size below)) ∙ c.loop-index.invariant
    ]
