use Rattle.std.proofs.Common.{rules, ◌≡◌, ◌++◌, arith, sym, ap, ◌∙◌, vec_capacity, vec_len}
use Rattle.std.proofs.lemmas.List.{append-nil}
use Rattle.merkle_base.specs.Places.{peak_positions}
use Rattle.merkle_batch_theory.specs.MemModel.{MemModel, contents}
use Rattle.merkle_core.specs.MemBytes.{held_pins}
use Rattle.merkle_core.proofs.WrittenNodes.{begin_with, held_bytes, no_room_first, no_room_on, on_err, write_on}
use Rattle.merkle_core.proofs.mem.Mem.write_pins.Goals as goal

pub returns-in_err-write_number-clause-no_room : goal.returns-in_err-write_number-clause-no_room
returns-in_err-write_number-clause-no_room g c =
    let out = c.args.out.now in
    on_err c.from_residual.result _
    (no_room_first g.D.Digest.bytes (held_pins g.F.Family.rule c.args.self.now) (vec_len out) (vec_capacity out) c.pin_count.result c.pin_count.ensures c.in_err-write_number.ensures.no_room)

pub loop-position-init : goal.loop-position-init
loop-position-init g c =
    let rule = g.F.Family.rule in
    let s = c.args.self.now in
    let first : c.into_iter-position-iterator.result ≡ peak_positions rule c.self.inside.boundary = search rules in
    let all = first ∙ ap (λ (m : MemModel _). peak_positions rule m.boundary) c.self.view_is in (
      tt,
      tt,
      begin_with g.D.Digest.bytes (contents s) c.args.out.now.items c.write_number.new.out.items c.pin_count.result c.into_iter-position-iterator.result (peak_positions rule s.boundary)
          c.in_ok-write_number.ensures.ok c.pin_count.ensures all,
      c.write_number.ensures.capacity,
    )

pub loop-position-preserved : goal.loop-position-preserved
loop-position-preserved g c =
    let bytes = g.D.Digest.bytes in
    let held = contents c.args.self.now in
    let out = c.loop-position.out.items in
    let here = ap (λ ps. out ++ held_bytes bytes held ps) (sym c.in-Some.ensures.steps) ∙ c.loop-position.invariant.2 in (
      tt,
      tt,
      write_on bytes held out c.write_node.new.out.items _ c.in-Some.position c.next.new.self here c.in_ok-write_node.ensures.ok,
      omega (arith, c.loop-position.invariant.3, c.write_node.ensures.capacity),
    )

pub returns-in_err-write_node-clause-no_room : goal.returns-in_err-write_node-clause-no_room
returns-in_err-write_node-clause-no_room g c =
    let bytes = g.D.Digest.bytes in
    let held = contents c.args.self.now in
    let old = c.args.out.now in
    let now = c.loop-position.out in
    let here = ap (λ ps. now.items ++ held_bytes bytes held ps) (sym c.in-Some.ensures.steps) ∙ c.loop-position.invariant.2 in
    on_err c.from_residual-in_err-write_node.result _
    (no_room_on bytes held old.items now.items _ c.in-Some.position c.next.new.self (vec_len old) (vec_capacity old) (vec_len now) (vec_capacity now) old.ok.0 now.ok.0 here c.loop-position.invariant.3
    c.in_err-write_node.ensures.no_room)

pub returns-clause-ok : goal.returns-clause-ok
returns-clause-ok g c =
    let bytes = g.D.Digest.bytes in
    let held = contents c.args.self.now in
    let out = c.loop-position.out.items in
    sym (append-nil out) ∙ ap (λ ps. out ++ held_bytes bytes held ps) (sym c.in-None.ensures.steps.0) ∙ c.loop-position.invariant.2
