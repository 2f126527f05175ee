use Rattle.std.proofs.Common.{rules, ◌≡◌, ◌-◌, ◌+◌, ◌<◌, ◌++◌, length, arith, sym, ap, ◌∙◌, subst, vec_capacity, vec_len}
use Rattle.std.specs.List.{range_with_len}
use Rattle.merkle_base.specs.Forest.{size}
use Rattle.merkle_batch_theory.specs.MemModel.{MemModel, contents}
use Rattle.merkle_core.specs.MemBytes.{held_nodes}
use Rattle.merkle_core.proofs.HeldReads.{next_range}
use Rattle.merkle_core.proofs.WrittenNodes.{begin_with, held_bytes, node_bytes, no_room_first, no_room_on, on_err, write_on}
use Rattle.merkle_core.proofs.mem.Mem.write_nodes.Goals as goal

pub returns-in_err-write_number-clause-no_room : goal.returns-in_err-write_number-clause-no_room
returns-in_err-write_number-clause-no_room g c =
    let out = c.args.out.now in
    on_err c.from_residual.result _
    (no_room_first g.D.Digest.bytes (held_nodes g.F.Family.rule c.args.self.now) (vec_len out) (vec_capacity out) c.node_count.result c.node_count.ensures c.in_err-write_number.ensures.no_room)

pub loop-index-init : goal.loop-index-init
loop-index-init g c =
    let rule = g.F.Family.rule in
    let s = c.args.self.now in
    let start = c.as_u64-index.ensures ∙ c.location_to_position-start.ensures ∙ ap (λ (m : MemModel _). size rule m.boundary) c.self.view_is in
    record {
      items = begin_with g.D.Digest.bytes (contents s) c.args.out.now.items c.write_number.new.out.items c.node_count.result _ (range_with_len (size rule s.boundary) (s.size - size rule s.boundary))
          c.in_ok-write_number.ensures.ok c.node_count.ensures (ap (λ n. range_with_len n (s.size - n)) start);
      room = c.write_number.ensures.capacity;
    }

pub loop-index-preserved : goal.loop-index-preserved
loop-index-preserved g c =
    let bytes = g.D.Digest.bytes in
    let held = contents c.args.self.now in
    let i = c.loop-index.index in
    let out = c.loop-index.out.items in
    let below : i < held.size = omega (arith, c.loop-index-test.true, c.as_u64-index-end.ensures, c.size-end.ensures) in
    let rest = range_with_len (i + 1) (held.size - (i + 1)) in
    let here = ap (λ ps. out ++ held_bytes bytes held ps) (sym (next_range i held.size below)) ∙ c.loop-index.invariant.items in
    let written = c.in_ok-write_node.ensures.ok ∙ ap (λ p. out ++ node_bytes bytes held p) c.new.ensures in
    record {
      items = write_on bytes held out c.write_node.new.out.items _ i rest here written;
      room = omega (arith, c.loop-index.invariant.room, c.write_node.ensures.capacity);
    }

pub returns-in_err-write_node-clause-no_room : goal.returns-in_err-write_node-clause-no_room
returns-in_err-write_node-clause-no_room g c =
    let bytes = g.D.Digest.bytes in
    let held = contents c.args.self.now in
    let i = c.loop-index.index in
    let old = c.args.out.now in
    let now = c.loop-index.out in
    let below : i < held.size = omega (arith, c.loop-index-test.true, c.as_u64-index-end.ensures, c.size-end.ensures) in
    let rest = range_with_len (i + 1) (held.size - (i + 1)) in
    let here = ap (λ ps. now.items ++ held_bytes bytes held ps) (sym (next_range i held.size below)) ∙ c.loop-index.invariant.items in
    let few = subst (λ p. vec_capacity now < vec_len now + length (node_bytes bytes held p)) c.new.ensures c.in_err-write_node.ensures.no_room in
    on_err c.from_residual-in_err-write_node.result _
    (no_room_on bytes held old.items now.items _ i rest (vec_len old) (vec_capacity old) (vec_len now) (vec_capacity now) old.ok.0 now.ok.0 here
    c.loop-index.invariant.room few)

pub returns-clause-ok : goal.returns-clause-ok
returns-clause-ok g c = search rules
