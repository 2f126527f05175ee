use Rattle.std.proofs.Common.{◌≡◌, ◌-◌, ◌≤◌, ◌++◌, vec_capacity}
use Rattle.std.specs.List.{range_with_len}
use Rattle.merkle_batch_theory.specs.MemModel.{contents}
use Rattle.merkle_core.specs.ConfigBytes.{counted_spelling}
use Rattle.merkle_core.specs.MemBytes.{held_nodes}
use Rattle.merkle_core.proofs.WrittenNodes.{held_bytes}
use Rattle.merkle_core.proofs.mem.Mem.write_nodes.Given as goal

-- what is written, and the bytes of the nodes that are left
abbrev pub invariant-loop-index : goal.invariant-loop-index
invariant-loop-index g l = record {
  items : l.out.items ++ held_bytes g.D.Digest.bytes (contents l.self) (range_with_len l.index (l.self.size - l.index)) ≡ l.fn.out.items
      ++ counted_spelling g.D.Digest.bytes (held_nodes g.F.Family.rule l.self);
  room : vec_capacity l.fn.out ≤ vec_capacity l.out;
}
