use Rattle.std.proofs.Common.{◌≡◌, ◌+◌, ◌-◌, ◌≤◌, drop, length, vec_len, vec_capacity}
use Rattle.merkle_lines.specs.Held.{edited}
use Rattle.merkle_lines.proofs.structure.edit.Given as goal

-- the edits that are left give what all of them give, and there is room for them
abbrev pub invariant-loop-location : goal.invariant-loop-location
invariant-loop-location g l = record {
  left : edited l.fn.list.items l.edits ≡ edited l.list.items (drop l.location-index l.edits);
  room : vec_len l.list + (length l.edits - l.location-index) ≤ vec_capacity l.list;
}
