use Rattle.std.proofs.Common.{◌≡◌, ◌+◌, ◌≤◌, Some, map, take, drop, length}
use Rattle.merkle_base.specs.Places.{peak_positions}
use Rattle.merkle_verification.proofs.roots.read_peaks.Given as goal

-- the digests so far are those at as many positions, and the other positions are left
abbrev pub invariant-loop-position : goal.invariant-loop-position
invariant-loop-position g l = record {
  goes : (goal.iterator-loop-position g).can_next l.position-iterator;
  ends : (goal.iterator-loop-position g).is_finite l.position-iterator;
  room : length l.digests ≡ 64;
  few : l.count + length l.position-iterator ≤ 64;
  left : drop l.count (peak_positions g.R.Family.Family.rule l.fn.leaves) ≡ l.position-iterator;
  read : map Some (take l.count l.digests) ≡ map (g.R.Readable.node l.reader) (take l.count (peak_positions g.R.Family.Family.rule l.fn.leaves));
}
