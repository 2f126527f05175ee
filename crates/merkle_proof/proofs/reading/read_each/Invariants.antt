use Rattle.std.proofs.Common.{◌≡◌, ◌+◌, ◌++◌, List, take, vec_len, vec_capacity}
use Rattle.merkle_proof.specs.RangePlans.{AreAnswered}
use Rattle.merkle_proof.proofs.reading.read_each.Given as goal

abbrev pub invariant-loop-position : goal.invariant-loop-position
invariant-loop-position g l =
    ((ds : List g.row.D.Denot) × AreAnswered (goal.G-post g l.get_node) (take l.position-index l.positions) ds × (l.out.items ≡ l.fn.out.items ++ ds))
    × (vec_len l.out ≡ vec_len l.fn.out + l.position-index)
    × (vec_capacity l.out ≡ vec_capacity l.fn.out)
