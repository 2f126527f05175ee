use Rattle.std.proofs.Common.{◌≡◌, List, take}
use Rattle.merkle_base.specs.Root.{folded}
use Rattle.merkle_base.specs.declared.family.Bagging.TheVariants.{ForwardFold}
use Rattle.merkle_proof.specs.RangePlans.{AreAnswered}
use Rattle.merkle_proof.proofs.reading.read_folded.Given as goal

abbrev pub invariant-loop-position : goal.invariant-loop-position
invariant-loop-position g l =
    (ds : List g.row.H-Digest.Denot) × AreAnswered (goal.G-post g l.get_node) (take l.position-index l.positions) ds × (l.folded ≡ folded (g.H.Hasher.hashing l.hasher).fold ForwardFold 0 ds)
