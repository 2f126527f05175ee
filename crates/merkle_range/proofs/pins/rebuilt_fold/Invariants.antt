use Rattle.std.proofs.Common.{◌≡◌, List, map, take}
use Rattle.merkle_base.specs.Tree.{Tree}
use Rattle.merkle_hasher.specs.Subtrees.{Denotes, AreNodes, subtree_of}
use Rattle.merkle_root_theory.specs.Plan.{left_fold_plan, peak}
use Rattle.merkle_claim_theory.specs.Rebuilt.{rebuilt_part}
use Rattle.merkle_base.specs.Table.{digest_for}
use Rattle.merkle_range.proofs.pins.rebuilt_fold.Given as goal

abbrev pub invariant-loop-peak : goal.invariant-loop-peak
invariant-loop-peak g l = (t : Tree) (ts : List Tree) → Denotes g.F.Family.rule g.F.Family.MAX_LEAVES l.oldest t → l.others ≡ map subtree_of ts → AreNodes g.F.Family.rule g.F.Family.MAX_LEAVES ts
    → l.folded ≡ rebuilt_part (g.H.Hasher.hashing l.hasher) (digest_for l.pins.positions.items l.pins.digests.now) (left_fold_plan (peak t) 1 (take l.peak-index ts))
