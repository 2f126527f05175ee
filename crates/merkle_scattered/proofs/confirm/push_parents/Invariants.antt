use Rattle.std.proofs.Common.{◌≡◌, ◌++◌, ◌+◌, ℕ, List, Option, drop, length}
use Rattle.merkle_base.specs.Hashing.{Hashing}
use Rattle.merkle_base.specs.Tree.{Tree}
use Rattle.merkle_forest_theory.specs.Ascending.{AscendsFrom}
use Rattle.merkle_scattered.specs.Confirmed.{AreChecked, locations_of, nodes_checked, all_children_met, all_parents_met}
use Rattle.merkle_scattered.proofs.confirm.push_parents.Given as goal

abbrev pub invariant-loop-node : goal.invariant-loop-node
invariant-loop-node g l =
    ((es : List (ℕ × g.row.D.Denot)) (ts : List Tree) → AscendsFrom 0 (locations_of es) → AreChecked g.F.Family.rule g.F.Family.MAX_LEAVES es l.nodes ts
    → length l.below ≡ length (all_children_met es ts) → l.next + length (all_children_met es (drop l.node-index ts)) ≡ length l.below)
    × ((h : Hashing g.row.D.Denot) (a : ℕ → Option g.row.D.Denot) (es : List (ℕ × g.row.D.Denot)) (ts : List Tree) → AscendsFrom 0 (locations_of es)
    → AreChecked g.F.Family.rule g.F.Family.MAX_LEAVES es l.nodes ts → l.below ≡ nodes_checked h a es (all_children_met es ts)
    → (drop l.next l.below ≡ nodes_checked h a es (all_children_met es (drop l.node-index ts)))
    × (l.parents.items ++ all_parents_met h a es (drop l.node-index ts) ≡ l.fn.parents.items ++ all_parents_met h a es ts))
