use Rattle.std.proofs.Common.{take}
use Rattle.merkle_draft.specs.Settled.{AreParents, draft_node}
use Rattle.merkle_draft.proofs.draft.Draft.read_children.Given as goal

abbrev pub invariant-loop-position : goal.invariant-loop-position
invariant-loop-position g l = AreParents g.F.Family.rule (draft_node l.self (g.B.Base.contents l.base)) (take l.position-index l.positions) l.parents.items
