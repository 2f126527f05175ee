use Rattle.merkle_draft.proofs.draft.Draft.+mark.Given as goal

abbrev pub decreases-mark : goal.decreases-mark
decreases-mark g l = l.subtree.now.height
