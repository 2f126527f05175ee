use Rattle.merkle_audit_parts.proofs.pin_nodes.+first_pinned_at.Given as goal

abbrev pub decreases-first_pinned_at : goal.decreases-first_pinned_at
decreases-first_pinned_at g l = l.node.now.height
