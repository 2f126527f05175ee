use Rattle.merkle_audit_parts.proofs.pin_nodes.+rebuilt_digest.Given as goal

abbrev pub decreases-rebuilt_digest : goal.decreases-rebuilt_digest
decreases-rebuilt_digest g l = l.subtree.now.height
