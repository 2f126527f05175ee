use Rattle.merkle_proof.proofs.proof.Proof.verify_leaf_digest_inclusion.Goals as goal

pub returns-clause-exact : goal.returns-clause-exact
returns-clause-exact g c = c.verify_leaf_digests_inclusion.ensures.exact

pub returns-clause-names : goal.returns-clause-names
returns-clause-names g c = c.verify_leaf_digests_inclusion.ensures.names

pub returns-clause-honest : goal.returns-clause-honest
returns-clause-honest g c = c.verify_leaf_digests_inclusion.ensures.honest

pub returns-clause-sound : goal.returns-clause-sound
returns-clause-sound g c = c.verify_leaf_digests_inclusion.ensures.sound
