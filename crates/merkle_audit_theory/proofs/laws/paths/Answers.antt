use Rattle.merkle_audit_theory.proofs.PathSiblings.{path_has_siblings}
use Rattle.merkle_audit_theory.proofs.laws.paths.Goals as goal

pub returns : goal.returns
returns c = path_has_siblings
