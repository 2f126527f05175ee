use Rattle.merkle_topology.proofs.BeltRoots.{birth_found, birth_found_leaf}
use Rattle.merkle_topology.proofs.mmb.birth_leaf_of.Goals as goal

pub returns-then-height-eq0-clause-birth : goal.returns-then-height-eq0-clause-birth
returns-then-height-eq0-clause-birth c = λ s e.
    let f = c.leaf_count_within.ensures in
    birth_found_leaf s c.args.height c.args.position c.leaf_count_within.result c.if-height-eq0.true e f.within f.greatest

pub returns-clause-birth : goal.returns-clause-birth
returns-clause-birth c = λ s e.
    let f = c.leaf_count_within-2.ensures in
    birth_found s c.args.height c.args.position c.leaf_count_within-2.result c.if-height-eq0.false e f.within f.greatest
