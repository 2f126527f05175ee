use Rattle.std.proofs.Common.{◌<◌, ◌≤◌, sym, subst, ◌∙◌}
use Rattle.merkle_base.specs.Forest.{forest}
use Rattle.merkle_base.proofs.Nodes.{node_built}
use Rattle.merkle_hasher.proofs.Comparisons.{lt_yes, lt_no}
use Rattle.merkle_root_theory.specs.Plan.{tree_meets}
use Rattle.merkle_scattered.specs.Searched.{IsFirstFrom}
use Rattle.merkle_scattered.proofs.ToldTable.{item_read, item_past}
use Rattle.merkle_walks.specs.Chosen.{is_among}
use Rattle.merkle_walks.proofs.GivenLeaves.{some_under, past_under, later_under, same_test}
use Rattle.merkle_walks.proofs.scattered.LeafProof.meets.Goals as goal

pub returns-in-Some : goal.returns-in-Some
returns-in-Some g c = λ t w.
    let xs = c.args.self.now.locations.now in
    let ns = (forest g.F.Family.rule g.F.Family.MAX_LEAVES).nodes in
    let i = c.first_from-index.result in
    let built = node_built g.F.Family.rule g.F.Family.MAX_LEAVES c.args.node.now.position t w.at in
    let first = subst (λ z. IsFirstFrom xs z i) (sym w.first_is) c.first_from-index.ensures in
    let at = item_read xs i c.in-Some.location c.in-Some.ensures.lookup in
    let end = c.leaf_end.ensures t w in
    same_test c.lt.result (tree_meets (is_among xs) t)
    (λ yes. some_under ns xs i t built first at.0 c.in-Some.location.now at.1 (subst (λ z. c.in-Some.location.now < z) end (lt_yes _ _ (sym c.lt.ensures ∙ yes))))
    (λ no. later_under ns xs i t built first c.requires.ascends.locations at.0 c.in-Some.location.now at.1 (subst (λ z. z ≤ c.in-Some.location.now) end (lt_no _ _ (sym c.lt.ensures ∙ no))))

pub returns-in-None : goal.returns-in-None
returns-in-None g c = λ t w.
    let xs = c.args.self.now.locations.now in
    let ns = (forest g.F.Family.rule g.F.Family.MAX_LEAVES).nodes in
    let i = c.first_from-index.result in
    let built = node_built g.F.Family.rule g.F.Family.MAX_LEAVES c.args.node.now.position t w.at in
    let first = subst (λ z. IsFirstFrom xs z i) (sym w.first_is) c.first_from-index.ensures in
    sym (past_under ns xs i t built first (item_past xs i c.in-None.ensures.lookup))
