use Rattle.std.proofs.Common.{◌≡◌, ◌∙◌, ◌+◌, arith, sym, Equal}
use Rattle.std.proofs.lemmas.Cmp.{ranked}
use Rattle.merkle_base.proofs.Nodes.{size_lt}
use Rattle.merkle_forest_theory.specs.Mmr.{mmr_merges}
use Rattle.merkle_topology.proofs.mmr.narrow.Goals as goal

pub returns-in-Equal-clause-greatest : goal.returns-in-Equal-clause-greatest
returns-in-Equal-clause-greatest c =
    let same : c.node_count.result ≡ c.args.nodes = ranked c.node_count.result c.args.nodes Equal (sym c.in-Equal.is ∙ c.cmp.ensures) in
    omega (arith, c.node_count.ensures, same, size_lt mmr_merges c.args.leaves (c.args.leaves + 1) (omega arith))
