use Rattle.std.proofs.Common.{[], ◌∷◌}
use Rattle.merkle_reconstruction.proofs.collector.put_both.Goals as goal

pub returns : goal.returns
returns g c = g.met.C.Collector.took_both _ _ _ ((c.args.left, c.args.first.now) ∷ []) ((c.args.right, c.args.second.now) ∷ []) c.in_ok-put.ensures c.in_ok-put-2.ensures
