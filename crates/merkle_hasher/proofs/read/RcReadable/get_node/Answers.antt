use Rattle.std.proofs.Common.{ap, ◌∙◌}
use Rattle.merkle_hasher.proofs.read.RcReadable.get_node.Goals as goal

pub returns : goal.returns
returns g c = c.get_node.ensures ∙ ap (λ r. g.R.Readable.node r c.args.position) c.deref.ensures
