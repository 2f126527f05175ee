use Rattle.std.proofs.Common.{ap, ◌∙◌}
use Rattle.merkle_hasher.proofs.read.RcReadable.size.Goals as goal

pub returns : goal.returns
returns g c = c.size.ensures ∙ ap g.R.Readable.size c.deref.ensures
