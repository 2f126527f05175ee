use Rattle.std.proofs.Common.{ap, sym, ◌∙◌}
use Rattle.merkle_fixtures.specs.Flat.{leaves_from}
use Rattle.merkle_fixtures.specs.FlatLawful.{flat_size}
use Rattle.merkle_fixtures.proofs.FlatFacts.{flat_peaks}
use Rattle.merkle_fixtures.proofs.flat.FamilyFamily.peaks.Goals as goal

pub returns : goal.returns
returns c = λ n l e. ap (leaves_from 0) (c.as_u64.ensures ∙ sym e ∙ flat_size n) ∙ sym (flat_peaks n)
