use Rattle.std.proofs.Common.{sym, ◌∙◌}
use Rattle.merkle_codec.specs.NumberLaws.{lawful_locations}
use Rattle.merkle_core.specs.ConfigLaws.{IsConfigRefusal_of_spelling, config_spelling_once}
use Rattle.merkle_core.proofs.config_codec.ConfigRead.read.Goals as goal

pub returns-in-Ok-clause-written : goal.returns-in-Ok-clause-written
returns-in-Ok-clause-written g c x rest within e =
    let D = g.met.D.Digest in
    let bytes = g.D.Digest.bytes in
    (config_spelling_once bytes g.D.Digest.SIZE (λ y. D.one_length (bytes y) (D.bytes_spell y)) D.bytes_decide c.in-Ok.config x c.in-Ok.rest.now rest (sym c.in-Ok.ensures.read ∙ e), tt)

pub returns-in-Err-clause-written : goal.returns-in-Err-clause-written
returns-in-Err-clause-written g c x rest within e =
    let D = g.met.D.Digest in
    let F = g.F.Family in
    let bytes = g.D.Digest.bytes in
    let limits = c.args.limits.now in
    let fits = lawful_locations F.rule F.MAX_LEAVES F.MAX_NODES g.met.F.Family.lawful in (
      tt,
      IsConfigRefusal_of_spelling bytes g.D.Digest.SIZE (λ y. D.one_length (bytes y) (D.bytes_spell y)) g.D.Digest.Spells D.bytes_spell D.bytes_decide
          F.MAX_LEAVES limits.pinned_nodes limits.nodes fits
          c.args.input.now.now c.in-Err.error c.in-Err.ensures.refused x rest within e,
    )
