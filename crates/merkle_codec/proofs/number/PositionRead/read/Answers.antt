use Rattle.std.proofs.Common.{Ok, ◌<◌, ◌≤◌, ◌^◌, arith, sym, ap, ◌∙◌}
use Rattle.merkle_base.specs.declared.error.DecodeError.TheVariants.{Invalid}
use Rattle.merkle_codec.specs.NumberLaws.{number_spelling_once, IsRefusalUpTo_spells_none, lawful_nodes}
use Rattle.merkle_codec.proofs.number.PositionRead.read.Goals as goal

pub returns-in_err-number-clause-written : goal.returns-in_err-number-clause-written
returns-in_err-number-clause-written g c x rest within e =
    let F = g.F.Family in
    let fits : c.MAX_NODES.result < 2 ^ 64 = omega (arith, c.MAX_NODES.ensures, lawful_nodes F.rule F.MAX_LEAVES F.MAX_NODES g.met.F.Family.lawful) in
    let below : x ≤ c.MAX_NODES.result = omega (arith, c.MAX_NODES.ensures, within) in
    absurd (IsRefusalUpTo_spells_none c.MAX_NODES.result Invalid c.args.input.now.now c.in_err-number.field-0.0 c.in_err-number.ensures.refused fits x rest below e)

pub returns-clause-written : goal.returns-clause-written
returns-clause-written g c x rest within e =
    let same = number_spelling_once c.in_ok-number.number x c.in_ok-number.rest.now rest (sym c.in_ok-number.ensures.read ∙ e) in
    (ap Ok (c.new.ensures ∙ same.0), same.1)
