use Rattle.std.proofs.Common.{◌≡◌, None, Some, arith}
use Rattle.merkle_commands.proofs.Arguments.{cut_after, decimal_spaceless, is_update, none_holds}
use Rattle.merkle_commands.proofs.command.read_update.Goals as goal

pub returns-in_err-location-clause-none : goal.returns-in_err-location-clause-none
returns-in_err-location-clause-none c = none_holds c.from_residual.result (λ command i e.
    let u = is_update c.args.words.now command i e in
    cut_after c.args.words.now _ _ None c.in_err-location.ensures.cases u.4 (decimal_spaceless u.0 u.2))

pub returns-in_err-read_number-clause-none : goal.returns-in_err-read_number-clause-none
returns-in_err-read_number-clause-none c = none_holds c.from_residual-in_err-read_number.result (λ command i e.
    let u = is_update c.args.words.now command i e in
    let parts = cut_after c.args.words.now _ _ (Some (c.in_ok-location.location, c.in_ok-location.element)) c.in_ok-location.ensures.cases u.4 (decimal_spaceless u.0 u.2) in
    cc (c.in_err-read_number.ensures.found u.0 u.2 parts.0))

pub returns-in_err-read_element-clause-none : goal.returns-in_err-read_element-clause-none
returns-in_err-read_element-clause-none c = none_holds c.from_residual-in_err-read_element.result (λ command i e.
    let u = is_update c.args.words.now command i e in
    let parts = cut_after c.args.words.now _ _ (Some (c.in_ok-location.location, c.in_ok-location.element)) c.in_ok-location.ensures.cases u.4 (decimal_spaceless u.0 u.2) in
    c.in_err-read_element.ensures.none u.1 u.3 parts.1)
