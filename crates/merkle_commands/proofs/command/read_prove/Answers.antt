use Rattle.std.proofs.Common.{◌≡◌, None, Some, arith}
use Rattle.merkle_commands.proofs.Arguments.{cut_after, decimal_spaceless, is_prove, none_holds}
use Rattle.merkle_commands.proofs.command.read_prove.Goals as goal

pub returns-in_err-start-clause-none : goal.returns-in_err-start-clause-none
returns-in_err-start-clause-none c = none_holds c.from_residual.result (λ command i e.
    let p = is_prove c.args.words.now command i e in
    cut_after c.args.words.now _ _ None c.in_err-start.ensures.cases p.6 (decimal_spaceless p.0 p.3))

pub returns-in_err-end-clause-none : goal.returns-in_err-end-clause-none
returns-in_err-end-clause-none c = none_holds c.from_residual-in_err-end.result (λ command i e.
    let p = is_prove c.args.words.now command i e in
    let first = cut_after c.args.words.now _ _ (Some (c.in_ok-start.start, c.in_ok-start.rest)) c.in_ok-start.ensures.cases p.6 (decimal_spaceless p.0 p.3) in
    cut_after c.in_ok-start.rest.now _ _ None c.in_err-end.ensures.cases first.1 (decimal_spaceless p.1 p.4))

pub returns-in_err-read_number-clause-none : goal.returns-in_err-read_number-clause-none
returns-in_err-read_number-clause-none c = none_holds c.from_residual-in_err-read_number.result (λ command i e.
    let p = is_prove c.args.words.now command i e in
    let first = cut_after c.args.words.now _ _ (Some (c.in_ok-start.start, c.in_ok-start.rest)) c.in_ok-start.ensures.cases p.6 (decimal_spaceless p.0 p.3) in
    cc (c.in_err-read_number.ensures.found p.0 p.3 first.0))

pub returns-in_err-read_number-2-clause-none : goal.returns-in_err-read_number-2-clause-none
returns-in_err-read_number-2-clause-none c = none_holds c.from_residual-in_err-read_number-2.result (λ command i e.
    let p = is_prove c.args.words.now command i e in
    let first = cut_after c.args.words.now _ _ (Some (c.in_ok-start.start, c.in_ok-start.rest)) c.in_ok-start.ensures.cases p.6 (decimal_spaceless p.0 p.3) in
    let second = cut_after c.in_ok-start.rest.now _ _ (Some (c.in_ok-end.end, c.in_ok-end.inactive)) c.in_ok-end.ensures.cases first.1 (decimal_spaceless p.1 p.4) in
    cc (c.in_err-read_number-2.ensures.found p.1 p.4 second.0))

pub returns-in_err-read_count-clause-none : goal.returns-in_err-read_count-clause-none
returns-in_err-read_count-clause-none c = none_holds c.from_residual-in_err-read_count.result (λ command i e.
    let p = is_prove c.args.words.now command i e in
    let first = cut_after c.args.words.now _ _ (Some (c.in_ok-start.start, c.in_ok-start.rest)) c.in_ok-start.ensures.cases p.6 (decimal_spaceless p.0 p.3) in
    let second = cut_after c.in_ok-start.rest.now _ _ (Some (c.in_ok-end.end, c.in_ok-end.inactive)) c.in_ok-end.ensures.cases first.1 (decimal_spaceless p.1 p.4) in
    cc (c.in_err-read_count.ensures.found p.2 p.5 second.1))
