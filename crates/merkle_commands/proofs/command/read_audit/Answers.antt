use Rattle.std.proofs.Common.{◌≡◌, ◌∷◌, [], ◌++◌, None, Some, ap, refl, arith, rules, sym, subst, ◌∙◌}
use Rattle.std.specs.List.{AllByRecursion}
use Rattle.std.proofs.lemmas.Str.Pattern.{split_parts}
use Rattle.merkle_commands.specs.Commands.{IsDigitsWord, IsElementWord, joined, optional_words}
use Rattle.merkle_commands.proofs.Arguments.{cut_after, cut_joined, decimal_spaceless, hex_spaceless, is_audit, joined_cut, none_holds}
use Rattle.merkle_commands.proofs.command.read_audit.Goals as goal

pub returns-in_err-start-clause-none : goal.returns-in_err-start-clause-none
returns-in_err-start-clause-none c = none_holds c.from_residual.result (λ command i e.
    let p = is_audit c.args.words.now command i e in
    cut_after c.args.words.now _ _ None c.in_err-start.ensures.cases p.8 (decimal_spaceless p.0 p.4))

pub returns-in_err-inactive-clause-none : goal.returns-in_err-inactive-clause-none
returns-in_err-inactive-clause-none c = none_holds c.from_residual-in_err-inactive.result (λ command i e.
    let p = is_audit c.args.words.now command i e in
    let first = cut_after c.args.words.now _ _ (Some (c.in_ok-start.start, c.in_ok-start.rest)) c.in_ok-start.ensures.cases p.8 (decimal_spaceless p.0 p.4) in
    cut_after c.in_ok-start.rest.now _ _ None c.in_err-inactive.ensures.cases first.1 (decimal_spaceless p.1 p.5))

pub returns-then-not-are_all_elements-clause-none : goal.returns-then-not-are_all_elements-clause-none
returns-then-not-are_all_elements-clause-none c = λ command i e.
    let p = is_audit c.args.words.now command i e in
    let first = cut_after c.args.words.now _ _ (Some (c.in_ok-start.start, c.in_ok-start.rest)) c.in_ok-start.ensures.cases p.8 (decimal_spaceless p.0 p.4) in
    let second = cut_after c.in_ok-start.rest.now _ _ (Some (c.in_ok-inactive.inactive, c.in_ok-inactive.rest)) c.in_ok-inactive.ensures.cases first.1 (decimal_spaceless p.1 p.5) in
    let last = cut_joined c.in_ok-inactive.rest.now c.cut.result.0.now p.2 c.cut.result.1 p.3 c.cut.ensures.words second.1 (hex_spaceless p.2 p.6.0) in
    search (rules, c.are_all_elements.ensures.1 (subst (AllByRecursion IsElementWord) (sym last.1) p.7), c.if-not-are_all_elements.true)

pub returns-in_err-read_number-clause-none : goal.returns-in_err-read_number-clause-none
returns-in_err-read_number-clause-none c = none_holds c.from_residual-in_err-read_number.result (λ command i e.
    let p = is_audit c.args.words.now command i e in
    let first = cut_after c.args.words.now _ _ (Some (c.in_ok-start.start, c.in_ok-start.rest)) c.in_ok-start.ensures.cases p.8 (decimal_spaceless p.0 p.4) in
    cc (c.in_err-read_number.ensures.found p.0 p.4 first.0))

pub returns-in_err-read_count-clause-none : goal.returns-in_err-read_count-clause-none
returns-in_err-read_count-clause-none c = none_holds c.from_residual-in_err-read_count.result (λ command i e.
    let p = is_audit c.args.words.now command i e in
    let first = cut_after c.args.words.now _ _ (Some (c.in_ok-start.start, c.in_ok-start.rest)) c.in_ok-start.ensures.cases p.8 (decimal_spaceless p.0 p.4) in
    let second = cut_after c.in_ok-start.rest.now _ _ (Some (c.in_ok-inactive.inactive, c.in_ok-inactive.rest)) c.in_ok-inactive.ensures.cases first.1 (decimal_spaceless p.1 p.5) in
    cc (c.in_err-read_count.ensures.found p.1 p.5 second.0))

pub returns-in_err-read_digits-clause-none : goal.returns-in_err-read_digits-clause-none
returns-in_err-read_digits-clause-none c = none_holds c.from_residual-in_err-read_digits.result (λ command i e.
    let p = is_audit c.args.words.now command i e in
    let first = cut_after c.args.words.now _ _ (Some (c.in_ok-start.start, c.in_ok-start.rest)) c.in_ok-start.ensures.cases p.8 (decimal_spaceless p.0 p.4) in
    let second = cut_after c.in_ok-start.rest.now _ _ (Some (c.in_ok-inactive.inactive, c.in_ok-inactive.rest)) c.in_ok-inactive.ensures.cases first.1 (decimal_spaceless p.1 p.5) in
    let last = cut_joined c.in_ok-inactive.rest.now c.cut.result.0.now p.2 c.cut.result.1 p.3 c.cut.ensures.words second.1 (hex_spaceless p.2 p.6.0) in
    c.in_err-read_digits.ensures.none (subst IsDigitsWord (sym last.0) p.6))

pub returns-clause-spelled : goal.returns-clause-spelled
returns-clause-spelled c =
    let first = (split_parts 32 c.args.words.now (Some (c.in_ok-start.start, c.in_ok-start.rest)) c.in_ok-start.ensures.cases (omega arith)).0 in
    let second = (split_parts 32 c.in_ok-start.rest.now (Some (c.in_ok-inactive.inactive, c.in_ok-inactive.rest)) c.in_ok-inactive.ensures.cases (omega arith)).0 in
    let last = joined_cut c.in_ok-inactive.rest.now c.cut.result.0.now c.cut.result.1 c.cut.ensures.words in
    rw (first, second, last, c.in_ok-read_number.ensures.value, c.in_ok-read_count.ensures.value, ← c.in_ok-read_digits.ensures.same) refl
