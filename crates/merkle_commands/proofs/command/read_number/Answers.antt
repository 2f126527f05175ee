use Rattle.std.proofs.Common.{◌≡◌, ◌<◌, ◌^◌, ℕ, suc, zero, List, length, get_or, sym, ◌∙◌, ap, inl, inr, arith, IfSome, Ok, Err}
use Rattle.std.specs.Prelude.{Result}
use Rattle.std.specs.Result.{result_ok}
use Rattle.std.specs.Fmt.{decimal}
use Rattle.std.specs.Str.Parse.{ParsesUnsigned}
use Rattle.std.proofs.lemmas.Fmt.{decimal_digit, digits_decimal, decimal_nonempty, first_decimal, decimal-digits_value, parse-decimal}
use Rattle.std.proofs.lemmas.Str.Parse.{not_in_digits, parse_plain}
use Rattle.merkle_commands.specs.Words.{IsPadded}
use Rattle.merkle_commands.proofs.Arguments.{numerals}
use Rattle.merkle_commands.proofs.command.read_number.Goals as goal

-- a number's decimal digits are not padded
zero_alone : (n : ℕ) → n < 2 ^ 64 → get_or (decimal n) 0 0 ≡ 48 → length (decimal n) ≡ 1
zero_alone zero h z = ap length (decimal_digit 0 (omega arith))
zero_alone (suc n) h z = absurd (omega (arith, first_decimal (suc n) (omega arith) h))

not_padded : (n : ℕ) → n < 2 ^ 64 → ¬ (IsPadded (decimal n))
not_padded n h (inl plus) = not_in_digits numerals (decimal n) 43 (digits_decimal numerals n h) (λ r. omega arith) 0 (decimal_nonempty n h) plus
not_padded n h (inr front) = omega (arith, zero_alone n h front.0)

-- what is read is the number whose digits the word is
reads : {E : Type 0} (word : List ℕ) (r : Result ℕ E) → ParsesUnsigned 64 10 word r → ¬ (IsPadded word) → IfSome (result_ok r) (λ n. word ≡ decimal n)
reads {E = E} word (Ok n) h plain =
    let read = parse_plain numerals {E = E} 64 word (Ok n) h (λ e. plain (inl e)) in
    let some : 0 < length word = read.0.1 in
    let front : get_or word 0 0 ≡ 48 → length word ≡ 1 =
    (λ e. let long : ¬ (1 < length word) = λ l. plain (inr (e, l)) in omega (arith, some, long)) in
    rw read.1 (sym (decimal-digits_value numerals word read.0.0 some front read.0.2))
reads word (Err e) h plain = tt

pub returns-then-is_padded-clause-found : goal.returns-then-is_padded-clause-found
returns-then-is_padded-clause-found c = λ n h e. absurd (not_padded n h (rw (← e) (c.is_padded.ensures.0 c.if-is_padded.true)))

pub returns-clause-value : goal.returns-clause-value
returns-clause-value c = rw c.ok.ensures.value (reads c.args.word.now c.parse.result c.parse.ensures.value.0 (λ p. cc (c.if-is_padded.ensures.1 p)))

pub returns-clause-found : goal.returns-clause-found
returns-clause-found c = λ n h e. c.ok.ensures.value ∙ ap result_ok (parse-decimal 64 n c.args.word.now c.parse.result h h e c.parse.ensures.value.0)
