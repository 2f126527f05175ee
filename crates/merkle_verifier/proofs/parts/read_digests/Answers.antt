use Rattle.std.proofs.Common.{◌≡◌, ◌++◌, take, false, arith, rules, sym, ap, subst, ◌∙◌}
use Rattle.std.proofs.lemmas.List.{take-append-drop}
use Rattle.merkle_verifier.proofs.JoinedDigests.{joined_more, joined_none}
use Rattle.merkle_verifier.proofs.Spelled.{some_length}
use Rattle.merkle_verifier.specs.Inputs.{joined_digests}
use Rattle.merkle_verifier.proofs.parts.read_digests.Goals as goal

pub returns-in_default-clause-none : goal.returns-in_default-clause-none
returns-in_default-clause-none c = λ none.
    let l = c.loop-rest in
    let more : c.is_empty.result ≡ false = search (rules, c.loop-rest-test.true) in
    let some = some_length l.rest.now c.is_empty.result c.is_empty.ensures more in
    joined_none l.digests.items c.args.bytes.now l.rest.now l.invariant (omega (arith, some)) c.in_default.ensures.cases

pub loop-rest-preserved : goal.loop-rest-preserved
loop-rest-preserved c =
    let l = c.loop-rest in
    let split = c.in-Some.ensures.cases in
    let parts : c.in-Some.first.now ++ c.in-Some.after.now ≡ l.rest.now = ap (λ b. b ++ c.in-Some.after.now) split.1 ∙ ap (λ b. take 32 l.rest.now ++ b) split.2 ∙ take-append-drop 32 l.rest.now in
    subst (λ ds. joined_digests ds ++ c.in-Some.after.now ≡ c.args.bytes.now) (sym c.in_ok-push.ensures.items)
    (joined_more l.digests.items c.in-Some-from_bytes.digest c.args.bytes.now l.rest.now c.in-Some.first.now c.in-Some.after.now l.invariant (sym parts) c.in-Some-from_bytes.ensures)
