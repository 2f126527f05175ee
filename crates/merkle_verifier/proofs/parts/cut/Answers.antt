use Rattle.std.proofs.Common.{◌≡◌, ◌++◌, ◌∷◌, [], ◌+◌, ◌<◌, ◌≤◌, suc, get_or, length, drop, arith, refl, sym, ap, subst, ◌∙◌}
use Rattle.std.proofs.lemmas.List.{map-append}
use Rattle.std.proofs.Math.ListN.{drop_of_length-le}
use Rattle.std.proofs.Math.Seq.{drop-cons}
use Rattle.merkle_root_theory.specs.Walk.{bytes_of}
use Rattle.merkle_verifier.proofs.Cuts.{CutSoFar, cut_goes, cut_ends, cut_of_more, cut_of_fewer}
use Rattle.merkle_verifier.proofs.Spelled.{no_bytes, some_length}
use Rattle.merkle_verifier.proofs.parts.cut.Goals as goal

pub returns-in_default-clause-none : goal.returns-in_default-clause-none
returns-in_default-clause-none c = λ none.
    let l = c.loop-size in
    let lengths = c.args.lengths.now in
    let below : l.size-index < length lengths = omega (arith, c.loop-size-test.true, l.invariant.2) in
    cut_of_fewer lengths c.args.bytes.now (drop (suc l.size-index) lengths) l.rest.now (get_or lengths l.size-index 0) (bytes_of l.parts.items)
    (subst (λ ns. CutSoFar lengths c.args.bytes.now ns l.rest.now (bytes_of l.parts.items)) (drop-cons lengths l.size-index 0 below) l.invariant.3)
    c.in_default.ensures.cases

pub loop-size-preserved : goal.loop-size-preserved
loop-size-preserved c =
    let l = c.loop-size in
    let lengths = c.args.lengths.now in
    let below : l.size-index < length lengths = omega (arith, c.loop-size-test.true, l.invariant.2) in
    let next : suc l.size-index ≡ l.size-index + 1 = omega arith in
    let grown : bytes_of c.push.new.self.items ≡ bytes_of l.parts.items ++ c.in-Some.part.now ∷ [] = ap bytes_of c.in_ok-push.ensures.items
    ∙ map-append (λ e. e.now) l.parts.items (c.in-Some.part ∷ []) in
    let cut = cut_goes lengths c.args.bytes.now (drop (suc l.size-index) lengths) l.rest.now c.in-Some.part.now c.in-Some.after.now (get_or lengths l.size-index 0) (bytes_of l.parts.items)
    (subst (λ ns. CutSoFar lengths c.args.bytes.now ns l.rest.now (bytes_of l.parts.items)) (drop-cons lengths l.size-index 0 below) l.invariant.3)
    c.in-Some.ensures.cases in (
      refl,
      omega (arith, below),
      refl,
      subst (λ i. CutSoFar lengths c.args.bytes.now (drop i lengths) c.in-Some.after.now (bytes_of c.push.new.self.items)) next
          (subst (λ ps. CutSoFar lengths c.args.bytes.now (drop (suc l.size-index) lengths) c.in-Some.after.now ps) (sym grown) cut),
    )

pub returns-then-not-is_empty-clause-none : goal.returns-then-not-is_empty-clause-none
returns-then-not-is_empty-clause-none c = λ none.
    let l = c.loop-size in
    let lengths = c.args.lengths.now in
    let past : length lengths ≤ l.size-index = omega (arith, c.loop-size-test.false, l.invariant.2) in
    cut_of_more lengths c.args.bytes.now l.rest.now (bytes_of l.parts.items)
    (subst (λ ns. CutSoFar lengths c.args.bytes.now ns l.rest.now (bytes_of l.parts.items)) (drop_of_length-le lengths past) l.invariant.3)
    (some_length l.rest.now c.is_empty.result c.is_empty.ensures c.if-not-is_empty.true)

pub returns-clause-some : goal.returns-clause-some
returns-clause-some c =
    let l = c.loop-size in
    let lengths = c.args.lengths.now in
    let past : length lengths ≤ l.size-index = omega (arith, c.loop-size-test.false, l.invariant.2) in
    let none = no_bytes l.rest.now c.is_empty.result c.is_empty.ensures c.if-not-is_empty.false in
    cut_ends lengths c.args.bytes.now (bytes_of l.parts.items)
    (subst (λ r. CutSoFar lengths c.args.bytes.now [] r (bytes_of l.parts.items)) none
    (subst (λ ns. CutSoFar lengths c.args.bytes.now ns l.rest.now (bytes_of l.parts.items)) (drop_of_length-le lengths past) l.invariant.3))
