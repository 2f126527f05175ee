use Rattle.std.proofs.Common.{◌≡◌, ◌+◌, suc, arith, ap, ap₂, sym, length, map, slice_set, ◌++◌, ◌∷◌, [], ◌∙◌, append_assoc}
use Rattle.merkle_audit_theory.specs.Folds.{right_inputs}
use Rattle.merkle_root_theory.specs.Expression.{SuffixFold, Pair}
use Rattle.merkle_walks.specs.Hashed.{fold_at}
use Rattle.merkle_walks.proofs.FoldLists.{mapped_push, written}
use Rattle.merkle_walks.proofs.top.+fold_right.Goals as goal

pub returns-clause-hashed : goal.returns-clause-hashed
returns-clause-hashed g t c =
    let h = g.H.Hasher.hashing c.args.hasher.now in
    let old = c.args.folds.now.items in
    let one_more : c.args.number + 1 ≡ suc c.args.number = omega (arith) in
    let own : c.len-own.result ≡ length old = omega (arith, c.len-own.ensures) in
    let pushed = ap (λ l. map fold_at l) c.in_ok-push.ensures.items ∙ mapped_push old c.new.result in
    ap (λ m. map fold_at (slice_set c.fold_right.new.folds.items m c.new-2.result)) own
    ∙ written old c.fold_right.new.folds.items _ (fold_at c.new.result) c.new-2.result
    (c.in_ok-right.ensures.hashed ∙ ap (λ l. l ++ right_inputs h (c.args.number + 1) c.in-Some.next.now c.in-Some.rest.now) pushed ∙ append_assoc (map fold_at old) (fold_at c.new.result ∷ []) _)
    ∙ ap (λ l. map fold_at old ++ l)
    (ap₂ (λ x l. x ∷ l) (c.new-2.ensures
    ∙ ap (λ d. record { place = SuffixFold c.args.number; argument = Pair c.args.digest d }) c.in_ok-right.ensures.digest)
    (ap (λ i. right_inputs h i c.in-Some.next.now c.in-Some.rest.now) one_more)
    ∙ sym (ap (λ ds. right_inputs h c.args.number c.args.digest ds) c.in-Some.ensures.cases.0))
