use Rattle.std.proofs.Common.{◌≡◌, [], arith, ap, sym, ◌∙◌, subst}
use Rattle.std.specs.FinMap.{get, get-empty}
use Rattle.std.specs.Ordering.{nat_cmp}
use Rattle.merkle_base.specs.Forest.{size}
use Rattle.merkle_base.proofs.Lookup.{size_zero}
use Rattle.merkle_batch_theory.specs.Contents.{Agrees}
use Rattle.merkle_batch_theory.specs.Held.{held_contents}
use Rattle.merkle_batch_theory.proofs.HeldNodes.{kept_counted, contents_none}
use Rattle.merkle_batch_theory.proofs.HeldWhere.{nothing_held}
use Rattle.merkle_batch_theory.proofs.ShownLists.{agrees_empty}
use Rattle.merkle_core.proofs.mem.Mem.new.Goals as goal

pub invariant_of-result : goal.invariant_of-result
invariant_of-result g c =
    let rule = g.F.Family.rule in
    let held = c.new.result in
    let none : size rule c.new-3.result ≡ 0 = ap (size rule) c.new-3.ensures ∙ size_zero rule in
    let start : held.start ≡ size rule c.new-2.result = c.new.ensures.start ∙ sym (ap (size rule) c.new-2.ensures ∙ size_zero rule) in
    kept_counted rule g.F.Family.MAX_LEAVES c.new-2.result c.new-3.result held (record { bounded = omega (arith, c.new-3.ensures); sized = none ∙ sym c.new.ensures.size })
    start (omega (arith, c.new.ensures.start))
    (nothing_held rule (held_contents c.new-2.result held) c.new.ensures.size (λ p. ap (λ s. get s p) c.new.ensures.stored ∙ get-empty nat_cmp p))

pub returns-clause-agrees : goal.returns-clause-agrees
returns-clause-agrees g c = λ h.
    let rule = g.F.Family.rule in
    subst (λ s. Agrees h rule s [])
    (sym (contents_none _ (λ i. record
    { boundary = c.new-2.ensures i; leaves = c.new-3.ensures i; size = c.new.ensures.size i; stored = c.new.ensures.stored i }))) (agrees_empty h rule)
