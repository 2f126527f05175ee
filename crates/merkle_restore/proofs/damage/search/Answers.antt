use Rattle.std.proofs.Common.{◌≡◌, ℕ, suc, ◌+◌, ◌<◌, ◌≤◌, [], ◌++◌, append-nil, length, arith, sym, ap, ◌∙◌}
use Rattle.std.proofs.lemmas.Option.{MatchOption-at_none}
use Rattle.merkle_base.specs.Forest.{size}
use Rattle.merkle_base.proofs.Nodes.{size_le}
use Rattle.merkle_batch_theory.proofs.OptionFacts.{none_of}
use Rattle.merkle_restore.specs.HeldParents.{first_wrong, parents_from}
use Rattle.merkle_restore.proofs.FirstWrong.{finds_on}
use Rattle.merkle_restore.proofs.ParentLists.{parents_end}
use Rattle.merkle_restore.proofs.SearchResults.{if_none}
use Rattle.merkle_restore.proofs.damage.search.Goals as goal

pub returns-then-is_some-clause-at_most : goal.returns-then-is_some-clause-at_most
returns-then-is_some-clause-at_most g c =
    let rule = g.F.Family.rule in
    let held = (g.B.Base.contents c.args.base.now).node in
    let n : ℕ = g.B.Base.leaves c.args.base.now in
    let below : c.new.result < n = omega (arith, c.new.ensures, c.loop-leaf-test.true, c.as_u64-end.ensures, c.leaves.ensures.count) in
    omega (arith, c.compare_parents-found.ensures.at_most n below, c.loop-leaf.invariant.2, ap (λ k. length (parents_from rule n held (size rule k))) c.new.ensures)

pub loop-leaf-preserved : goal.loop-leaf-preserved
loop-leaf-preserved g c =
    let rule = g.F.Family.rule in
    let h = g.H.Hasher.hashing c.args.hasher.now in
    let held = (g.B.Base.contents c.args.base.now).node in
    let n : ℕ = g.B.Base.leaves c.args.base.now in
    let from = size rule (g.B.Base.contents c.args.base.now).boundary in
    let found = c.compare_parents-found in
    let below : c.new.result < n = omega (arith, c.new.ensures, c.loop-leaf-test.true, c.as_u64-end.ensures, c.leaves.ensures.count) in
    let next : suc c.new.result ≡ c.loop-leaf.leaf + 1 = omega (arith, c.new.ensures) in
    let test = sym c.is_some.ensures ∙ c.if-is_some.false in
    let counted = MatchOption-at_none _ _ (none_of found.result test) found.ensures.counted in (
      omega (arith, found.ensures.fits, ap (size rule) next),
      finds_on h held found.result (parents_from rule n held from) (c.loop-leaf.waiting.items ++ parents_from rule n held (size rule c.new.result))
          (found.new.waiting.items ++ parents_from rule n held (size rule (suc c.new.result))) test
          (c.loop-leaf.invariant.1 ∙ ap (λ k. first_wrong h held (c.loop-leaf.waiting.items ++ parents_from rule n held (size rule k))) (sym c.new.ensures)) (found.ensures.found n below)
          ∙ ap (λ k. first_wrong h held (found.new.waiting.items ++ parents_from rule n held (size rule k))) next,
      omega (
        arith,
        counted n below,
        c.loop-leaf.invariant.2,
        ap (λ k. length (parents_from rule n held (size rule k))) c.new.ensures,
        ap (λ k. length (parents_from rule n held (size rule k))) next,
      ),
    )

pub returns-clause-found : goal.returns-clause-found
returns-clause-found g c =
    let rule = g.F.Family.rule in
    let h = g.H.Hasher.hashing c.args.hasher.now in
    let held = (g.B.Base.contents c.args.base.now).node in
    let n : ℕ = g.B.Base.leaves c.args.base.now in
    let past : n ≤ c.loop-leaf.leaf = omega (arith, c.loop-leaf-test.false, c.as_u64-end.ensures, c.leaves.ensures.count) in
    let end : parents_from rule n held (size rule c.loop-leaf.leaf) ≡ [] = parents_end rule n held (size rule c.loop-leaf.leaf) (size_le rule n c.loop-leaf.leaf past) in
    let waiting = c.loop-leaf.waiting.items in
    c.compare.ensures ∙ ap (first_wrong h held) (c.deref.ensures.value ∙ sym (append-nil waiting) ∙ ap (λ xs. waiting ++ xs) (sym end)) ∙ sym c.loop-leaf.invariant.1

pub returns-clause-counted : goal.returns-clause-counted
returns-clause-counted g c =
    let rule = g.F.Family.rule in
    let held = (g.B.Base.contents c.args.base.now).node in
    let n : ℕ = g.B.Base.leaves c.args.base.now in
    let past : n ≤ c.loop-leaf.leaf = omega (arith, c.loop-leaf-test.false, c.as_u64-end.ensures, c.leaves.ensures.count) in
    let end : parents_from rule n held (size rule c.loop-leaf.leaf) ≡ [] = parents_end rule n held (size rule c.loop-leaf.leaf) (size_le rule n c.loop-leaf.leaf past) in
    if_none c.compare.result _ (omega (arith, c.loop-leaf.invariant.2, ap length end))
