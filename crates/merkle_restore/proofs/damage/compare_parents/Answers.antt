use Rattle.std.proofs.Common.{◌≡◌, ℕ, suc, ◌+◌, ◌<◌, [], ◌∷◌, ◌++◌, length, length-append, append_assoc, arith, sym, ap, ◌∙◌, subst}
use Rattle.merkle_base.specs.Forest.{size}
use Rattle.merkle_base.specs.Places.{HasInner}
use Rattle.merkle_base.proofs.Nodes.{size_le}
use Rattle.merkle_base.proofs.Parents.{parent_there, parents_fit}
use Rattle.merkle_restore.specs.HeldParents.{first_wrong, parents_from}
use Rattle.merkle_restore.proofs.FirstWrong.{finds_any, finds_on}
use Rattle.merkle_restore.proofs.ParentLists.{parents_leaf}
use Rattle.merkle_restore.proofs.damage.compare_parents.Goals as goal

pub loop-height-init : goal.loop-height-init
loop-height-init g c =
    let rule = g.F.Family.rule in
    let h = g.H.Hasher.hashing c.args.hasher.now in
    let held = (g.B.Base.contents c.args.base.now).node in
    let at : c.location_to_position-position.result ≡ size rule c.args.leaf = c.location_to_position-position.ensures in
    let from = λ (n : ℕ) (l : c.args.leaf < n). parents_leaf rule n held c.args.leaf l ∙ ap (λ q. parents_from rule n held (suc q)) (sym at) in (
      g.met.F.ParentHeights.Listed.may_go c.into_iter-height-iterator.result,
      g.met.F.ParentHeights.Listed.ends c.into_iter-height-iterator.result,
      ([], ap g.F.ParentHeights.Listed.left c.into_iter-height-iterator.ensures.into_iter_gives ∙ c.parent_heights-height-items.ensures, omega (arith, at)),
      omega (arith, at, c.requires.fits),
      λ n l. (ap (λ xs. first_wrong h held (c.args.waiting.now.items ++ xs)) (from n l), ap (λ xs. c.args.count.now + length xs) (sym (from n l))),
    )

pub add_assign-requires : goal.add_assign-requires
add_assign-requires g c =
    let rule = g.F.Family.rule in
    let law = g.met.F.Family.lawful in
    let leaf : ℕ = c.args.leaf in
    let k = c.loop-height.invariant.2 in
    let y = g.met.F.ParentHeights.Listed.gives_first _ _ _ c.in-Some.ensures.steps in
    let left = g.F.ParentHeights.Listed.left c.next.new.self in
    let heights = ap (λ xs. k.0 ++ xs) (sym y) ∙ k.1 in
    let fit = parents_fit rule g.F.Family.MAX_LEAVES law.equal leaf c.requires.below k.0 (c.in-Some.height ∷ left) heights in
    omega (arith, fit, k.2, size_le rule (suc leaf) g.F.Family.MAX_LEAVES (omega (arith, c.requires.below)), law.size_at_limit, law.limit_fits)

pub compare_parent-found-requires-clause-inner : goal.compare_parent-found-requires-clause-inner
compare_parent-found-requires-clause-inner g c =
    let rule = g.F.Family.rule in
    let law = g.met.F.Family.lawful in
    let leaf : ℕ = c.args.leaf in
    let k = c.loop-height.invariant.2 in
    let y = g.met.F.ParentHeights.Listed.gives_first _ _ _ c.in-Some.ensures.steps in
    let left = g.F.ParentHeights.Listed.left c.next.new.self in
    let heights = ap (λ xs. k.0 ++ xs) (sym y) ∙ k.1 in
    let place : size rule leaf + 1 + length k.0 ≡ c.add_assign.new.self = omega (arith, c.add_assign.ensures.after, k.2) in
    subst (λ (p : ℕ). HasInner rule g.F.Family.MAX_LEAVES p c.in-Some.height) place (parent_there rule g.F.Family.MAX_LEAVES law.equal leaf c.requires.below k.0 c.in-Some.height left heights)

pub returns-then-is_some-clause-found : goal.returns-then-is_some-clause-found
returns-then-is_some-clause-found g c =
    let rule = g.F.Family.rule in
    let law = g.met.F.Family.lawful in
    let leaf : ℕ = c.args.leaf in
    let k = c.loop-height.invariant.2 in
    let y = g.met.F.ParentHeights.Listed.gives_first _ _ _ c.in-Some.ensures.steps in
    let left = g.F.ParentHeights.Listed.left c.next.new.self in
    let heights = ap (λ xs. k.0 ++ xs) (sym y) ∙ k.1 in
    let fit = parents_fit rule g.F.Family.MAX_LEAVES law.equal leaf c.requires.below k.0 (c.in-Some.height ∷ left) heights in
    let h = g.H.Hasher.hashing c.args.hasher.now in
    let held = (g.B.Base.contents c.args.base.now).node in
    let step : suc c.loop-height.position ≡ c.add_assign.new.self = omega (arith, c.add_assign.ensures.after) in
    let within = λ (n : ℕ) (l : leaf < n). (let w : c.add_assign.new.self < size rule n = omega (arith, fit, step, k.2, size_le rule (suc leaf) n (omega (arith, l))) in w) in
    let found = c.compare_parent-found in
    λ n l.
    finds_any h held found.result (c.args.waiting.now.items ++ parents_from rule n held (size rule leaf))
    (c.loop-height.waiting.items ++ parents_from rule n held c.add_assign.new.self) (found.new.waiting.items ++ parents_from rule n held (suc c.add_assign.new.self))
    (found.new.waiting.items ++ parents_from rule n held (size rule (suc leaf))) (sym c.is_some.ensures ∙ c.if-is_some.true)
    ((c.loop-height.invariant.4 n l).0 ∙ ap (λ p. first_wrong h held (c.loop-height.waiting.items ++ parents_from rule n held p)) step) (found.ensures.found n (within n l))

pub returns-then-is_some-clause-fits : goal.returns-then-is_some-clause-fits
returns-then-is_some-clause-fits g c =
    let rule = g.F.Family.rule in
    let law = g.met.F.Family.lawful in
    let leaf : ℕ = c.args.leaf in
    let k = c.loop-height.invariant.2 in
    let y = g.met.F.ParentHeights.Listed.gives_first _ _ _ c.in-Some.ensures.steps in
    let left = g.F.ParentHeights.Listed.left c.next.new.self in
    let heights = ap (λ xs. k.0 ++ xs) (sym y) ∙ k.1 in
    let fit = parents_fit rule g.F.Family.MAX_LEAVES law.equal leaf c.requires.below k.0 (c.in-Some.height ∷ left) heights in
    omega (arith, fit, k.2, c.add_assign.ensures.after, c.compare_parent-found.ensures.fits)

pub returns-then-is_some-clause-at_most : goal.returns-then-is_some-clause-at_most
returns-then-is_some-clause-at_most g c =
    let rule = g.F.Family.rule in
    let law = g.met.F.Family.lawful in
    let leaf : ℕ = c.args.leaf in
    let k = c.loop-height.invariant.2 in
    let y = g.met.F.ParentHeights.Listed.gives_first _ _ _ c.in-Some.ensures.steps in
    let left = g.F.ParentHeights.Listed.left c.next.new.self in
    let heights = ap (λ xs. k.0 ++ xs) (sym y) ∙ k.1 in
    let fit = parents_fit rule g.F.Family.MAX_LEAVES law.equal leaf c.requires.below k.0 (c.in-Some.height ∷ left) heights in
    let held = (g.B.Base.contents c.args.base.now).node in
    let step : suc c.loop-height.position ≡ c.add_assign.new.self = omega (arith, c.add_assign.ensures.after) in
    let within = λ (n : ℕ) (l : leaf < n). (let w : c.add_assign.new.self < size rule n = omega (arith, fit, step, k.2, size_le rule (suc leaf) n (omega (arith, l))) in w) in
    let found = c.compare_parent-found in
    λ n l. omega (arith, found.ensures.counted n (within n l), (c.loop-height.invariant.4 n l).1, ap (λ p. length (parents_from rule n held p)) step)

pub loop-height-preserved : goal.loop-height-preserved
loop-height-preserved g c =
    let rule = g.F.Family.rule in
    let law = g.met.F.Family.lawful in
    let leaf : ℕ = c.args.leaf in
    let k = c.loop-height.invariant.2 in
    let y = g.met.F.ParentHeights.Listed.gives_first _ _ _ c.in-Some.ensures.steps in
    let left = g.F.ParentHeights.Listed.left c.next.new.self in
    let heights = ap (λ xs. k.0 ++ xs) (sym y) ∙ k.1 in
    let fit = parents_fit rule g.F.Family.MAX_LEAVES law.equal leaf c.requires.below k.0 (c.in-Some.height ∷ left) heights in
    let h = g.H.Hasher.hashing c.args.hasher.now in
    let held = (g.B.Base.contents c.args.base.now).node in
    let step : suc c.loop-height.position ≡ c.add_assign.new.self = omega (arith, c.add_assign.ensures.after) in
    let within = λ (n : ℕ) (l : leaf < n). (let w : c.add_assign.new.self < size rule n = omega (arith, fit, step, k.2, size_le rule (suc leaf) n (omega (arith, l))) in w) in
    let found = c.compare_parent-found in (
      g.met.F.ParentHeights.Listed.may_go c.next.new.self,
      g.met.F.ParentHeights.Listed.ends c.next.new.self,
      (k.0 ++ c.in-Some.height ∷ [], append_assoc k.0 (c.in-Some.height ∷ []) left ∙ heights, omega (arith, k.2, step, length-append k.0 (c.in-Some.height ∷ []))),
      found.ensures.fits,
      λ n l. (
        finds_on h held found.result (c.args.waiting.now.items ++ parents_from rule n held (size rule leaf))
            (c.loop-height.waiting.items ++ parents_from rule n held c.add_assign.new.self)
            (found.new.waiting.items ++ parents_from rule n held (suc c.add_assign.new.self))
            (sym c.is_some.ensures ∙ c.if-is_some.false)
            ((c.loop-height.invariant.4 n l).0 ∙ ap (λ p. first_wrong h held (c.loop-height.waiting.items ++ parents_from rule n held p)) step)
            (found.ensures.found n (within n l)),
        omega (arith, found.ensures.counted n (within n l), (c.loop-height.invariant.4 n l).1, ap (λ p. length (parents_from rule n held p)) step),
      ),
    )

pub returns-clause-found : goal.returns-clause-found
returns-clause-found g c =
    let rule = g.F.Family.rule in
    let h = g.H.Hasher.hashing c.args.hasher.now in
    let held = (g.B.Base.contents c.args.base.now).node in
    let leaf : ℕ = c.args.leaf in
    let k = c.loop-height.invariant.2 in
    let y = g.met.F.ParentHeights.Listed.gives_first _ _ _ c.in-None.ensures.steps in
    let fit = parents_fit rule g.F.Family.MAX_LEAVES g.met.F.Family.lawful.equal leaf c.requires.below k.0 [] (ap (λ xs. k.0 ++ xs) (sym y.0) ∙ k.1) in
    let step : suc c.loop-height.position ≡ size rule (suc leaf) = omega (arith, fit, k.2) in
    λ n l. (c.loop-height.invariant.4 n l).0 ∙ ap (λ p. first_wrong h held (c.loop-height.waiting.items ++ parents_from rule n held p)) step

pub returns-clause-fits : goal.returns-clause-fits
returns-clause-fits g c =
    let rule = g.F.Family.rule in
    let leaf : ℕ = c.args.leaf in
    let k = c.loop-height.invariant.2 in
    let y = g.met.F.ParentHeights.Listed.gives_first _ _ _ c.in-None.ensures.steps in
    let fit = parents_fit rule g.F.Family.MAX_LEAVES g.met.F.Family.lawful.equal leaf c.requires.below k.0 [] (ap (λ xs. k.0 ++ xs) (sym y.0) ∙ k.1) in
    let step : suc c.loop-height.position ≡ size rule (suc leaf) = omega (arith, fit, k.2) in
    omega (arith, step, c.loop-height.invariant.3)

pub returns-clause-counted : goal.returns-clause-counted
returns-clause-counted g c =
    let rule = g.F.Family.rule in
    let held = (g.B.Base.contents c.args.base.now).node in
    let leaf : ℕ = c.args.leaf in
    let k = c.loop-height.invariant.2 in
    let y = g.met.F.ParentHeights.Listed.gives_first _ _ _ c.in-None.ensures.steps in
    let fit = parents_fit rule g.F.Family.MAX_LEAVES g.met.F.Family.lawful.equal leaf c.requires.below k.0 [] (ap (λ xs. k.0 ++ xs) (sym y.0) ∙ k.1) in
    let step : suc c.loop-height.position ≡ size rule (suc leaf) = omega (arith, fit, k.2) in
    λ n l. omega (arith, (c.loop-height.invariant.4 n l).1, ap (λ p. length (parents_from rule n held p)) step)
