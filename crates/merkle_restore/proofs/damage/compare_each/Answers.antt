use Rattle.std.proofs.Common.{◌≡◌, ◌+◌, ◌∷◌, [], drop, arith, sym, ap, ◌∙◌}
use Rattle.std.proofs.Math.ListN.{drop_of_length-le}
use Rattle.std.proofs.lemmas.List.{drop_more}
use Rattle.merkle_restore.specs.HeldParents.{first_wrong}
use Rattle.merkle_restore.proofs.FirstWrong.{none_then, some_then}
use Rattle.merkle_restore.proofs.damage.compare_each.Goals as goal

pub loop-node-preserved : goal.loop-node-preserved
loop-node-preserved g c =
    let h = g.H.Hasher.hashing c.args.hasher.now in
    let held = (g.B.Base.contents c.args.base.now).node in
    let xs = c.args.nodes.now in
    let i = c.loop-node.node-index in
    let x = c.node-item.result in
    let more : drop i xs ≡ x ∷ drop (i + 1) xs = drop_more xs i x c.loop-node-test.true ∙ ap (λ y. y ∷ drop (i + 1) xs) (sym c.node-item.is) in
    c.loop-node.invariant ∙ ap (first_wrong h held) more
    ∙ none_then h held c.compare_node-found.result (x ∷ []) (drop (i + 1) xs) c.compare_node-found.ensures (sym c.is_some.ensures ∙ c.if-is_some.false)

pub returns-then-is_some : goal.returns-then-is_some
returns-then-is_some g c =
    let h = g.H.Hasher.hashing c.args.hasher.now in
    let held = (g.B.Base.contents c.args.base.now).node in
    let xs = c.args.nodes.now in
    let i = c.loop-node.node-index in
    let x = c.node-item.result in
    let more : drop i xs ≡ x ∷ drop (i + 1) xs = drop_more xs i x c.loop-node-test.true ∙ ap (λ y. y ∷ drop (i + 1) xs) (sym c.node-item.is) in
    sym (c.loop-node.invariant ∙ ap (first_wrong h held) more
    ∙ some_then h held c.compare_node-found.result (x ∷ []) (drop (i + 1) xs) c.compare_node-found.ensures (sym c.is_some.ensures ∙ c.if-is_some.true))

pub returns : goal.returns
returns g c =
    let h = g.H.Hasher.hashing c.args.hasher.now in
    let held = (g.B.Base.contents c.args.base.now).node in
    let xs = c.args.nodes.now in
    sym (c.loop-node.invariant ∙ ap (first_wrong h held) (drop_of_length-le xs (omega (arith, c.loop-node-test.false))))
