use Rattle.std.proofs.Common.{rules, ◌≡◌, ◌∷◌, [], ◌++◌, sym, ap, ◌∙◌}
use Rattle.merkle_restore.specs.HeldParents.{first_wrong}
use Rattle.merkle_restore.proofs.FirstWrong.{refused_found, refused, full}
use Rattle.merkle_restore.proofs.damage.queue_node.Goals as goal

pub returns-then-is_some : goal.returns-then-is_some
returns-then-is_some g c = λ later.
    let h = g.H.Hasher.hashing c.args.hasher.now in
    let held = (g.B.Base.contents c.args.base.now).node in
    let before = c.args.waiting.now.items in
    let same : c.deref.result.now ≡ before = search rules in
    refused_found h held c.compare-found.result before later c.clear.new.self.items c.args.node (c.compare-found.ensures ∙ ap (first_wrong h held) same) (sym c.is_some.ensures ∙ c.if-is_some.true)

pub returns-then-is_err : goal.returns-then-is_err
returns-then-is_err g c = λ later.
    let h = g.H.Hasher.hashing c.args.hasher.now in
    let held = (g.B.Base.contents c.args.base.now).node in
    let before = c.args.waiting.now.items in
    let same : c.deref.result.now ≡ before = search rules in
    refused h held c.compare-found.result c.compare_node.result before later c.clear.new.self.items c.args.node
    (c.compare-found.ensures ∙ ap (first_wrong h held) same) (sym c.is_some.ensures ∙ c.if-is_some.false)
    c.compare_node.ensures c.clear.ensures.items

pub returns : goal.returns
returns g c = λ later.
    let h = g.H.Hasher.hashing c.args.hasher.now in
    let held = (g.B.Base.contents c.args.base.now).node in
    let before = c.args.waiting.now.items in
    let all : c.deref-2.result.now ≡ before ++ c.args.node ∷ [] = search rules in
    full h held c.compare-found-2.result before later c.deref-2.result.now c.clear-2.new.self.items c.args.node all c.compare-found-2.ensures c.clear-2.ensures.items
