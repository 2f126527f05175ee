use Rattle.std.proofs.Common.{rules, ◌≡◌, ◌+◌, ◌-◌, ◌<◌, ◌≤◌, length, arith, ap, ◌∙◌}
use Rattle.std.specs.FinMap.{get}
use Rattle.merkle_draft.proofs.SettledWrites.{stored_appended, stored_overwritten, past_overwritten}
use Rattle.merkle_draft.proofs.draft.Draft.set_node.Goals as goal

pub returns-in_ok-insert-clause-old : goal.returns-in_ok-insert-clause-old
returns-in_ok-insert-clause-old g c = λ p past.
    let less : c.args.position < c.args.self.now.before = omega (arith, ap (λ (r : _). r.before) c.self.view_is, (let s : c.args.position < c.self.inside.size_before = search rules in s)) in
    ap (λ w. get w p) c.in_ok-insert.ensures.inserted
    ∙ past_overwritten c.args.self.now.before c.args.position c.self.inside.overwrites c.args.digest less p past ∙ ap (λ (r : _). get r.overwritten p) c.self.view_is

pub returns-in_ok-insert-clause-set : goal.returns-in_ok-insert-clause-set
returns-in_ok-insert-clause-set g c = λ p.
    let less : c.args.position < c.self.inside.size_before = search rules in
    rw (c.in_ok-insert.ensures.inserted, ← c.self.view_is) (stored_overwritten c.self.inside.size_before c.args.position c.self.inside.overwrites c.self.inside.appended.items c.args.digest less p)

pub returns-else-lt-clause-set : goal.returns-else-lt-clause-set
returns-else-lt-clause-set g c = λ p.
    let past : c.self.inside.size_before ≤ c.args.position = search rules in
    let at : c.as_u64-index.result ≡ c.args.position - c.self.inside.size_before = search rules in
    let end : c.args.position < c.self.inside.size_before + length c.self.inside.appended.items =
    omega (arith, c.requires, ap (λ (r : _). r.before) c.self.view_is, ap (λ (r : _). length r.appended) c.self.view_is) in
    rw (← c.self.view_is) (stored_appended c.self.inside.size_before c.args.position c.self.inside.overwrites c.self.inside.appended.items c.args.digest past end c.as_u64-index.result at p)
