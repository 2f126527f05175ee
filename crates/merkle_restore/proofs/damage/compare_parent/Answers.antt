use Rattle.std.proofs.Common.{suc, ◌+◌, ◌++◌, length, arith, sym, ap, subst}
use Rattle.merkle_restore.specs.HeldParents.{first_wrong, parents_from, Finds}
use Rattle.merkle_restore.proofs.ParentSteps.{none_read, some_read}
use Rattle.merkle_restore.proofs.damage.compare_parent.Goals as goal

pub returns-in_default-clause-found : goal.returns-in_default-clause-found
returns-in_default-clause-found g c = λ n within.
    let h = g.H.Hasher.hashing c.args.hasher.now in
    let held = (g.B.Base.contents c.args.base.now).node in
    let same = none_read g.F.Family.rule g.F.Family.MAX_LEAVES held c.args.position c.args.height c.requires.inner c.held_parent.result c.held_parent.ensures n within c.in_default.is in
    ap (λ xs. first_wrong h held (c.args.waiting.now.items ++ xs)) same

pub returns-in_default-clause-counted : goal.returns-in_default-clause-counted
returns-in_default-clause-counted g c = λ n within.
    let held = (g.B.Base.contents c.args.base.now).node in
    let same = none_read g.F.Family.rule g.F.Family.MAX_LEAVES held c.args.position c.args.height c.requires.inner c.held_parent.result c.held_parent.ensures n within c.in_default.is in
    ap (λ xs. c.args.count.now + length xs) (sym same)

pub returns-clause-found : goal.returns-clause-found
returns-clause-found g c = λ n within.
    let h = g.H.Hasher.hashing c.args.hasher.now in
    let held = (g.B.Base.contents c.args.base.now).node in
    let later = parents_from g.F.Family.rule n held (suc c.args.position) in
    let more = some_read g.F.Family.rule g.F.Family.MAX_LEAVES held c.args.position c.args.height c.requires.inner c.held_parent.result c.held_parent.ensures n within c.in-Some.node c.in-Some.is in
    subst (λ xs. Finds h held c.queue_node.result (c.args.waiting.now.items ++ xs) (c.queue_node.new.waiting.items ++ later)) (sym more) (c.queue_node.ensures later)

pub returns-clause-counted : goal.returns-clause-counted
returns-clause-counted g c = λ n within.
    let held = (g.B.Base.contents c.args.base.now).node in
    let more = some_read g.F.Family.rule g.F.Family.MAX_LEAVES held c.args.position c.args.height c.requires.inner c.held_parent.result c.held_parent.ensures n within c.in-Some.node c.in-Some.is in
    omega (arith, ap length more)
