use Rattle.std.proofs.Common.{◌≡◌, ◌-◌, min, fold, length, ap, sym, ◌∙◌, Some}
use Rattle.merkle_walks.proofs.Tops.{digest_apart}
use Rattle.merkle_walks.proofs.top.fold_apart.Goals as goal

pub returns-clause-digest : goal.returns-clause-digest
returns-clause-digest g c =
    let h = g.H.Hasher.hashing c.args.hasher.now in
    let others = c.args.others.now in
    let count_is : c.min-count.result ≡ min (c.args.shape.now.apart - 1) (length others) = c.min-count.ensures ∙ ap (λ n. min n (length others)) c.saturating_sub.ensures in
    ap Some c.fold.ensures
    ∙ digest_apart h c.args.shape.now.apart c.args.first others c.min-count.result count_is c.in-Some.next.now c.in-Some.rest.now (sym c.split_at.ensures.back ∙ c.in-Some.ensures.cases.0)
    c.in_ok-left.left c.in_ok-right.right (c.in_ok-left.ensures.digest ∙ ap (fold h.fold c.args.first) c.split_at.ensures.front) c.in_ok-right.ensures.digest
