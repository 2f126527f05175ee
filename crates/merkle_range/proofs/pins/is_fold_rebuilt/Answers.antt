use Rattle.std.proofs.Common.{◌≡◌, length, refl, sym, ap, arith, ◌∙◌}
use Rattle.std.proofs.lemmas.List.{nil_from_length}
use Rattle.merkle_base.specs.Table.{digest_for}
use Rattle.merkle_root_theory.specs.Outside.{fold_all}
use Rattle.merkle_range.proofs.PinWalks.{no_nodes, first_node, fold_decided, fold_none}
use Rattle.merkle_range.proofs.pins.is_fold_rebuilt.Goals as goal

pub returns-in_default : goal.returns-in_default
returns-in_default g c = λ ts e h long.
    fold_none (g.H.Hasher.hashing c.args.hasher.now) (digest_for c.args.pins.now.positions.items c.args.pins.now.digests.now) ts c.args.digests.now _ refl
    (no_nodes c.args.peaks.now ts e (nil_from_length _ c.in_default.ensures.cases))

pub returns-in_default-split_first : goal.returns-in_default-split_first
returns-in_default-split_first g c = λ ts e h long.
    let w = first_node g.F.Family.rule g.F.Family.MAX_LEAVES c.args.peaks.now c.in-Some.others.now c.in-Some.oldest.now ts e h c.in-Some.ensures.cases.0 in
    let one : length (fold_all ts) ≡ 1 = ap (λ z. length (fold_all z)) w.2 in
    absurd (omega (arith, one, long, c.in_default-split_first.ensures.cases))

pub rebuilt_fold-requires : goal.rebuilt_fold-requires
rebuilt_fold-requires g c =
    let n = c.requires.nodes in
    let w = first_node g.F.Family.rule g.F.Family.MAX_LEAVES c.args.peaks.now c.in-Some.others.now c.in-Some.oldest.now n.0 n.1 n.2 c.in-Some.ensures.cases.0 in
    record { first = (w.0, w.3); nodes = (w.1, w.4, w.5) }

pub returns : goal.returns
returns g c = λ ts e h long.
    let w = first_node g.F.Family.rule g.F.Family.MAX_LEAVES c.args.peaks.now c.in-Some.others.now c.in-Some.oldest.now ts e h c.in-Some.ensures.cases.0 in
    let equal = g.met.H.Digest.Digest.eq_decides c.rebuilt_fold.result c.in-Some-split_first.digest.now in
    fold_decided (g.H.Hasher.hashing c.args.hasher.now) (digest_for c.args.pins.now.positions.items c.args.pins.now.digests.now) w.0 w.1 ts
    c.args.digests.now _ c.in-Some-split_first.digest.now c.rebuilt_fold.result _
    w.2 c.in-Some-split_first.ensures.cases.0 (c.rebuilt_fold.ensures w.0 w.1 w.3 w.4 w.5) ((λ t. equal.0 (sym c.eq.ensures ∙ t)), (λ a. c.eq.ensures ∙ equal.1 a))
