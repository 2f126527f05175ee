use Rattle.std.proofs.Common.{◌≡◌, length, take, drop, sym, ap, arith, subst, ◌∙◌}
use Rattle.std.proofs.lemmas.Bool.{false≢true}
use Rattle.std.proofs.lemmas.List.{length-map, length-take, take-map, drop-map}
use Rattle.merkle_base.specs.Table.{digest_for}
use Rattle.merkle_hasher.specs.Subtrees.{subtree_of}
use Rattle.merkle_root_theory.specs.Outside.{fold_all}
use Rattle.merkle_root_theory.proofs.Extraction.{all_take, all_drop}
use Rattle.merkle_root_theory.proofs.LayoutCounts.{length-fold_all}
use Rattle.merkle_range.proofs.PinParts.{EachRebuilt}
use Rattle.merkle_range.proofs.pins.are_peaks_rebuilt.Goals as goal

pub is_fold_rebuilt-requires : goal.is_fold_rebuilt-requires
is_fold_rebuilt-requires g c =
    let n = c.requires.nodes in let k = c.args.folded in
    record { nodes = (take k n.0, c.split_at.ensures.front ∙ ap (take k) n.1 ∙ take-map subtree_of k n.0, all_take _ k n.0 n.2) }

pub returns-then-not-is_fold_rebuilt : goal.returns-then-not-is_fold_rebuilt
returns-then-not-is_fold_rebuilt g c = λ ts e h long.
    let k = c.args.folded in
    let v = c.is_fold_rebuilt.ensures (take k ts) (c.split_at.ensures.front ∙ ap (take k) e ∙ take-map subtree_of k ts) (all_take _ k ts h) (omega (arith, long)) in
    ((λ x. absurd (false≢true x)), (λ w. sym c.if-not-is_fold_rebuilt.true ∙ v.1 w.0))

pub returns-in_default : goal.returns-in_default
returns-in_default g c = λ ts e h long.
    let k = c.args.folded in
    absurd (omega (
      arith,
      long,
      c.in_default.ensures.cases,
      c.min.ensures,
      length-fold_all (take k ts),
      length-take k ts,
      c.requires.folded,
      ap length e,
      length-map ts (subtree_of {F = g.row.F.Denot}),
    ))

pub are_rebuilt-requires : goal.are_rebuilt-requires
are_rebuilt-requires g c =
    let n = c.requires.nodes in let k = c.args.folded in
    record { nodes = (drop k n.0, c.split_at.ensures.back ∙ ap (drop k) n.1 ∙ drop-map subtree_of k n.0, all_drop _ k n.0 n.2) }

pub returns : goal.returns
returns g c = λ ts e h long.
    let k = c.args.folded in let ds = c.args.digests.now in
    let count : c.min.result ≡ length (fold_all (take k ts)) =
    omega (arith, c.min.ensures, length-fold_all (take k ts), length-take k ts, c.requires.folded, ap length e, length-map ts (subtree_of {F = g.row.F.Denot})) in
    let back : c.in-Some.rest.now ≡ drop (length (fold_all (take k ts))) ds = c.in-Some.ensures.cases.2 ∙ ap (λ n. drop n ds) count in
    let v = c.is_fold_rebuilt.ensures (take k ts) (c.split_at.ensures.front ∙ ap (take k) e ∙ take-map subtree_of k ts) (all_take _ k ts h) (omega (arith, long)) in
    let z = c.are_rebuilt.ensures (drop k ts) (c.split_at.ensures.back ∙ ap (drop k) e ∙ drop-map subtree_of k ts) (all_drop _ k ts h) (omega (arith, long, count, c.in-Some.ensures.cases.4)) in
    let Each = EachRebuilt (g.H.Hasher.hashing c.args.hasher.now) (digest_for c.args.pins.now.positions.items c.args.pins.now.digests.now) (drop k ts) in
    ((λ y. (v.0 c.if-not-is_fold_rebuilt.false, subst Each back (z.0 y))), (λ w. z.1 (subst Each (sym back) w.1)))
