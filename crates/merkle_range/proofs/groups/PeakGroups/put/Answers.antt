use Rattle.std.proofs.Common.{◌≡◌, ◌++◌, ◌∷◌, [], arith, length, length-append, sym, ap, ◌∙◌, map}
use Rattle.std.proofs.lemmas.List.{length-map}
use Rattle.merkle_base.specs.Places.{wholly_before}
use Rattle.merkle_base.specs.Tree.{position}
use Rattle.merkle_hasher.specs.Subtrees.{subtree_of}
use Rattle.merkle_hasher.proofs.Comparisons.{le_yes, le_no, ge_yes, ge_no}
use Rattle.merkle_root_theory.specs.Range.{wholly_after}
use Rattle.merkle_root_theory.proofs.Grouping.{before_no, over_yes, over_no_before, over_no_after, after_no, outside_before, outside_after, outside_over, push_subtree, push_position}
use Rattle.merkle_range.proofs.groups.PeakGroups.put.Goals as goal

pub returns-in_ok-push : goal.returns-in_ok-push
returns-in_ok-push g c = λ done t w none held.
    let a = c.args.range.now.start in let b = c.args.range.now.end in
    let e = c.leaf_end.ensures t w in
    let l = le_yes c.leaf_end.result a (sym c.le.ensures ∙ c.if-le.true) in
    let later = none (omega (arith, e, l)) in
    let before = wholly_before a (done ++ t ∷ []) in let after = wholly_after b (done ++ t ∷ []) in
    let last : after ≡ [] = after_no a b done t (omega (arith, e, l, c.requires.nonempty)) ∙ later in
    let outside = push_position _ _ c.args.peak t w _ _ _ _ c.in_ok-push.ensures.items held.outside (outside_before a b done t (omega (arith, e, l)) c.requires.nonempty later) in
    record {
      before = omega (arith, c.len-self.ensures, ap length outside, length-map (before ++ after) position, length-append before after, ap length last);
      over = held.over ∙ ap (map subtree_of) (sym (over_no_before a b done t (omega (arith, e, l))));
      outside = outside;
    }

pub returns-in_ok-push-2 : goal.returns-in_ok-push-2
returns-in_ok-push-2 g c = λ done t w none held.
    let a = c.args.range.now.start in let b = c.args.range.now.end in
    let e = c.leaf_end.ensures t w in
    let l = le_no c.leaf_end.result a (sym c.le.ensures ∙ c.if-le.false) in
    let u = ge_yes c.args.peak.first_leaf b (sym c.ge.ensures ∙ c.if-ge.true) in
    record {
      before = held.before ∙ ap length (sym (before_no a b done t (omega (arith, e, l))));
      over = held.over ∙ ap (map subtree_of) (sym (over_no_after a b done t (omega (arith, w.first_is, u))));
      outside = push_position _ _ c.args.peak t w _ _ _ _ c.in_ok-push-2.ensures.items held.outside (outside_after a b done t (omega (arith, e, l)) (omega (arith, w.first_is, u)));
    }

pub returns-in_ok-push-3 : goal.returns-in_ok-push-3
returns-in_ok-push-3 g c = λ done t w none held.
    let a = c.args.range.now.start in let b = c.args.range.now.end in
    let e = c.leaf_end.ensures t w in
    let l = le_no c.leaf_end.result a (sym c.le.ensures ∙ c.if-le.false) in
    let u = ge_no c.args.peak.first_leaf b (sym c.ge.ensures ∙ c.if-ge.false) in
    record {
      before = held.before ∙ ap length (sym (before_no a b done t (omega (arith, e, l))));
      over = push_subtree _ _ c.args.peak t w _ _ _ _ c.in_ok-push-3.ensures.items held.over (over_yes a b done t (omega (arith, w.first_is, u)) (omega (arith, e, l)));
      outside = held.outside ∙ ap (map position) (sym (outside_over a b done t (omega (arith, e, l)) (omega (arith, w.first_is, u))));
    }
