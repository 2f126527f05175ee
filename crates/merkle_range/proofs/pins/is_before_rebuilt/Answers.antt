use Rattle.std.proofs.Common.{◌≡◌, ◌+◌, ◌↔◌, IsTrue, length, take, drop, drop-drop, sym, ap, arith, subst, ◌∙◌}
use Rattle.std.proofs.lemmas.Bool.{false≢true}
use Rattle.std.proofs.lemmas.List.{length-map, nil_from_length}
use Rattle.merkle_base.proofs.PeakLists.{peaks_spans}
use Rattle.merkle_base.specs.Places.{peaks_of, wholly_before}
use Rattle.merkle_claim_theory.specs.Rebuilt.{AllRebuilt, rebuilt_node}
use Rattle.merkle_base.specs.Table.{digest_for}
use Rattle.merkle_hasher.specs.Subtrees.{subtree_of}
use Rattle.merkle_hasher.proofs.PeakNodes.{peaks_at}
use Rattle.merkle_root_theory.specs.Layouts.{count_before, count_after}
use Rattle.merkle_root_theory.specs.Outside.{folded_prefix}
use Rattle.merkle_root_theory.specs.Plan.{tree_meets, siblings}
use Rattle.merkle_root_theory.specs.Check.{in_range}
use Rattle.merkle_root_theory.specs.Range.{overlapping, wholly_after, range_parts}
use Rattle.merkle_root_theory.proofs.Extraction.{all_filter}
use Rattle.merkle_root_theory.proofs.LayoutCounts.{length-layout}
use Rattle.merkle_root_theory.proofs.PeakGroups.{length-peaks_of, some_over}
use Rattle.merkle_range.proofs.RangeRoot.{few_peaks}
use Rattle.merkle_range.proofs.PinParts.{peaks_before, prefix_within, digests_taken, parts_rebuilt, nodes_rebuilt, siblings_within, crosses}
use Rattle.merkle_range.proofs.PinWalks.{first_node, no_nodes}
use Rattle.merkle_range.proofs.pins.is_before_rebuilt.Goals as goal

pub layout-layout-requires : goal.layout-layout-requires
layout-layout-requires g c =
    let k = c.args.parts.now.inactive in let n = c.args.parts.now.leaves in
    let a = c.args.range.now.start in let e = c.args.range.now.end in
    let ts = peaks_of g.F.Family.rule n in let early = wholly_before a ts in
    let held = c.in_ok-groups.ensures in
    record {
      groups = (a, e, n, c.requires.nonempty, c.requires.within_max_leaves, held);
      inactive = omega (arith, c.requires.inactive, few_peaks g.F.Family.rule g.F.Family.MAX_LEAVES g.F.Family.MAX_NODES n g.met.F.Family.lawful c.requires.within_max_leaves);
    }

pub split_at-requires : goal.split_at-requires
split_at-requires g c =
    let k = c.args.parts.now.inactive in let n = c.args.parts.now.leaves in
    let a = c.args.range.now.start in let e = c.args.range.now.end in
    let ts = peaks_of g.F.Family.rule n in let early = wholly_before a ts in
    let held = c.in_ok-groups.ensures in
    omega (arith, held.before, length-peaks_of g.F.Family.rule n a e c.requires.nonempty, ap length (c.deref.ensures.value ∙ c.in_ok-peaks.ensures), length-map ts (subtree_of {F = g.row.F.Denot}))

pub are_peaks_rebuilt-requires : goal.are_peaks_rebuilt-requires
are_peaks_rebuilt-requires g c =
    let k = c.args.parts.now.inactive in let n = c.args.parts.now.leaves in
    let a = c.args.range.now.start in let e = c.args.range.now.end in
    let ts = peaks_of g.F.Family.rule n in let early = wholly_before a ts in
    let held = c.in_ok-groups.ensures in
    let h = g.H.Hasher.hashing c.args.hasher.now in
    let b = digest_for c.args.pins.now.positions.items c.args.pins.now.digests.now in
    let bagging = g.H.Hasher.bagging_of c.args.hasher.now in
    let laid = c.layout-layout.result in
    let p_is = subst (λ z. laid.prefix ≡ length (folded_prefix z k early)) c.root_bagging.ensures (c.layout-layout.ensures.prefix a e ts held) in
    let front = c.split_at.ensures.front ∙ ap (take c.in_ok-groups.groups.before) c.deref.ensures.value
    ∙ peaks_before g.F.Family.rule n a e c.in_ok-groups.groups.before c.in_ok-peaks.peaks.items c.requires.nonempty c.in_ok-peaks.ensures held.before in
    record {
      nodes = (early, front, all_filter _ _ _ (peaks_at g.F.Family.rule g.F.Family.MAX_LEAVES n c.requires.within_max_leaves));
      folded = omega (arith, prefix_within h b g.F.Family.rule bagging k n a e laid.prefix c.requires.nonempty p_is, c.split_at.ensures.front_len, held.before);
    }

pub returns-then-not-are_peaks_rebuilt : goal.returns-then-not-are_peaks_rebuilt
returns-then-not-are_peaks_rebuilt g c =
    let k = c.args.parts.now.inactive in let n = c.args.parts.now.leaves in
    let a = c.args.range.now.start in let e = c.args.range.now.end in
    let ts = peaks_of g.F.Family.rule n in let early = wholly_before a ts in
    let held = c.in_ok-groups.ensures in
    let h = g.H.Hasher.hashing c.args.hasher.now in
    let b = digest_for c.args.pins.now.positions.items c.args.pins.now.digests.now in
    let bagging = g.H.Hasher.bagging_of c.args.hasher.now in
    let laid = c.layout-layout.result in
    let p_is = subst (λ z. laid.prefix ≡ length (folded_prefix z k early)) c.root_bagging.ensures (c.layout-layout.ensures.prefix a e ts held) in
    let long = length-layout bagging k early (overlapping a e ts) (wholly_after e ts) in
    let front = c.split_at.ensures.front ∙ ap (take c.in_ok-groups.groups.before) c.deref.ensures.value
    ∙ peaks_before g.F.Family.rule n a e c.in_ok-groups.groups.before c.in_ok-peaks.peaks.items c.requires.nonempty c.in_ok-peaks.ensures held.before in
    let first = c.are_peaks_rebuilt.ensures early front (all_filter _ _ _ (peaks_at g.F.Family.rule g.F.Family.MAX_LEAVES n c.requires.within_max_leaves))
    (omega (arith, digests_taken h b g.F.Family.rule bagging k n a e laid.prefix c.requires.nonempty p_is, long, c.requires.count)) in
    let parts = parts_rebuilt h b g.F.Family.rule bagging k n a e laid.prefix c.requires.nonempty p_is c.args.parts.now.digests.now in
    ((λ x. absurd (false≢true x)), (λ v. sym c.if-not-are_peaks_rebuilt.true ∙ first.1 (parts.1 v.parts)))

pub split_at-requires-2 : goal.split_at-requires-2
split_at-requires-2 g c =
    let k = c.args.parts.now.inactive in let n = c.args.parts.now.leaves in
    let a = c.args.range.now.start in let e = c.args.range.now.end in
    let ts = peaks_of g.F.Family.rule n in let early = wholly_before a ts in
    let held = c.in_ok-groups.ensures in
    let bagging = g.H.Hasher.bagging_of c.args.hasher.now in
    let laid = c.layout-layout.result in
    let m_is = subst (λ z. laid.before ≡ count_before z k early) c.root_bagging.ensures (c.layout-layout.ensures.before a e ts held) in
    let long = length-layout bagging k early (overlapping a e ts) (wholly_after e ts) in
    omega (arith, m_is, long, c.requires.count)

pub split_at-requires-3 : goal.split_at-requires-3
split_at-requires-3 g c =
    let k = c.args.parts.now.inactive in let n = c.args.parts.now.leaves in
    let a = c.args.range.now.start in let e = c.args.range.now.end in
    let ts = peaks_of g.F.Family.rule n in let early = wholly_before a ts in
    let held = c.in_ok-groups.ensures in
    let bagging = g.H.Hasher.bagging_of c.args.hasher.now in
    let laid = c.layout-layout.result in
    let m_is = subst (λ z. laid.before ≡ count_before z k early) c.root_bagging.ensures (c.layout-layout.ensures.before a e ts held) in
    let n_is = subst (λ z. laid.after ≡ count_after z k (length early + length (overlapping a e ts)) (wholly_after e ts)) c.root_bagging.ensures (c.layout-layout.ensures.after a e ts held) in
    let long = length-layout bagging k early (overlapping a e ts) (wholly_after e ts) in
    omega (arith, m_is, n_is, long, c.requires.count, c.split_at-2.ensures.back_len)

pub unreachable-requires : goal.unreachable-requires
unreachable-requires g c =
    let k = c.args.parts.now.inactive in let n = c.args.parts.now.leaves in
    let a = c.args.range.now.start in let e = c.args.range.now.end in
    let ts = peaks_of g.F.Family.rule n in let early = wholly_before a ts in
    let held = c.in_ok-groups.ensures in
    some_over a e 0 n ts c.requires.nonempty (peaks_spans g.F.Family.rule n) (omega arith) (omega (arith, c.requires.nonempty, c.requires.within))
    (no_nodes c.deref-2.result.now (overlapping a e ts) (c.deref-2.ensures.value ∙ held.over) (nil_from_length _ c.in_default.ensures.cases))

pub are_siblings_rebuilt-requires : goal.are_siblings_rebuilt-requires
are_siblings_rebuilt-requires g c =
    let k = c.args.parts.now.inactive in let n = c.args.parts.now.leaves in
    let a = c.args.range.now.start in let e = c.args.range.now.end in
    let ts = peaks_of g.F.Family.rule n in let early = wholly_before a ts in
    let held = c.in_ok-groups.ensures in
    let h = g.H.Hasher.hashing c.args.hasher.now in
    let b = digest_for c.args.pins.now.positions.items c.args.pins.now.digests.now in
    let bagging = g.H.Hasher.bagging_of c.args.hasher.now in
    let laid = c.layout-layout.result in
    let p_is = subst (λ z. laid.prefix ≡ length (folded_prefix z k early)) c.root_bagging.ensures (c.layout-layout.ensures.prefix a e ts held) in
    let w = first_node g.F.Family.rule g.F.Family.MAX_LEAVES c.deref-2.result.now c.in-Some.field-0-1.now c.in-Some.crossed.now (overlapping a e ts) (c.deref-2.ensures.value ∙ held.over)
    (all_filter _ _ _ (peaks_at g.F.Family.rule g.F.Family.MAX_LEAVES n c.requires.within_max_leaves)) c.in-Some.ensures.cases.0 in
    record { node = (w.0, w.3, crosses h b g.F.Family.rule bagging k n a e laid.prefix c.requires.nonempty p_is w.0 w.1 w.2) }

pub returns : goal.returns
returns g c =
    let k = c.args.parts.now.inactive in let n = c.args.parts.now.leaves in
    let a = c.args.range.now.start in let e = c.args.range.now.end in
    let ts = peaks_of g.F.Family.rule n in let early = wholly_before a ts in
    let held = c.in_ok-groups.ensures in
    let h = g.H.Hasher.hashing c.args.hasher.now in
    let b = digest_for c.args.pins.now.positions.items c.args.pins.now.digests.now in
    let bagging = g.H.Hasher.bagging_of c.args.hasher.now in
    let laid = c.layout-layout.result in
    let p_is = subst (λ z. laid.prefix ≡ length (folded_prefix z k early)) c.root_bagging.ensures (c.layout-layout.ensures.prefix a e ts held) in
    let m_is = subst (λ z. laid.before ≡ count_before z k early) c.root_bagging.ensures (c.layout-layout.ensures.before a e ts held) in
    let n_is = subst (λ z. laid.after ≡ count_after z k (length early + length (overlapping a e ts)) (wholly_after e ts)) c.root_bagging.ensures (c.layout-layout.ensures.after a e ts held) in
    let long = length-layout bagging k early (overlapping a e ts) (wholly_after e ts) in
    let front = c.split_at.ensures.front ∙ ap (take c.in_ok-groups.groups.before) c.deref.ensures.value
    ∙ peaks_before g.F.Family.rule n a e c.in_ok-groups.groups.before c.in_ok-peaks.peaks.items c.requires.nonempty c.in_ok-peaks.ensures held.before in
    let first = c.are_peaks_rebuilt.ensures early front (all_filter _ _ _ (peaks_at g.F.Family.rule g.F.Family.MAX_LEAVES n c.requires.within_max_leaves))
    (omega (arith, digests_taken h b g.F.Family.rule bagging k n a e laid.prefix c.requires.nonempty p_is, long, c.requires.count)) in
    let parts = parts_rebuilt h b g.F.Family.rule bagging k n a e laid.prefix c.requires.nonempty p_is c.args.parts.now.digests.now in
    let w = first_node g.F.Family.rule g.F.Family.MAX_LEAVES c.deref-2.result.now c.in-Some.field-0-1.now c.in-Some.crossed.now (overlapping a e ts) (c.deref-2.ensures.value ∙ held.over)
    (all_filter _ _ _ (peaks_at g.F.Family.rule g.F.Family.MAX_LEAVES n c.requires.within_max_leaves)) c.in-Some.ensures.cases.0 in
    let ds = c.args.parts.now.digests.now in
    let back : c.split_at-3.result.1.now ≡ drop (length (range_parts bagging k a e ts)) ds = c.split_at-3.ensures.back
    ∙ ap (drop laid.after) c.split_at-2.ensures.back ∙ drop-drop laid.after laid.before ds ∙ ap (λ j. drop j ds) (omega (arith, m_is, n_is, long)) in
    let most = siblings_within h b g.F.Family.rule bagging k n a e laid.prefix c.requires.nonempty p_is w.0 w.1 w.2 in
    let last = subst (λ zs. IsTrue c.are_siblings_rebuilt.result ↔ AllRebuilt h (tree_meets (in_range 0 a)) (rebuilt_node h b) (siblings (in_range a e) w.0) zs) back
    (c.are_siblings_rebuilt.ensures w.0 e w.3 c.requires.nonempty (omega (arith, most, m_is, n_is, long, c.requires.count, c.split_at-2.ensures.back_len, c.split_at-3.ensures.back_len))) in
    let nodes = nodes_rebuilt h b g.F.Family.rule bagging k n a e laid.prefix c.requires.nonempty p_is w.0 w.1 w.2 (drop (length (range_parts bagging k a e ts)) ds) in
    ((λ y. record { parts = parts.0 (first.0 c.if-not-are_peaks_rebuilt.false); nodes = nodes.0 (last.0 y) }), (λ v. last.1 (nodes.1 v.nodes)))
