use Rattle.std.proofs.Common.{◌≤◌, map, length, ap, ap₂, sym, subst, arith, ◌∙◌}
use Rattle.std.proofs.lemmas.List.{length-map}
use Rattle.merkle_base.specs.Places.{peaks_of}
use Rattle.merkle_base.specs.Scheme.{Scheme}
use Rattle.merkle_base.proofs.PeakLists.{few_peaks}
use Rattle.merkle_hasher.specs.Subtrees.{subtree_of}
use Rattle.merkle_audit_parts.proofs.Verdicts.{one_ok}
use Rattle.merkle_audit_parts.proofs.list.HashedList.new.Goals as goal

pub top-requires-clause-inactive : goal.top-requires-clause-inactive
top-requires-clause-inactive g c =
    omega (
      arith,
      c.in-Ok.ensures.ok.2,
      ap length (c.deref.ensures.value ∙ c.in_ok-peaks.ensures),
      length-map (peaks_of g.F.Family.rule c.in-Ok.leaves) (subtree_of {F = g.row.F.Denot}),
    )

pub top-requires-clause-few : goal.top-requires-clause-few
top-requires-clause-few g c =
    omega (
      arith,
      ap length (c.deref.ensures.value ∙ c.in_ok-peaks.ensures),
      length-map (peaks_of g.F.Family.rule c.in-Ok.leaves) (subtree_of {F = g.row.F.Denot}),
      few_peaks g.F.Family.rule g.F.Family.MAX_LEAVES g.F.Family.MAX_NODES g.met.F.Family.lawful c.in-Ok.leaves c.in-Ok.ensures.ok.1,
    )

pub returns-clause-within : goal.returns-clause-within
returns-clause-within g c =
    let ok = c.in-Ok.ensures.ok in
    (omega (arith, ok.0, ok.1), subst (λ n. c.args.inactive ≤ length (peaks_of g.F.Family.rule n)) ok.0 ok.2)

pub returns-clause-hashed : goal.returns-clause-hashed
returns-clause-hashed g c =
    let s = g.H.Hasher.scheme c.args.hasher.now in
    let is = g.met.H.Hasher.scheme_is c.args.hasher.now in
    let X = c.args.list.now in
    let rule_is = sym (ap (λ (z : Scheme _). z.rule) is) in
    let of = c.in-Ok-new.ensures.of_list in
    let ok = c.in-Ok.ensures.ok in
    let few : length X ≤ s.max_leaves = omega (arith, ok.0, ok.1, ap (λ (z : Scheme _). z.max_leaves) is) in
    let low : c.args.inactive ≤ length (peaks_of s.rule (length X)) =
    subst (λ rule. c.args.inactive ≤ length (peaks_of rule (length X))) rule_is (subst (λ n. c.args.inactive ≤ length (peaks_of g.F.Family.rule n)) ok.0 ok.2) in
    let peaks = c.in_ok-peaks.ensures ∙ ap₂ (λ rule n. map subtree_of (peaks_of rule n)) rule_is ok.0 in
    record {
      few = few;
      low = low;
      root = one_ok _ _ (c.in-Ok-root.ensures.ok X of low);
      top = c.in-Ok-top.ensures X of (c.deref.ensures.value ∙ peaks);
      nodes = of;
      peaks = peaks;
    }
