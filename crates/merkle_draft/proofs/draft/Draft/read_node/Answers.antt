use Rattle.std.proofs.Common.{rules, ◌≡◌, ◌+◌, ◌<◌, ◌≤◌, length, Some, None, slice_get, arith, sym, ap, ◌∙◌}
use Rattle.std.specs.FinMap.{get}
use Rattle.std.specs.Option.{option_or}
use Rattle.merkle_draft.specs.DraftReads.{below}
use Rattle.merkle_batch_theory.proofs.Stored.{get_reads}
use Rattle.merkle_draft.proofs.NodeErrorFacts.{if_some}
use Rattle.merkle_batch_theory.proofs.AssignmentFacts.{digests_from_get}
use Rattle.merkle_draft.proofs.draft.Draft.read_node.Goals as goal

pub returns-in-Some-clause-right : goal.returns-in-Some-clause-right
returns-in-Some-clause-right g c = λ truth reads same.
    let base = g.B.Base.contents c.args.base.now in
    let p = c.args.position in
    let before : c.self.inside.size_before ≡ c.args.self.now.before = ap (λ (r : _). r.before) c.self.view_is in
    let own : get c.self.inside.overwrites p ≡ get c.args.self.now.overwritten p = ap (λ (r : _). get r.overwritten p) c.self.view_is in
    let less : p < c.args.self.now.before = omega (arith, before, (let s : p < c.self.inside.size_before = search rules in s)) in
    let got : get c.args.self.now.overwritten p ≡ Some c.in-Some.digest = sym own ∙ sym c.get.ensures ∙ c.in-Some.is in
    reads p c.in-Some.digest less (ap (λ o. option_or o (below c.args.self.now base p)) got)

pub returns-in-None-clause-right : goal.returns-in-None-clause-right
returns-in-None-clause-right g c = if_some c.read_below.result _ (λ d found truth reads same.
    let base = g.B.Base.contents c.args.base.now in
    let p = c.args.position in
    let before : c.self.inside.size_before ≡ c.args.self.now.before = ap (λ (r : _). r.before) c.self.view_is in
    let own : get c.self.inside.overwrites p ≡ get c.args.self.now.overwritten p = ap (λ (r : _). get r.overwritten p) c.self.view_is in
    let less : p < c.args.self.now.before = omega (arith, before, (let s : p < c.self.inside.size_before = search rules in s)) in
    let got : get c.args.self.now.overwritten p ≡ None = sym own ∙ sym c.get.ensures ∙ c.in-None.is in
    reads p d less (ap (λ o. option_or o (below c.args.self.now base p)) got ∙ sym c.read_below.ensures ∙ found))

pub returns-else-lt-clause-right : goal.returns-else-lt-clause-right
returns-else-lt-clause-right g c = if_some c.copied.result _ (λ d found truth reads same.
    let p = c.args.position in
    let start = c.args.self.now.before in
    let before : c.self.inside.size_before ≡ c.args.self.now.before = ap (λ (r : _). r.before) c.self.view_is in
    let index : start + c.as_u64.result ≡ p = omega (arith, before, c.as_u64.ensures, c.sub.ensures, (let s : c.self.inside.size_before ≤ p = search rules in s)) in
    let items : c.self.inside.appended.items ≡ c.args.self.now.appended = ap (λ (r : _). r.appended) c.self.view_is in
    let got : slice_get c.args.self.now.appended c.as_u64.result ≡ Some d =
    ap (λ xs. slice_get xs c.as_u64.result) (sym items ∙ sym c.deref.ensures.value)
    ∙ sym (get_reads c.deref.result.now c.as_u64.result c.get-else-lt.result c.get-else-lt.ensures.lookup) ∙ sym c.copied.ensures ∙ found in
    digests_from_get truth start (length c.args.self.now.appended) c.as_u64.result d (sym (ap (λ xs. slice_get xs c.as_u64.result) same) ∙ got) ∙ ap truth index)
