use Rattle.std.proofs.Common.{◌≡◌, [], ◌∷◌, ◌++◌, map, length, arith, ap, sym, ◌∙◌, append_assoc, append-nil, refl}
use Rattle.merkle_base.specs.Places.{peaks_of, placed}
use Rattle.merkle_base.proofs.PeakLists.{first-placed}
use Rattle.merkle_draft.specs.DraftReads.{old_node}
use Rattle.merkle_draft.proofs.NodeErrorFacts.{gap_below, listed_below}
use Rattle.merkle_draft.proofs.PeakReads.{all_read, first_more, first_none, peak_lacks}
use Rattle.merkle_draft.specs.declared.node_error.NodeError.TheVariants.{Missing}
use Rattle.merkle_draft.proofs.draft.Draft.read_peaks.Goals as goal

pub loop-position-init : goal.loop-position-init
loop-position-init g c =
    let left = g.F.Peaks.Listed.left in
    let told = ap left c.into_iter-position-iterator.ensures.into_iter_gives ∙ c.peaks-position-items.ensures c.args.leaves c.requires.within (sym c.location_to_position.ensures) in (
      g.met.F.Peaks.Listed.may_go c.into_iter-position-iterator.result,
      g.met.F.Peaks.Listed.ends c.into_iter-position-iterator.result,
      ([], told, first_none c.args.self.now.before (old_node c.args.self.now (g.B.Base.contents c.args.base.now))),
      λ truth reads same.
          ap (λ ds. ds ++ map truth (map (λ q. q.0) (left c.into_iter-position-iterator.result))) c.in_ok-digests.ensures.items ∙ ap (λ qs. map truth (map (λ q. q.0) qs)) told
          ∙ ap (map truth) (first-placed (peaks_of g.F.Family.rule c.args.leaves)),
    )

pub returns-in_default-clause-missing : goal.returns-in_default-clause-missing
returns-in_default-clause-missing g c =
    let rule = g.F.Family.rule in
    let self = c.args.self.now in
    let read = old_node self (g.B.Base.contents c.args.base.now) in
    let k = c.loop-position.invariant.2 in
    let y = g.met.F.Peaks.Listed.gives_first _ _ _ c.in-Some.ensures.steps in
    let listed : k.0 ++ (c.in-Some.position, c.in-Some.field-0-1) ∷ g.F.Peaks.Listed.left c.next.new.self ≡ map placed (peaks_of rule c.args.leaves) = ap (λ xs. k.0 ++ xs) (sym y) ∙ k.1 in
    let below = listed_below rule c.args.leaves k.0 (g.F.Peaks.Listed.left c.next.new.self) (c.in-Some.position, c.in-Some.field-0-1) listed in
    λ _.
    (peak_lacks rule c.args.leaves self.before read k.0 (g.F.Peaks.Listed.left c.next.new.self) (c.in-Some.position, c.in-Some.field-0-1) (Missing c.in-Some.position) listed
    (gap_below read self.before (length self.appended) c.in-Some.position (Missing c.in-Some.position) (refl, c.in_default.ensures.missing) (omega (arith, c.requires.sized, below))))

pub loop-position-preserved : goal.loop-position-preserved
loop-position-preserved g c =
    let k = c.loop-position.invariant.2 in
    let y = g.met.F.Peaks.Listed.gives_first _ _ _ c.in-Some.ensures.steps in
    let left = g.F.Peaks.Listed.left c.next.new.self in
    let digests = c.loop-position.digests.items in (
      g.met.F.Peaks.Listed.may_go c.next.new.self,
      g.met.F.Peaks.Listed.ends c.next.new.self,
      (
        k.0 ++ (c.in-Some.position, c.in-Some.field-0-1) ∷ [],
        append_assoc k.0 ((c.in-Some.position, c.in-Some.field-0-1) ∷ []) left ∙ ap (λ xs. k.0 ++ xs) (sym y) ∙ k.1,
        first_more c.args.self.now.before (old_node c.args.self.now (g.B.Base.contents c.args.base.now)) k.0 (c.in-Some.position, c.in-Some.field-0-1) k.2 c.in-Some-read_node.ensures.read,
      ),
      λ truth reads same.
          ap (λ xs. xs ++ map truth (map (λ q. q.0) left)) c.in_ok-push.ensures.items
          ∙ append_assoc digests (c.in-Some-read_node.digest ∷ []) (map truth (map (λ q. q.0) left))
          ∙ ap (λ d. digests ++ d ∷ map truth (map (λ q. q.0) left)) (c.in-Some-read_node.ensures.right truth reads same)
          ∙ ap (λ qs. digests ++ map truth (map (λ q. q.0) qs)) (sym y)
          ∙ c.loop-position.invariant.3 truth reads same,
    )

pub returns-clause-read : goal.returns-clause-read
returns-clause-read g c =
    let k = c.loop-position.invariant.2 in
    let y = g.met.F.Peaks.Listed.gives_first _ _ _ c.in-None.ensures.steps in
    all_read c.args.self.now.before (old_node c.args.self.now (g.B.Base.contents c.args.base.now)) g.F.Family.rule c.args.leaves k.0 (sym (append-nil k.0) ∙ ap (λ xs. k.0 ++ xs) (sym y.0) ∙ k.1) k.2

pub returns-clause-right : goal.returns-clause-right
returns-clause-right g c = λ truth reads same.
    let y = g.met.F.Peaks.Listed.gives_first _ _ _ c.in-None.ensures.steps in
    sym (append-nil c.loop-position.digests.items) ∙ ap (λ qs. c.loop-position.digests.items ++ map truth (map (λ q. q.0) qs)) (sym y.0) ∙ c.loop-position.invariant.3 truth reads same
