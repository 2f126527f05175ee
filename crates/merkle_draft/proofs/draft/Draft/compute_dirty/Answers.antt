use Rattle.std.proofs.Common.{◌≡◌, ◌+◌, ◌-◌, ℕ, [], cond, length, slice_get, arith, sym, ap, ◌∙◌, subst}
use Rattle.std.specs.FinMap.{get}
use Rattle.std.proofs.lemmas.Bool.{lt-ltb}
use Rattle.std.proofs.lemmas.Result.{IfErr-weaker, IfOk-weaker}
use Rattle.merkle_base.specs.Places.{peaks_of}
use Rattle.merkle_draft.specs.DraftReads.{below, stored_node}
use Rattle.merkle_draft.specs.Levels.{AreMarked, from_height}
use Rattle.merkle_draft.specs.NewDigests.{LacksChild}
use Rattle.merkle_draft.proofs.Computing.{all_settled, dirty_few, dirty_ready, listed_below, listed_inner, on_ok}
use Rattle.merkle_draft.proofs.PlannedNodes.{dirty_planned}
use Rattle.merkle_draft.proofs.draft.Draft.compute_dirty.Goals as goal

pub compute_levels-requires-clause-fits : goal.compute_levels-requires-clause-fits
compute_levels-requires-clause-fits g c =
    let m = c.requires.updates_are_leaves.0 in
    let none = ap (λ ls. length (from_height ls 0)) c.new-levels.ensures in
    let marked = c.in_ok-mark_peaks.ensures m c.requires.updates_are_leaves.3 in
    omega (arith, none, marked.counted, dirty_few g.F.Family.rule g.F.Family.MAX_LEAVES g.F.Family.MAX_NODES g.met.F.Family.lawful m c.args.leaves c.requires.within)

pub compute_levels-requires-clause-inner : goal.compute_levels-requires-clause-inner
compute_levels-requires-clause-inner g c =
    let rule = g.F.Family.rule in
    let m = c.requires.updates_are_leaves.0 in
    let n = c.args.leaves in
    let marked = subst (λ ls. AreMarked m (peaks_of rule n) ls c.mark_peaks.new.levels) c.new-levels.ensures (c.in_ok-mark_peaks.ensures m c.requires.updates_are_leaves.3) in
    listed_inner rule g.F.Family.MAX_LEAVES m n 0 n c.mark_peaks.new.levels c.requires.within (dirty_planned rule m n c.mark_peaks.new.levels marked)

pub compute_levels-requires-clause-stored : goal.compute_levels-requires-clause-stored
compute_levels-requires-clause-stored g c = λ k p there.
    let rule = g.F.Family.rule in
    let m = c.requires.updates_are_leaves.0 in
    let n = c.args.leaves in
    let marked = subst (λ ls. AreMarked m (peaks_of rule n) ls c.mark_peaks.new.levels) c.new-levels.ensures (c.in_ok-mark_peaks.ensures m c.requires.updates_are_leaves.3) in
    omega (arith, c.requires.sized, listed_below rule g.F.Family.MAX_LEAVES m n 0 n c.mark_peaks.new.levels c.requires.within (dirty_planned rule m n c.mark_peaks.new.levels marked) k p there)

pub returns-clause-settled : goal.returns-clause-settled
returns-clause-settled g c =
    let h = g.H.Hasher.hashing c.args.hasher.now in
    let rule = g.F.Family.rule in
    let self = c.args.self.now in
    let under = below self (g.B.Base.contents c.args.base.now) in
    let n : ℕ = c.args.leaves in
    let ls = c.mark_peaks.new.levels in
    on_ok c.compute_levels.result
    (λ settled m of old listed.
    (let marked = subst (λ ks. AreMarked m (peaks_of rule n) ks ls) c.new-levels.ensures (c.in_ok-mark_peaks.ensures m listed) in
    let ready = dirty_ready h rule g.F.Family.MAX_LEAVES m under n self.before ls c.requires.within c.requires.sized (dirty_planned rule m n ls marked) of (stored_node self)
    (λ q low. ap (λ b. cond b (get self.overwritten q) (slice_get self.appended (q - self.before))) (lt-ltb q self.before (omega (arith, low, c.requires.sized))) ∙ old q) in
    all_settled h rule m under n [] (stored_node c.compute_levels.new.self) (settled m n [] 0 ready)))
    c.compute_levels.ensures.settled

pub returns-clause-missing : goal.returns-clause-missing
returns-clause-missing g c =
    let h = g.H.Hasher.hashing c.args.hasher.now in
    let rule = g.F.Family.rule in
    let self = c.args.self.now in
    let under = below self (g.B.Base.contents c.args.base.now) in
    let n : ℕ = c.args.leaves in
    let ls = c.mark_peaks.new.levels in
    let e : n + length {A = g.row.D.Denot} [] ≡ n = omega arith in
    IfErr-weaker c.compute_levels.result _ _
    (λ error lacks other m of old listed.
    (let marked = subst (λ ks. AreMarked m (peaks_of rule n) ks ls) c.new-levels.ensures (c.in_ok-mark_peaks.ensures m listed) in
    let ready = dirty_ready h rule g.F.Family.MAX_LEAVES m under n self.before ls c.requires.within c.requires.sized (dirty_planned rule m n ls marked) of (stored_node self)
    (λ q low. ap (λ b. cond b (get self.overwritten q) (slice_get self.appended (q - self.before))) (lt-ltb q self.before (omega (arith, low, c.requires.sized))) ∙ old q) in
    subst (λ (x : ℕ). LacksChild rule m under n x error) e (lacks other m n [] 0 ready)))
    c.compute_levels.ensures.missing

pub returns-clause-work : goal.returns-clause-work
returns-clause-work g c =
    let none = ap (λ ls. length (from_height ls 0)) c.new-levels.ensures in
    IfOk-weaker c.compute_levels.result _ _ (λ k is m listed. omega (arith, is, none, (c.in_ok-mark_peaks.ensures m listed).counted)) c.compute_levels.ensures.work
