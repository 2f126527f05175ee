use Rattle.std.proofs.Common.{◌≡◌, ◌+◌, ◌-◌, ◌++◌, ℕ, Some, length, length-append, slice_get, arith, sym, ap, ◌∙◌, subst, inl, inr}
use Rattle.std.specs.List.{Contains}
use Rattle.std.proofs.lemmas.Result.{IfErr-weaker, IfOk-weaker}
use Rattle.merkle_base.specs.Forest.{size}
use Rattle.merkle_base.proofs.Nodes.{size_le}
use Rattle.merkle_batch_theory.specs.Read.{read_over}
use Rattle.merkle_draft.specs.DraftReads.{below, stored_node}
use Rattle.merkle_draft.specs.Levels.{ArePlanned}
use Rattle.merkle_draft.specs.NewDigests.{AreNewDigests, LacksChild}
use Rattle.merkle_draft.specs.Settled.{IsReadyToCompute}
use Rattle.merkle_draft.proofs.Adding.{contains_none}
use Rattle.merkle_draft.proofs.Computing.{all_settled, more_ready, on_ok, stored_kept, stored_later}
use Rattle.merkle_draft.proofs.LevelLists.{none_listed}
use Rattle.merkle_draft.proofs.PlannedNodes.{added_planned}
use Rattle.merkle_draft.proofs.draft.Draft.append_chunk.Goals as goal

pub compute_levels-requires-clause-fits : goal.compute_levels-requires-clause-fits
compute_levels-requires-clause-fits g c =
    let rule = g.F.Family.rule in
    let law = g.met.F.Family.lawful in
    let none = ap length (none_listed c.clear.new.self c.clear.ensures) in
    omega (
      arith,
      none,
      c.in_ok-add_leaves.ensures.total,
      c.in_ok-add_leaves.ensures.counted,
      c.add_leaves.ensures.only.0,
      size_le rule (c.args.leaves + length c.args.added.now) g.F.Family.MAX_LEAVES c.requires.within,
      law.size_at_limit,
      law.limit_fits,
    )

pub compute_levels-requires-clause-inner : goal.compute_levels-requires-clause-inner
compute_levels-requires-clause-inner g c = λ k p listed. elim (c.in_ok-add_leaves.ensures.listed.sound k p listed) [
  | inl o ↦ absurd (contains_none p (subst (λ xs. Contains xs p) (c.clear.ensures k) o))
  | inr i ↦ i.2
]

pub compute_levels-requires-clause-stored : goal.compute_levels-requires-clause-stored
compute_levels-requires-clause-stored g c = λ k p listed. elim (c.in_ok-add_leaves.ensures.listed.sound k p listed) [
  | inl o ↦ absurd (contains_none p (subst (λ xs. Contains xs p) (c.clear.ensures k) o))
  | inr i ↦ omega (arith, i.1, c.in_ok-add_leaves.ensures.counted)
]

pub returns-clause-settled : goal.returns-clause-settled
returns-clause-settled g c =
    let h = g.H.Hasher.hashing c.args.hasher.now in
    let rule = g.F.Family.rule in
    let max = g.F.Family.MAX_LEAVES in
    let base = g.B.Base.contents c.args.base.now in
    let old = c.args.self.now in
    let mid = c.add_leaves.new.self in
    let under = below old base in
    let more = c.args.added.now in
    let leaves : ℕ = c.args.leaves in
    let ls = c.add_leaves.new.levels in
    let only = c.add_leaves.ensures.only in
    let same : below mid base ≡ under = λ i p. read_over (only.1 i) base p in
    on_ok c.compute_levels.result
    (λ settled m n ds total sized held.
    (let start : n + length ds ≡ leaves = total in
    let end : leaves + length more ≡ n + length (ds ++ more) = omega (arith, total, length-append ds more) in
    let ready = more_ready h rule m under n ds more max mid.before ls (stored_node old) (stored_node mid) (omega (arith, end, c.requires.within)) (sized ∙ sym only.0)
    (subst (λ (s : ℕ). ArePlanned rule m n (size rule s) (n + length (ds ++ more)) ls) (sym start) (subst (λ (e : ℕ). ArePlanned rule m n (size rule leaves) e ls) end
    (added_planned rule m n max leaves (leaves + length more) (omega (arith, total)) c.requires.within c.clear.new.self _ c.clear.ensures c.in_ok-add_leaves.ensures.listed)))
    held
    (λ p less. stored_kept old mid c.in_ok-add_leaves.ensures.kept.0 only c.in_ok-add_leaves.ensures.kept.1 p (omega (arith, less, c.requires.counted, ap (size rule) start)))
    (λ i d at. stored_later mid (size rule (n + length ds + i)) d (omega (arith, only.0, sized, size_le rule n (n + length ds + i) (omega arith)))
    (subst (λ (s : ℕ). slice_get mid.appended (size rule (s + i) - mid.before) ≡ Some d) (sym start)
    (subst (λ (b : ℕ). slice_get mid.appended (size rule (leaves + i) - b) ≡ Some d) (sym only.0) (c.in_ok-add_leaves.ensures.leaves i d at)))) in
    subst (λ u. AreNewDigests h rule m u n (ds ++ more) (stored_node c.compute_levels.new.self)) same
    (all_settled h rule m (below mid base) n (ds ++ more) (stored_node c.compute_levels.new.self)
    (settled m n (ds ++ more) (size rule (n + length ds))
    (subst (λ u. IsReadyToCompute h rule max m u n (ds ++ more) mid.before (size rule (n + length ds)) ls (stored_node mid)) (sym same) ready)))))
    c.compute_levels.ensures.settled

pub returns-clause-missing : goal.returns-clause-missing
returns-clause-missing g c =
    let h = g.H.Hasher.hashing c.args.hasher.now in
    let rule = g.F.Family.rule in
    let max = g.F.Family.MAX_LEAVES in
    let base = g.B.Base.contents c.args.base.now in
    let old = c.args.self.now in
    let mid = c.add_leaves.new.self in
    let under = below old base in
    let more = c.args.added.now in
    let leaves : ℕ = c.args.leaves in
    let ls = c.add_leaves.new.levels in
    let only = c.add_leaves.ensures.only in
    let same : below mid base ≡ under = λ i p. read_over (only.1 i) base p in
    IfErr-weaker c.compute_levels.result _ _
    (λ error lacks other m n ds total sized held.
    (let start : n + length ds ≡ leaves = total in
    let end : leaves + length more ≡ n + length (ds ++ more) = omega (arith, total, length-append ds more) in
    let ready = more_ready h rule m under n ds more max mid.before ls (stored_node old) (stored_node mid) (omega (arith, end, c.requires.within)) (sized ∙ sym only.0)
    (subst (λ (s : ℕ). ArePlanned rule m n (size rule s) (n + length (ds ++ more)) ls) (sym start) (subst (λ (e : ℕ). ArePlanned rule m n (size rule leaves) e ls) end
    (added_planned rule m n max leaves (leaves + length more) (omega (arith, total)) c.requires.within c.clear.new.self _ c.clear.ensures c.in_ok-add_leaves.ensures.listed)))
    held
    (λ p less. stored_kept old mid c.in_ok-add_leaves.ensures.kept.0 only c.in_ok-add_leaves.ensures.kept.1 p (omega (arith, less, c.requires.counted, ap (size rule) start)))
    (λ i d at. stored_later mid (size rule (n + length ds + i)) d (omega (arith, only.0, sized, size_le rule n (n + length ds + i) (omega arith)))
    (subst (λ (s : ℕ). slice_get mid.appended (size rule (s + i) - mid.before) ≡ Some d) (sym start)
    (subst (λ (b : ℕ). slice_get mid.appended (size rule (leaves + i) - b) ≡ Some d) (sym only.0) (c.in_ok-add_leaves.ensures.leaves i d at)))) in
    subst (λ (e : ℕ). LacksChild rule m under n e error) (sym end) (subst (λ u. LacksChild rule m u n (n + length (ds ++ more)) error) same
    (lacks other m n (ds ++ more) (size rule (n + length ds))
    (subst (λ u. IsReadyToCompute h rule max m u n (ds ++ more) mid.before (size rule (n + length ds)) ls (stored_node mid)) (sym same) ready)))))
    c.compute_levels.ensures.missing

pub returns-clause-work : goal.returns-clause-work
returns-clause-work g c =
    let none = ap length (none_listed c.clear.new.self c.clear.ensures) in
    IfOk-weaker c.compute_levels.result _ _ (λ k is.
    omega (arith, is, none, c.in_ok-add_leaves.ensures.total, c.in_ok-add_leaves.ensures.counted, c.add_leaves.ensures.only.0, c.requires.counted)) c.compute_levels.ensures.work
