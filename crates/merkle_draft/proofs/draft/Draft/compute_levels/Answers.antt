use Rattle.std.proofs.Common.{◌≡◌, ◌+◌, ◌<◌, ◌≤◌, ℕ, List, length, arith, sym, ap, ◌∙◌, subst, length-append}
use Rattle.std.proofs.lemmas.Result.{err_from_is_err_and}
use Rattle.std.specs.List.{Contains}
use Rattle.merkle_draft.specs.DraftReads.{below, stored_node}
use Rattle.merkle_draft.specs.Levels.{from_height, level_at}
use Rattle.merkle_draft.specs.NewDigests.{LacksChild}
use Rattle.merkle_draft.specs.Settled.{AreSettled, IsStage}
use Rattle.merkle_draft.proofs.LevelFacts.{from_here, from_past, level_stage}
use Rattle.merkle_draft.proofs.Stages.{below_same}
use Rattle.merkle_draft.proofs.draft.Draft.compute_levels.Goals as goal

pub compute_level-requires-clause-inner : goal.compute_level-requires-clause-inner
compute_level-requires-clause-inner g c = λ p listed.
    let here = c.at-positions.ensures in
    c.requires.inner c.loop-height.height p (subst (λ (xs : List ℕ). Contains xs p) here listed)

pub compute_level-requires-clause-stored : goal.compute_level-requires-clause-stored
compute_level-requires-clause-stored g c = λ p listed.
    let here = c.at-positions.ensures in
    let shape = c.loop-height.invariant.0 in
    omega (arith, shape.0, shape.2, c.requires.stored c.loop-height.height p (subst (λ (xs : List ℕ). Contains xs p) here listed))

pub loop-height-preserved : goal.loop-height-preserved
loop-height-preserved g c =
    let h = g.H.Hasher.hashing c.args.hasher.now in
    let rule = g.F.Family.rule in
    let max = g.F.Family.MAX_LEAVES in
    let base = g.B.Base.contents c.args.base.now in
    let self = c.loop-height.self in
    let new = c.compute_level.new.self in
    let start = c.args.self.now in
    let ls = c.args.levels.now in
    let k = c.loop-height.height in
    let shape = c.loop-height.invariant.0 in
    let more = c.compute_level.ensures.shape in
    let items = sym c.at-positions.ensures in
    let listed : k < length ls = omega (arith, c.loop-height-test.true, c.count-height-end.ensures) in
    let total = ap length (from_here ls k listed) ∙ length-append (level_at ls k) (from_height ls (k + 1)) in (
      (more.0 ∙ shape.0, more.1 ∙ shape.1, more.2 ∙ shape.2),
      (λ p past. c.compute_level.ensures.old p (omega (arith, past, shape.0)) ∙ c.loop-height.invariant.1 p past),
      omega (arith, c.loop-height.invariant.2, total, ap length items),
      (λ m n ds a all.
          (let under = below start base in
          let stage = level_stage h rule max g.F.Family.MAX_NODES g.met.F.Family.lawful m under n ds start.before a ls (stored_node start) all k
          (stored_node self) listed (c.loop-height.invariant.3 m n ds a all) in
          let mine : IsStage h rule max m under n ds self.before k c.at-positions.result.now (from_height ls (k + 1)) (stored_node self) =
          subst (λ (b : ℕ). IsStage h rule max m under n ds b k c.at-positions.result.now (from_height ls (k + 1)) (stored_node self)) (sym shape.0)
          (subst (λ (xs : List ℕ). IsStage h rule max m under n ds start.before k xs (from_height ls (k + 1)) (stored_node self)) items stage) in
          subst (λ u. IsStage h rule max m u n ds self.before k c.at-positions.result.now (from_height ls (k + 1)) (stored_node self)
          → AreSettled h rule m u n ds (from_height ls (k + 1)) (stored_node new)) (below_same start self base shape)
          (c.in_ok-compute_level.ensures.settled m n ds (from_height ls (k + 1))) mine)),
    )

pub returns-in_err-compute_level-clause-missing : goal.returns-in_err-compute_level-clause-missing
returns-in_err-compute_level-clause-missing g c =
    let h = g.H.Hasher.hashing c.args.hasher.now in
    let rule = g.F.Family.rule in
    let max = g.F.Family.MAX_LEAVES in
    let base = g.B.Base.contents c.args.base.now in
    let self = c.loop-height.self in
    let start = c.args.self.now in
    let ls = c.args.levels.now in
    let k = c.loop-height.height in
    let shape = c.loop-height.invariant.0 in
    let items = sym c.at-positions.ensures in
    let listed : k < length ls = omega (arith, c.loop-height-test.true, c.count-height-end.ensures) in
    let error = c.in_err-compute_level.field-0.0 in
    let p = err_from_is_err_and c.from_residual.result c.from_residual.ensures.1 in
    rw p.1 (λ other m n ds a all. subst (λ e. LacksChild rule m (below start base) n (n + length ds) e) (sym p.2)
    (let under = below start base in
    let stage = level_stage h rule max g.F.Family.MAX_NODES g.met.F.Family.lawful m under n ds start.before a ls (stored_node start) all k
    (stored_node self) listed (c.loop-height.invariant.3 m n ds a all) in
    let mine : IsStage h rule max m under n ds self.before k c.at-positions.result.now (from_height ls (k + 1)) (stored_node self) =
    subst (λ (b : ℕ). IsStage h rule max m under n ds b k c.at-positions.result.now (from_height ls (k + 1)) (stored_node self)) (sym shape.0)
    (subst (λ (xs : List ℕ). IsStage h rule max m under n ds start.before k xs (from_height ls (k + 1)) (stored_node self)) items stage) in
    subst (λ u. IsStage h rule max m u n ds self.before k c.at-positions.result.now (from_height ls (k + 1)) (stored_node self)
    → LacksChild rule m u n (n + length ds) error) (below_same start self base shape)
    (c.in_err-compute_level.ensures.missing (λ z. other (p.2 ∙ z)) m n ds (from_height ls (k + 1))) mine))

pub returns-clause-settled : goal.returns-clause-settled
returns-clause-settled g c = λ m n ds a all.
    let past : length c.args.levels.now ≤ c.loop-height.height = omega (arith, c.loop-height-test.false, c.count-height-end.ensures) in
    subst (λ (xs : List ℕ). AreSettled (g.H.Hasher.hashing c.args.hasher.now) g.F.Family.rule m
    (below c.args.self.now (g.B.Base.contents c.args.base.now)) n ds xs (stored_node c.loop-height.self))
    (from_past c.args.levels.now c.loop-height.height past) (c.loop-height.invariant.3 m n ds a all)

pub overflow_add-count : goal.overflow_add-count
overflow_add-count g c =
    let ls = c.args.levels.now in
    let k = c.loop-height.height in
    let listed : k < length ls = omega (arith, c.loop-height-test.true, c.count-height-end.ensures) in
    omega (
      arith,
      c.requires.fits,
      c.loop-height.invariant.2,
      ap length (from_here ls k listed),
      length-append (level_at ls k) (from_height ls (k + 1)),
      ap length c.at-positions.ensures,
    )
