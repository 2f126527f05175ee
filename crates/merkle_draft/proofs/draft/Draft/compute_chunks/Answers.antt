use Rattle.std.proofs.Common.{rules, ◌≡◌, ◌+◌, ◌++◌, ℕ, [], length, arith, refl, sym, ap, ◌∙◌, subst, append_assoc}
use Rattle.std.proofs.lemmas.List.{nil_from_length}
use Rattle.std.proofs.lemmas.Result.{err_from_is_err_and}
use Rattle.std.specs.Slice.Iter.{chunks_rest}
use Rattle.merkle_draft.specs.DraftReads.{below, stored_node}
use Rattle.merkle_draft.specs.NewDigests.{LacksChild}
use Rattle.merkle_draft.specs.Settled.{AreSettled, IsStage}
use Rattle.merkle_draft.proofs.Stages.{below_same, chunk_stage, in_chunk}
use Rattle.merkle_draft.proofs.draft.Draft.compute_chunks.Goals as goal

pub loop-chunk-init : goal.loop-chunk-init
loop-chunk-init g c =
    let rest : chunks_rest c.into_iter-chunk-iterator.result ≡ c.args.positions.now = search rules in
    let h = g.H.Hasher.hashing c.args.hasher.now in
    let under = below c.args.self.now (g.B.Base.contents c.args.base.now) in (
      search rules,
      tt,
      (refl, refl, refl),
      (λ p past. refl),
      [],
      rest,
      (λ m n ds later stage. subst (λ xs. AreSettled h g.F.Family.rule m under n ds (xs ++ later) (stored_node c.args.self.now)) (sym rest) stage.settled),
    )

pub compute_nodes-requires-clause-inner : goal.compute_nodes-requires-clause-inner
compute_nodes-requires-clause-inner g c = λ p listed.
    let done = c.loop-chunk.invariant.4 in
    let listed_parts = c.loop-chunk.invariant.5 in
    c.requires.inner p (in_chunk done c.in-Some.chunk.now (chunks_rest c.next.new.self) c.args.positions.now p (ap (λ xs. done ++ xs) (sym c.in-Some.ensures.steps.1.0) ∙ listed_parts) listed)

pub compute_nodes-requires-clause-stored : goal.compute_nodes-requires-clause-stored
compute_nodes-requires-clause-stored g c = λ p listed.
    let done = c.loop-chunk.invariant.4 in
    let listed_parts = c.loop-chunk.invariant.5 in
    let shape = c.loop-chunk.invariant.2 in
    omega (
      arith,
      shape.0,
      shape.2,
      c.requires.stored p (in_chunk done c.in-Some.chunk.now (chunks_rest c.next.new.self) c.args.positions.now p
          (ap (λ xs. done ++ xs) (sym c.in-Some.ensures.steps.1.0) ∙ listed_parts) listed),
    )

pub loop-chunk-preserved : goal.loop-chunk-preserved
loop-chunk-preserved g c =
    let h = g.H.Hasher.hashing c.args.hasher.now in
    let rule = g.F.Family.rule in
    let max = g.F.Family.MAX_LEAVES in
    let base = g.B.Base.contents c.args.base.now in
    let self = c.loop-chunk.self in
    let new = c.compute_nodes.new.self in
    let start = c.args.self.now in
    let ps = c.args.positions.now in
    let chunk = c.in-Some.chunk.now in
    let rest = chunks_rest c.next.new.self in
    let shape = c.loop-chunk.invariant.2 in
    let more = c.compute_nodes.ensures.shape in
    let done = c.loop-chunk.invariant.4 in
    let listed_parts = c.loop-chunk.invariant.5 in
    let parts : done ++ (chunk ++ rest) ≡ ps = ap (λ xs. done ++ xs) (sym c.in-Some.ensures.steps.1.0) ∙ listed_parts in (
      search rules,
      tt,
      (more.0 ∙ shape.0, more.1 ∙ shape.1, more.2 ∙ shape.2),
      (λ p past. c.compute_nodes.ensures.old p (omega (arith, past, shape.0)) ∙ c.loop-chunk.invariant.3 p past),
      done ++ chunk,
      append_assoc done chunk rest ∙ parts,
      (λ m n ds later stage.
          (let settled = subst (λ xs. AreSettled h rule m (below start base) n ds (xs ++ later) (stored_node self)) c.in-Some.ensures.steps.1.0 (c.loop-chunk.invariant.6 m n ds later stage) in
          let part = chunk_stage h rule max m (below start base) n ds start.before c.args.height done chunk rest ps later (stored_node start) (stored_node self) parts stage settled in
          subst (λ u. IsStage h rule max m u n ds self.before c.args.height chunk (rest ++ later) (stored_node self)
          → AreSettled h rule m u n ds (rest ++ later) (stored_node new)) (below_same start self base shape)
          (c.in_ok-compute_nodes.ensures.settled m n ds (rest ++ later))
          (subst (λ (b : ℕ). IsStage h rule max m (below start base) n ds b c.args.height chunk (rest ++ later) (stored_node self)) (sym shape.0) part))),
    )

pub returns-in_err-compute_nodes-clause-missing : goal.returns-in_err-compute_nodes-clause-missing
returns-in_err-compute_nodes-clause-missing g c =
    let h = g.H.Hasher.hashing c.args.hasher.now in
    let rule = g.F.Family.rule in
    let max = g.F.Family.MAX_LEAVES in
    let base = g.B.Base.contents c.args.base.now in
    let self = c.loop-chunk.self in
    let start = c.args.self.now in
    let chunk = c.in-Some.chunk.now in
    let rest = chunks_rest c.next.new.self in
    let shape = c.loop-chunk.invariant.2 in
    let done = c.loop-chunk.invariant.4 in
    let listed_parts = c.loop-chunk.invariant.5 in
    let parts : done ++ (chunk ++ rest) ≡ c.args.positions.now = ap (λ xs. done ++ xs) (sym c.in-Some.ensures.steps.1.0) ∙ listed_parts in
    let error = c.in_err-compute_nodes.field-0.0 in
    let p = err_from_is_err_and c.from_residual.result c.from_residual.ensures.1 in
    rw p.1 (λ other m n ds later stage. subst (λ e. LacksChild rule m (below start base) n (n + length ds) e) (sym p.2)
    (let settled = subst (λ xs. AreSettled h rule m (below start base) n ds (xs ++ later) (stored_node self)) c.in-Some.ensures.steps.1.0 (c.loop-chunk.invariant.6 m n ds later stage) in
    let part = chunk_stage h rule max m (below start base) n ds start.before c.args.height done chunk rest c.args.positions.now later (stored_node start) (stored_node self) parts stage settled in
    subst (λ u. IsStage h rule max m u n ds self.before c.args.height chunk (rest ++ later) (stored_node self) → LacksChild rule m u n (n + length ds) error) (below_same start self base shape)
    (c.in_err-compute_nodes.ensures.missing (λ z. other (p.2 ∙ z)) m n ds (rest ++ later))
    (subst (λ (b : ℕ). IsStage h rule max m (below start base) n ds b c.args.height chunk (rest ++ later) (stored_node self)) (sym shape.0) part)))

pub returns-clause-settled : goal.returns-clause-settled
returns-clause-settled g c = λ m n ds later stage.
    let none = nil_from_length (chunks_rest c.loop-chunk.chunk-iterator) c.in-None.ensures.steps.1.0 in
    subst (λ xs. AreSettled (g.H.Hasher.hashing c.args.hasher.now) g.F.Family.rule m (below c.args.self.now (g.B.Base.contents c.args.base.now)) n ds
    (xs ++ later) (stored_node c.loop-chunk.self)) none (c.loop-chunk.invariant.6 m n ds later stage)
