use Rattle.std.proofs.Common.{rules, ◌≡◌, ◌+◌, ◌≤◌, ◌++◌, ℕ, [], length, length-append, append-nil, append_assoc, arith, refl, sym, ap, ◌∙◌, subst}
use Rattle.std.proofs.lemmas.List.{nil_from_length}
use Rattle.std.proofs.lemmas.Result.{err_from_is_err_and}
use Rattle.std.specs.Slice.Iter.{chunks_rest}
use Rattle.merkle_base.specs.Forest.{size}
use Rattle.merkle_base.proofs.Limits.{lawful_leaves}
use Rattle.merkle_base.proofs.Nodes.{size_le}
use Rattle.merkle_batch_theory.specs.Read.{read_over}
use Rattle.merkle_draft.specs.DraftReads.{below, stored_node}
use Rattle.merkle_draft.specs.NewDigests.{AreNewDigests, LacksChild}
use Rattle.merkle_draft.proofs.Computing.{child_later}
use Rattle.merkle_draft.proofs.draft.Draft.append_leaves.Goals as goal

pub loop-chunk-init : goal.loop-chunk-init
loop-chunk-init g c =
    let rest : chunks_rest c.into_iter-chunk-iterator.result ≡ c.args.added.now = search rules in
    let none = c.requires.nothing in
    (search rules, tt, refl, refl, (λ p past. refl), omega (arith, ap length none, c.requires.sized), [], rest, omega arith, omega arith, (λ m held. held))

pub append_chunk-requires-clause-within : goal.append_chunk-requires-clause-within
append_chunk-requires-clause-within g c =
    let done = c.loop-chunk.invariant.6 in
    let parts = ap (λ xs. done ++ xs) (sym c.in-Some.ensures.steps.1.0) ∙ c.loop-chunk.invariant.7 in
    omega (
      arith,
      c.requires.within,
      c.loop-chunk.invariant.8,
      ap length parts,
      length-append done (c.in-Some.chunk.now ++ chunks_rest c.next.new.self),
      length-append c.in-Some.chunk.now (chunks_rest c.next.new.self),
    )

pub loop-chunk-preserved : goal.loop-chunk-preserved
loop-chunk-preserved g c =
    let h = g.H.Hasher.hashing c.args.hasher.now in
    let rule = g.F.Family.rule in
    let base = g.B.Base.contents c.args.base.now in
    let start = c.args.self.now in
    let self = c.loop-chunk.self in
    let new = c.append_chunk.new.self in
    let n : ℕ = c.args.leaves in
    let leaf : ℕ = c.loop-chunk.leaf in
    let chunk = c.in-Some.chunk.now in
    let rest = chunks_rest c.next.new.self in
    let before = c.loop-chunk.invariant.2 in
    let kept = c.loop-chunk.invariant.3 in
    let done = c.loop-chunk.invariant.6 in
    let total : leaf ≡ n + length done = c.loop-chunk.invariant.8 in
    let parts : done ++ (chunk ++ rest) ≡ c.args.added.now = ap (λ xs. done ++ xs) (sym c.in-Some.ensures.steps.1.0) ∙ c.loop-chunk.invariant.7 in
    let next : c.add_assign.new.self ≡ leaf + length chunk = omega (arith, c.add_assign.ensures.after) in
    let same : below self base ≡ below start base = λ i p. read_over (kept i) base p in (
      search rules,
      tt,
      c.append_chunk.ensures.only.0 ∙ before,
      c.append_chunk.ensures.only.1 ∙ kept,
      (λ p past. c.append_chunk.ensures.old p (omega (arith, past, before)) ∙ c.loop-chunk.invariant.4 p past),
      c.in_ok-count.ensures.counted ∙ ap (size rule) (sym next),
      done ++ chunk,
      append_assoc done chunk rest ∙ parts,
      omega (arith, next, total, length-append done chunk),
      omega (arith, c.loop-chunk.invariant.9, c.in_ok-count.ensures.work, length-append done chunk, ap (size rule) next),
      (λ m held.
          subst (λ u. AreNewDigests h rule m u n done (stored_node self) → AreNewDigests h rule m u n (done ++ chunk) (stored_node new)) same
          (c.in_ok-count.ensures.settled m n done (sym total) (c.requires.sized ∙ sym before)) (c.loop-chunk.invariant.10 m held)),
    )

pub returns-in_err-count-clause-missing : goal.returns-in_err-count-clause-missing
returns-in_err-count-clause-missing g c =
    let h = g.H.Hasher.hashing c.args.hasher.now in
    let rule = g.F.Family.rule in
    let base = g.B.Base.contents c.args.base.now in
    let start = c.args.self.now in
    let self = c.loop-chunk.self in
    let n : ℕ = c.args.leaves in
    let leaf : ℕ = c.loop-chunk.leaf in
    let chunk = c.in-Some.chunk.now in
    let rest = chunks_rest c.next.new.self in
    let before = c.loop-chunk.invariant.2 in
    let kept = c.loop-chunk.invariant.3 in
    let done = c.loop-chunk.invariant.6 in
    let total : leaf ≡ n + length done = c.loop-chunk.invariant.8 in
    let parts : done ++ (chunk ++ rest) ≡ c.args.added.now = ap (λ xs. done ++ xs) (sym c.in-Some.ensures.steps.1.0) ∙ c.loop-chunk.invariant.7 in
    let same : below self base ≡ below start base = λ i p. read_over (kept i) base p in
    let error = c.in_err-count.field-0.0 in
    let within : leaf + length chunk ≤ n + length c.args.added.now = omega (arith, total, ap length parts, length-append done (chunk ++ rest), length-append chunk rest) in
    let p = err_from_is_err_and c.from_residual.result c.from_residual.ensures.1 in
    rw p.1 (λ other m held. subst (λ e. LacksChild rule m (below start base) n (n + length c.args.added.now) e) (sym p.2)
    (child_later rule m (below start base) n (leaf + length chunk) (n + length c.args.added.now) error within
    (subst (λ u. AreNewDigests h rule m u n done (stored_node self) → LacksChild rule m u n (leaf + length chunk) error) same
    (c.in_err-count.ensures.missing (λ z. other (p.2 ∙ z)) m n done (sym total) (c.requires.sized ∙ sym before)) (c.loop-chunk.invariant.10 m held))))

pub returns-clause-counted : goal.returns-clause-counted
returns-clause-counted g c =
    let none = nil_from_length (chunks_rest c.loop-chunk.chunk-iterator) c.in-None.ensures.steps.1.0 in
    let done = c.loop-chunk.invariant.6 in
    let whole : done ≡ c.args.added.now = sym (append-nil done) ∙ ap (λ xs. done ++ xs) (sym none) ∙ c.loop-chunk.invariant.7 in
    let total : c.loop-chunk.leaf ≡ c.args.leaves + length c.args.added.now = omega (arith, c.loop-chunk.invariant.8, ap length whole) in
    c.loop-chunk.invariant.5 ∙ ap (size g.F.Family.rule) total

pub returns-clause-settled : goal.returns-clause-settled
returns-clause-settled g c = λ m held.
    let none = nil_from_length (chunks_rest c.loop-chunk.chunk-iterator) c.in-None.ensures.steps.1.0 in
    let done = c.loop-chunk.invariant.6 in
    let whole : done ≡ c.args.added.now = sym (append-nil done) ∙ ap (λ xs. done ++ xs) (sym none) ∙ c.loop-chunk.invariant.7 in
    subst (λ ds. AreNewDigests (g.H.Hasher.hashing c.args.hasher.now) g.F.Family.rule m (below c.args.self.now (g.B.Base.contents c.args.base.now))
    c.args.leaves ds (stored_node c.loop-chunk.self)) whole (c.loop-chunk.invariant.10 m held)

pub returns-clause-work : goal.returns-clause-work
returns-clause-work g c =
    let none = nil_from_length (chunks_rest c.loop-chunk.chunk-iterator) c.in-None.ensures.steps.1.0 in
    let done = c.loop-chunk.invariant.6 in
    let whole : done ≡ c.args.added.now = sym (append-nil done) ∙ ap (λ xs. done ++ xs) (sym none) ∙ c.loop-chunk.invariant.7 in
    let total : c.loop-chunk.leaf ≡ c.args.leaves + length c.args.added.now = omega (arith, c.loop-chunk.invariant.8, ap length whole) in
    omega (arith, c.loop-chunk.invariant.9, ap (size g.F.Family.rule) total, ap length whole)

pub overflow_add-count : goal.overflow_add-count
overflow_add-count g c =
    let rule = g.F.Family.rule in
    let law = g.met.F.Family.lawful in
    let done = c.loop-chunk.invariant.6 in
    let chunk = c.in-Some.chunk.now in
    let parts = ap (λ xs. done ++ xs) (sym c.in-Some.ensures.steps.1.0) ∙ c.loop-chunk.invariant.7 in
    let within : c.loop-chunk.leaf + length chunk ≤ g.F.Family.MAX_LEAVES =
    omega (arith, c.requires.within, c.loop-chunk.invariant.8, ap length parts, length-append done (chunk ++ chunks_rest c.next.new.self), length-append chunk (chunks_rest c.next.new.self)) in
    omega (arith, c.loop-chunk.invariant.9, c.in_ok-count.ensures.work, size_le rule (c.loop-chunk.leaf + length chunk) g.F.Family.MAX_LEAVES within, law.size_at_limit, law.limit_fits)

pub add_assign-requires : goal.add_assign-requires
add_assign-requires g c =
    let done = c.loop-chunk.invariant.6 in
    let chunk = c.in-Some.chunk.now in
    let parts = ap (λ xs. done ++ xs) (sym c.in-Some.ensures.steps.1.0) ∙ c.loop-chunk.invariant.7 in
    omega (
      arith,
      c.requires.within,
      c.loop-chunk.invariant.8,
      ap length parts,
      length-append done (chunk ++ chunks_rest c.next.new.self),
      length-append chunk (chunks_rest c.next.new.self),
      lawful_leaves g.F.Family.rule g.F.Family.MAX_LEAVES g.F.Family.MAX_NODES g.met.F.Family.lawful,
    )
