use Rattle.std.proofs.Common.{◌≡◌, ◌+◌, ℕ, [], length, arith, sym, ap, ◌∙◌, subst}
use Rattle.std.proofs.lemmas.List.{nil_from_length}
use Rattle.std.proofs.lemmas.Result.{err_from_is_err_and}
use Rattle.std.specs.FinMap.{from_entries, get}
use Rattle.std.specs.Ordering.{nat_cmp}
use Rattle.merkle_batch_theory.specs.Read.{read_over}
use Rattle.merkle_draft.specs.DraftReads.{below, stored_node}
use Rattle.merkle_draft.specs.NewDigests.{AreNewDigests, LacksChild, LacksNeeded}
use Rattle.merkle_draft.proofs.Computing.{child_later, child_needed, few_computed, no_leaf_past}
use Rattle.merkle_draft.proofs.PlannedNodes.{all_counted}
use Rattle.merkle_draft.proofs.draft.Draft.compute.Goals as goal

pub compute_dirty-requires-clause-updates_are_leaves : goal.compute_dirty-requires-clause-updates_are_leaves
compute_dirty-requires-clause-updates_are_leaves g c = (
  get {R = nat_cmp} (from_entries c.args.updates.now.entries),
  c.requires.updates_are_leaves,
  (λ q. ap (λ w. get w q) c.in_ok-updated.ensures.set),
  c.deref.ensures.value ∙ c.in_ok-updated.ensures.listed c.args.leaves c.requires.updates_are_leaves,
)

pub append_leaves-requires-clause-nothing : goal.append_leaves-requires-clause-nothing
append_leaves-requires-clause-nothing g c =
    nil_from_length c.compute_dirty.new.self.appended (omega (arith, c.compute_dirty.ensures.shape.2, ap length (c.set_leaves.ensures.only.2 ∙ c.requires.nothing.1)))

pub returns-clause-stored : goal.returns-clause-stored
returns-clause-stored g c =
    let h = g.H.Hasher.hashing c.args.hasher.now in
    let rule = g.F.Family.rule in
    let base = g.B.Base.contents c.args.base.now in
    let n : ℕ = c.args.leaves in
    let ds = c.args.added.now in
    let m = get {R = nat_cmp} (from_entries c.args.updates.now.entries) in
    let listed = c.deref.ensures.value ∙ c.in_ok-updated.ensures.listed n c.requires.updates_are_leaves in
    let mid : below c.set_leaves.new.self base ≡ below c.args.self.now base = λ i p. read_over (c.set_leaves.ensures.only.1 i) base p in
    let late : below c.compute_dirty.new.self base ≡ below c.set_leaves.new.self base = λ i p. read_over (c.compute_dirty.ensures.shape.1 i) base p in
    let dirty = c.in_ok-dirty.ensures.settled m c.requires.updates_are_leaves (λ q. ap (λ w. get w q) c.in_ok-updated.ensures.set) listed in
    subst (λ u. AreNewDigests h rule m u n ds (stored_node c.append_leaves.new.self)) (late ∙ mid)
    (c.in_ok-new.ensures.settled m (subst (λ u. AreNewDigests h rule m u n [] (stored_node c.compute_dirty.new.self)) (sym late) dirty))

pub returns-clause-old : goal.returns-clause-old
returns-clause-old g c = λ p past.
    let before = c.compute_dirty.ensures.shape.0 in
    let only = c.set_leaves.ensures.only.0 in
    c.append_leaves.ensures.old p (omega (arith, past, before, only)) ∙ c.compute_dirty.ensures.old p (omega (arith, past, only)) ∙ ap (λ w. get w p) c.in_ok-updated.ensures.set
    ∙ no_leaf_past g.F.Family.rule c.args.leaves (get {R = nat_cmp} (from_entries c.args.updates.now.entries)) c.requires.updates_are_leaves p (omega (arith, past, c.requires.sized))

pub returns-in_err-dirty-clause-missing : goal.returns-in_err-dirty-clause-missing
returns-in_err-dirty-clause-missing g c =
    let rule = g.F.Family.rule in
    let base = g.B.Base.contents c.args.base.now in
    let n : ℕ = c.args.leaves in
    let end : ℕ = n + length c.args.added.now in
    let m = get {R = nat_cmp} (from_entries c.args.updates.now.entries) in
    let listed = c.deref.ensures.value ∙ c.in_ok-updated.ensures.listed n c.requires.updates_are_leaves in
    let mid : below c.set_leaves.new.self base ≡ below c.args.self.now base = λ i p. read_over (c.set_leaves.ensures.only.1 i) base p in
    let error = c.in_err-dirty.field-0.0 in
    let p = err_from_is_err_and c.from_residual-in_err-dirty.result c.from_residual-in_err-dirty.ensures.1 in
    rw p.1 (λ other. subst (λ e. LacksNeeded rule m (below c.args.self.now base) n end e) (sym p.2)
    (child_needed rule m (below c.args.self.now base) n end error (child_later rule m (below c.args.self.now base) n n end error (omega arith)
    (subst (λ u. LacksChild rule m u n n error) mid
    (c.in_err-dirty.ensures.missing (λ z. other (p.2 ∙ z)) m c.requires.updates_are_leaves (λ q. ap (λ w. get w q) c.in_ok-updated.ensures.set) listed)))))

pub returns-in_err-new-clause-missing : goal.returns-in_err-new-clause-missing
returns-in_err-new-clause-missing g c =
    let h = g.H.Hasher.hashing c.args.hasher.now in
    let rule = g.F.Family.rule in
    let base = g.B.Base.contents c.args.base.now in
    let n : ℕ = c.args.leaves in
    let end : ℕ = n + length c.args.added.now in
    let m = get {R = nat_cmp} (from_entries c.args.updates.now.entries) in
    let listed = c.deref.ensures.value ∙ c.in_ok-updated.ensures.listed n c.requires.updates_are_leaves in
    let mid : below c.set_leaves.new.self base ≡ below c.args.self.now base = λ i p. read_over (c.set_leaves.ensures.only.1 i) base p in
    let late : below c.compute_dirty.new.self base ≡ below c.set_leaves.new.self base = λ i p. read_over (c.compute_dirty.ensures.shape.1 i) base p in
    let dirty = c.in_ok-dirty.ensures.settled m c.requires.updates_are_leaves (λ q. ap (λ w. get w q) c.in_ok-updated.ensures.set) listed in
    let error = c.in_err-new.field-0.0 in
    let p = err_from_is_err_and c.from_residual-in_err-new.result c.from_residual-in_err-new.ensures.1 in
    rw p.1 (λ other. subst (λ e. LacksNeeded rule m (below c.args.self.now base) n end e) (sym p.2)
    (child_needed rule m (below c.args.self.now base) n end error
    (subst (λ u. LacksChild rule m u n end error) (late ∙ mid)
    (c.in_err-new.ensures.missing (λ z. other (p.2 ∙ z)) m (subst (λ u. AreNewDigests h rule m u n [] (stored_node c.compute_dirty.new.self)) (sym late) dirty)))))

pub returns-clause-work : goal.returns-clause-work
returns-clause-work g c =
    let m = get {R = nat_cmp} (from_entries c.args.updates.now.entries) in
    let listed = c.deref.ensures.value ∙ c.in_ok-updated.ensures.listed c.args.leaves c.requires.updates_are_leaves in
    all_counted g.F.Family.rule m c.args.leaves (length c.args.added.now) _ _ (c.in_ok-dirty.ensures.work m listed) c.in_ok-new.ensures.work

pub overflow_add-result : goal.overflow_add-result
overflow_add-result g c =
    let rule = g.F.Family.rule in
    let m = get {R = nat_cmp} (from_entries c.args.updates.now.entries) in
    let listed = c.deref.ensures.value ∙ c.in_ok-updated.ensures.listed c.args.leaves c.requires.updates_are_leaves in
    omega (
      arith,
      all_counted rule m c.args.leaves (length c.args.added.now) _ _ (c.in_ok-dirty.ensures.work m listed) c.in_ok-new.ensures.work,
      few_computed rule g.F.Family.MAX_LEAVES g.F.Family.MAX_NODES g.met.F.Family.lawful m c.args.leaves (c.args.leaves + length c.args.added.now) c.requires.within,
    )
