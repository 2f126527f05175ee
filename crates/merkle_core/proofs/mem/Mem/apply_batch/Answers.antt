use Rattle.std.proofs.Common.{rules, ◌≡◌, ◌+◌, ◌-◌, ◌≤◌, Some, None, length, map, take, drop, arith, ap, sym, ◌∙◌, subst}
use Rattle.std.specs.FinMap.{get}
use Rattle.merkle_base.proofs.Nodes.{size_inj}
use Rattle.merkle_batch_theory.specs.Contents.{held_peaks}
use Rattle.merkle_batch_theory.specs.Held.{held_contents}
use Rattle.merkle_batch_theory.specs.BatchValid.{IsBatchValid}
use Rattle.merkle_batch_theory.specs.Records.{RecordModel}
use Rattle.merkle_batch_theory.specs.Replay.{with_records, applied, with_record, matched}
use Rattle.merkle_batch_theory.specs.MemModel.{contents}
use Rattle.merkle_batch_theory.specs.MemValid.{IsMemValid}
use Rattle.merkle_batch_theory.proofs.Applied.{applied_at}
use Rattle.merkle_batch_theory.proofs.Runs.{some_kept, total_with_record, kept_after, applied_after}
use Rattle.merkle_core.proofs.mem.Mem.apply_batch.Goals as goal

pub sub-added-requires : goal.sub-added-requires
sub-added-requires g c =
    let rule = g.F.Family.rule in
    let most = g.F.Family.MAX_LEAVES in
    let same = g.D.PartialEq.eq in
    let linked = subst (IsBatchValid rule most) c.batch.view_is c.batch.invariant in
    let m : matched same c.size.result c.front.result.now c.args.batch.now ≡ Some c.in-Some.first = sym c.find_state.ensures ∙ c.in-Some.is in
    omega (
      arith,
      total_with_record rule most same c.args.batch.now linked (λ r. r.value) c.batch.inside.ancestors.items
          (ap (λ b. b.ancestors) c.batch.view_is) c.size.result c.in-Some.first c.front.result.now m,
      c.size.ensures,
      c.size-2.ensures,
      c.size-3.ensures,
    )

pub slice_bounds-apply_records-count : goal.slice_bounds-apply_records-count
slice_bounds-apply_records-count g c =
    let rule = g.F.Family.rule in
    let most = g.F.Family.MAX_LEAVES in
    let same = g.D.PartialEq.eq in
    let linked = subst (IsBatchValid rule most) c.batch.view_is c.batch.invariant in
    let m : matched same c.size.result c.front.result.now c.args.batch.now ≡ Some c.in-Some.first = sym c.find_state.ensures ∙ c.in-Some.is in
    some_kept rule most same c.args.batch.now linked (λ r. r.value) c.deref.result.now
    (ap (map (λ r. r.value)) c.deref.ensures.value ∙ ap (λ b. b.ancestors) c.batch.view_is) c.size.result c.in-Some.first c.front.result.now m

pub offset_bounds-deref-first : goal.offset_bounds-deref-first
offset_bounds-deref-first g c =
    let rule = g.F.Family.rule in
    let most = g.F.Family.MAX_LEAVES in
    let same = g.D.PartialEq.eq in
    let linked = subst (IsBatchValid rule most) c.batch.view_is c.batch.invariant in
    let m : matched same c.size.result c.front.result.now c.args.batch.now ≡ Some c.in-Some.first = sym c.find_state.ensures ∙ c.in-Some.is in
    let k : c.in-Some.first ≤ length c.deref.result.now =
    some_kept rule most same c.args.batch.now linked (λ r. r.value) c.deref.result.now
    (ap (map (λ r. r.value)) c.deref.ensures.value ∙ ap (λ b. b.ancestors) c.batch.view_is) c.size.result c.in-Some.first c.front.result.now m in
    search rules

pub slice_bounds-apply_records-start : goal.slice_bounds-apply_records-start
slice_bounds-apply_records-start g c =
    let rule = g.F.Family.rule in
    let most = g.F.Family.MAX_LEAVES in
    let same = g.D.PartialEq.eq in
    let linked = subst (IsBatchValid rule most) c.batch.view_is c.batch.invariant in
    let m : matched same c.size.result c.front.result.now c.args.batch.now ≡ Some c.in-Some.first = sym c.find_state.ensures ∙ c.in-Some.is in
    let k : c.in-Some.first ≤ length c.deref.result.now =
    some_kept rule most same c.args.batch.now linked (λ r. r.value) c.deref.result.now
    (ap (map (λ r. r.value)) c.deref.ensures.value ∙ ap (λ b. b.ancestors) c.batch.view_is) c.size.result c.in-Some.first c.front.result.now m in
    search rules

pub apply_records-requires : goal.apply_records-requires
apply_records-requires g c =
    let rule = g.F.Family.rule in
    let most = g.F.Family.MAX_LEAVES in
    let same = g.D.PartialEq.eq in
    let linked = subst (IsBatchValid rule most) c.batch.view_is c.batch.invariant in
    let m : matched same c.size.result c.front.result.now c.args.batch.now ≡ Some c.in-Some.first = sym c.find_state.ensures ∙ c.in-Some.is in
    omega (
      arith,
      total_with_record rule most same c.args.batch.now linked (λ r. r.value) c.deref.result.now
          (ap (map (λ r. r.value)) c.deref.ensures.value ∙ ap (λ b. b.ancestors) c.batch.view_is) c.size.result c.in-Some.first c.front.result.now m,
      c.in_ok-reserve.ensures.room,
      c.reserve.ensures.size,
      ap (λ s. s.size) c.self.view_is,
      c.as_u64.ensures,
      c.sub-added.ensures,
      c.size.ensures,
      c.size-2.ensures,
      c.size-3.ensures,
    )

pub apply_record-requires : goal.apply_record-requires
apply_record-requires g c =
    let rule = g.F.Family.rule in
    let most = g.F.Family.MAX_LEAVES in
    let same = g.D.PartialEq.eq in
    let linked = subst (IsBatchValid rule most) c.batch.view_is c.batch.invariant in
    let m : matched same c.size.result c.front.result.now c.args.batch.now ≡ Some c.in-Some.first = sym c.find_state.ensures ∙ c.in-Some.is in
    let own : c.deref-own.result.now ≡ c.args.batch.now.own = c.deref-own.ensures ∙ ap (λ b. b.own) c.batch.view_is in
    omega (
      arith,
      total_with_record rule most same c.args.batch.now linked (λ r. r.value) c.deref.result.now
          (ap (map (λ r. r.value)) c.deref.ensures.value ∙ ap (λ b. b.ancestors) c.batch.view_is) c.size.result c.in-Some.first c.front.result.now m,
      c.in_ok-reserve.ensures.room,
      c.reserve.ensures.size,
      ap (λ s. s.size) c.self.view_is,
      ap (λ (r : RecordModel _). length r.appended) own,
      c.apply_records.ensures.capacity,
      c.apply_records.ensures.size,
      c.as_u64.ensures,
      c.sub-added.ensures,
      c.size.ensures,
      c.size-2.ensures,
      c.size-3.ensures,
    )

pub invariant_of-self-2 : goal.invariant_of-self-2
invariant_of-self-2 g c =
    let rule = g.F.Family.rule in
    let most = g.F.Family.MAX_LEAVES in
    let same = g.D.PartialEq.eq in
    let linked = subst (IsBatchValid rule most) c.batch.view_is c.batch.invariant in
    let m : matched same c.size.result c.front.result.now c.args.batch.now ≡ Some c.in-Some.first = sym c.find_state.ensures ∙ c.in-Some.is in
    let own : c.deref-own.result.now ≡ c.args.batch.now.own = c.deref-own.ensures ∙ ap (λ b. b.own) c.batch.view_is in
    let i = c.self.inside in
    let changes = map (λ r. r.value) (take (length c.deref.result.now - c.in-Some.first) (drop c.in-Some.first c.deref.result.now)) in
    let reserved : held_contents i.boundary c.reserve.new.self ≡ held_contents i.boundary i.held =
    λ j. record { boundary = i.boundary; size = c.reserve.ensures.size j; node = get (c.reserve.ensures.stored j) } in
    subst (λ n. IsMemValid rule most i.boundary n c.apply_record.new.held) (sym (ap (λ b. b.leaves) c.batch.view_is))
    (kept_after rule most same c.args.batch.now linked (λ r. r.value) c.deref.result.now
    (ap (map (λ r. r.value)) c.deref.ensures.value ∙ ap (λ b. b.ancestors) c.batch.view_is) c.size.result c.in-Some.first c.front.result.now m
    i.boundary i.leaves i.held c.apply_records.new.held c.apply_record.new.held c.self.invariant (c.size.ensures ∙ sym (ap (λ s. s.size) c.self.view_is))
    (c.apply_record.ensures.start ∙ c.apply_records.ensures.start ∙ c.reserve.ensures.start)
    (omega (arith, c.apply_records.ensures.size, c.reserve.ensures.size)) (c.apply_record.ensures.size ∙ ap (λ (r : RecordModel _). c.apply_records.new.held.size + length r.appended) own)
    (c.apply_records.ensures.replayed i.boundary ∙ ap (with_records changes) reserved)
    (c.apply_record.ensures.replayed i.boundary ∙ ap (λ r. with_record r (held_contents i.boundary c.apply_records.new.held)) own))

pub returns-clause-done : goal.returns-clause-done
returns-clause-done g c =
    let rule = g.F.Family.rule in
    let most = g.F.Family.MAX_LEAVES in
    let same = g.D.PartialEq.eq in
    let linked = subst (IsBatchValid rule most) c.batch.view_is c.batch.invariant in
    let m : matched same c.size.result c.front.result.now c.args.batch.now ≡ Some c.in-Some.first = sym c.find_state.ensures ∙ c.in-Some.is in
    let own : c.deref-own.result.now ≡ c.args.batch.now.own = c.deref-own.ensures ∙ ap (λ b. b.own) c.batch.view_is in
    let i = c.self.inside in
    let changes = map (λ r. r.value) (take (length c.deref.result.now - c.in-Some.first) (drop c.in-Some.first c.deref.result.now)) in
    let held : c.front.result.now ≡ held_peaks rule c.args.self.now.leaves (contents c.args.self.now) = c.front.ensures ∙ c.write_peaks-count.ensures.held in
    let at : matched same c.args.self.now.size (held_peaks rule c.args.self.now.leaves (contents c.args.self.now)) c.args.batch.now
    ≡ Some c.in-Some.first = sym (λ j. matched same (c.size.ensures j) (held j) c.args.batch.now) ∙ m in
    let reserved : held_contents i.boundary c.reserve.new.self ≡ contents c.args.self.now =
    (λ j. record { boundary = i.boundary; size = c.reserve.ensures.size j; node = get (c.reserve.ensures.stored j) }) ∙ ap contents c.self.view_is in
    applied_after rule most same c.args.batch.now linked (λ r. r.value) c.deref.result.now
    (ap (map (λ r. r.value)) c.deref.ensures.value ∙ ap (λ b. b.ancestors) c.batch.view_is) c.size.result c.in-Some.first c.front.result.now m
    c.args.self.now.leaves (contents c.args.self.now) (held_contents i.boundary c.apply_records.new.held) (held_contents i.boundary c.apply_record.new.held)
    (c.apply_records.ensures.replayed i.boundary ∙ ap (with_records changes) reserved)
    (c.apply_record.ensures.replayed i.boundary ∙ ap (λ r. with_record r (held_contents i.boundary c.apply_records.new.held)) own) at

pub returns-clause-counted : goal.returns-clause-counted
returns-clause-counted g c = ap (λ b. b.leaves) c.batch.view_is

pub returns-clause-refused : goal.returns-clause-refused
returns-clause-refused g c = λ none.
    let rule = g.F.Family.rule in
    let same = g.D.PartialEq.eq in
    let m : matched same c.size.result c.front.result.now c.args.batch.now ≡ Some c.in-Some.first = sym c.find_state.ensures ∙ c.in-Some.is in
    let held : c.front.result.now ≡ held_peaks rule c.args.self.now.leaves (contents c.args.self.now) = c.front.ensures ∙ c.write_peaks-count.ensures.held in
    let at : matched same c.args.self.now.size (held_peaks rule c.args.self.now.leaves (contents c.args.self.now)) c.args.batch.now
    ≡ Some c.in-Some.first = sym (λ j. matched same (c.size.ensures j) (held j) c.args.batch.now) ∙ m in
    let both : None ≡ Some c.in-Some.first = sym none ∙ at in
    absurd (cc)

pub returns-clause-on_lists : goal.returns-clause-on_lists
returns-clause-on_lists g c = λ h X ls tells same agrees stands.
    let rule = g.F.Family.rule in
    let i = c.self.inside in
    let old = contents c.args.self.now in
    let leaves : c.args.self.now.leaves ≡ length X = sym (ap (λ s. s.leaves) c.self.view_is)
    ∙ size_inj rule i.leaves (length X) (c.self.invariant.counted.sized ∙ ap (λ s. s.size) c.self.view_is ∙ agrees.sized) in
    applied_at h rule tells c.args.batch.now ls old _ X stands agrees
    (ap (λ equal. applied {F = g.row.F.Denot} equal rule (length X) c.args.batch.now old) same
    ∙ ap (λ n. applied {F = g.row.F.Denot} g.D.PartialEq.eq rule n c.args.batch.now old) (sym leaves) ∙ returns-clause-done g c)
