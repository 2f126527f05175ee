use Rattle.std.proofs.Common.{◌≡◌, ℕ, ◌-◌, ◌<◌, ◌≤◌, set, sym, ap, ◌∙◌}
use Rattle.std.specs.FinMap.{from_entries, insert}
use Rattle.std.specs.Ordering.{nat_cmp}
use Rattle.merkle_base.specs.Forest.{size}
use Rattle.merkle_hasher.proofs.Comparisons.{lt_yes, lt_no}
use Rattle.merkle_batch_theory.specs.Unmerkleized.{UnmerkleizedModel, with_update, pending_list}
use Rattle.merkle_batch_theory.proofs.PendingUpdates.{entries_inserted, old_kept, over_old, over_new, updated_old, updated_new, update_list}
use Rattle.merkle_batch.proofs.batch.UnmerkleizedBatch.update_leaf_digest.Goals.{then-lt+in_ok-insert, else-lt}
use Rattle.merkle_batch.proofs.batch.UnmerkleizedBatch.update_leaf_digest.Goals as goal

pub invariant_of-self : goal.invariant_of-self
invariant_of-self g c =
    let rule = g.F.Family.rule in
    let old = from_entries {R = nat_cmp} c.self.inside.updates.entries in
    let less : c.args.location < c.self.inside.leaves_before = lt_yes c.args.location c.self.inside.leaves_before (sym c.lt.ensures ∙ c.if-lt.true) in
    let put : from_entries {R = nat_cmp} c.insert.new.self.entries ≡ insert old (size rule c.args.location) c.args.digest =
    entries_inserted c.self.inside.updates.entries c.insert.new.self.entries c.location_to_position-position.result c.args.digest c.in_ok-insert.ensures.updates.0
    ∙ ap (λ (n : ℕ). insert old n c.args.digest) c.location_to_position-position.ensures in
    old_kept rule g.F.Family.MAX_LEAVES
    (record {
      parent = c.self.inside.parent.value;
      leaves_before = c.self.inside.leaves_before;
      added = c.self.inside.added.items;
      overwritten = old;
      forgotten = c.self.inside.forgotten;
    })
    c.args.location c.args.digest (from_entries {R = nat_cmp} c.insert.new.self.entries) c.self.invariant less put

pub returns-clause-updated : goal.returns-clause-updated
returns-clause-updated g c =
    let rule = g.F.Family.rule in
    let old = from_entries {R = nat_cmp} c.self.inside.updates.entries in
    let before : UnmerkleizedModel g.row.D.Denot =
    record {
      parent = c.self.inside.parent.value;
      leaves_before = c.self.inside.leaves_before;
      added = c.self.inside.added.items;
      overwritten = old;
      forgotten = c.self.inside.forgotten;
    } in
    elim c.if-lt.branch [
      | then-lt+in_ok-insert w ↦ (let less : c.args.location < c.self.inside.leaves_before = lt_yes c.args.location c.self.inside.leaves_before (sym c.lt.ensures ∙ w.if-lt.true) in
          let put : from_entries {R = nat_cmp} w.insert.new.self.entries ≡ insert old (size rule c.args.location) c.args.digest =
          entries_inserted c.self.inside.updates.entries w.insert.new.self.entries w.location_to_position-position.result c.args.digest w.in_ok-insert.ensures.updates.0
          ∙ ap (λ (n : ℕ). insert old n c.args.digest) w.location_to_position-position.ensures in
          w.self-is ∙ ap (over_old rule before) put ∙ sym (updated_old rule before c.args.location c.args.digest less) ∙ ap (λ p. with_update rule p c.args.location c.args.digest) c.self.view_is)
      | else-lt w ↦ (let past : c.self.inside.leaves_before ≤ c.args.location = lt_no c.args.location c.self.inside.leaves_before (sym c.lt.ensures ∙ w.if-lt.false) in
          let there : w.as_u64.result ≡ c.args.location - c.self.inside.leaves_before = w.as_u64.ensures ∙ w.sub.ensures in
          w.self-is ∙ ap (λ (n : ℕ). over_new rule before (set c.self.inside.added.items n c.args.digest)) there
          ∙ sym (updated_new rule before c.args.location c.args.digest past) ∙ ap (λ p. with_update rule p c.args.location c.args.digest) c.self.view_is)
    ]

pub returns-clause-edited : goal.returns-clause-edited
returns-clause-edited g c = λ X long.
    let rule = g.F.Family.rule in
    ap (λ b. pending_list rule b X) (returns-clause-updated g c) ∙ update_list rule c.args.self c.args.location c.args.digest X long
