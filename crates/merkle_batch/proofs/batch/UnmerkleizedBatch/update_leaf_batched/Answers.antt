use Rattle.std.proofs.Common.{◌≡◌, ◌+◌, drop, cond, Some, None, Err, refl, sym, ap, ◌∙◌}
use Rattle.std.proofs.lemmas.List.{at_drop_all}
use Rattle.std.specs.Prelude.{nat_le, nat_lt}
use Rattle.std.specs.Option.{option_or}
use Rattle.merkle_base.specs.Forest.{size}
use Rattle.merkle_base.specs.declared.error.Error.TheVariants as error
use Rattle.merkle_batch_theory.specs.Unmerkleized.{first_error, leaf_total, pending_list, update_error, with_update, with_updates}
use Rattle.merkle_batch_theory.proofs.PendingUpdates.{error_next, updates_next, total_kept, parent_kept, updates_list}
use Rattle.merkle_batch.proofs.batch.UnmerkleizedBatch.update_leaf_batched.Goals as goal
use Rattle.merkle_batch_theory.proofs.OptionFacts.{both_none}

pub loop-location-2-preserved : goal.loop-location-2-preserved
loop-location-2-preserved g c =
    let rule = g.F.Family.rule in
    let now = c.loop-location-2.self in
    let us = c.args.updates.now in
    let i = c.loop-location-2.location-index in
    let u = c.loop-location-2-item.result in
    let made : c.in-Ok-update_leaf_digest.batch ≡ with_update rule now u.0 u.1 = c.in-Ok-update_leaf_digest.ensures.updated in (
      c.loop-location-2.invariant.0 ∙ updates_next rule now us i u c.loop-location-2-test.true c.loop-location-2-item.is ∙ ap (λ p. with_updates rule p (drop (i + 1) us)) (sym made),
      (both_none (update_error {F = g.row.F.Denot} rule c.args.self u.0) (first_error {F = g.row.F.Denot} rule c.args.self (drop (i + 1) us))
          (sym (error_next rule c.args.self us i u c.loop-location-2-test.true c.loop-location-2-item.is) ∙ c.loop-location-2.invariant.1)).1,
      ap leaf_total made ∙ total_kept rule now u.0 u.1 ∙ c.loop-location-2.invariant.2,
      ap (λ p. p.parent) made ∙ parent_kept rule now u.0 u.1 ∙ c.loop-location-2.invariant.3,
    )

pub loop-location-preserved : goal.loop-location-preserved
loop-location-preserved g c =
    let rule = g.F.Family.rule in
    let us = c.args.updates.now in
    let i = c.loop-location.location-index in
    let u = c.loop-location-item.result in
    let none : update_error {F = g.row.F.Denot} rule c.args.self u.0 ≡ None = c.in-Ok.ensures.ok in
    c.loop-location.invariant ∙ error_next rule c.args.self us i u c.loop-location-test.true c.loop-location-item.is
    ∙ ap (λ o. option_or o (first_error {F = g.row.F.Denot} rule c.args.self (drop (i + 1) us))) none

pub loop-location-2-init : goal.loop-location-2-init
loop-location-2-init g c =
    let rule = g.F.Family.rule in
    let us = c.args.updates.now in
    (refl, c.loop-location.invariant ∙ at_drop_all (first_error {F = g.row.F.Denot} rule c.args.self) us c.loop-location.location-index c.loop-location-test.false, refl, refl)

pub returns-clause-updated : goal.returns-clause-updated
returns-clause-updated g c =
    let us = c.args.updates.now in
    sym (c.loop-location-2.invariant.0 ∙ at_drop_all (with_updates g.F.Family.rule c.loop-location-2.self) us c.loop-location-2.location-index c.loop-location-2-test.false)

pub returns-clause-edited : goal.returns-clause-edited
returns-clause-edited g c = λ X long.
    let rule = g.F.Family.rule in
    ap (λ b. pending_list rule b X) (returns-clause-updated g c) ∙ updates_list rule c.args.self c.args.updates.now X long

pub returns-in-Err-clause-refused : goal.returns-in-Err-clause-refused
returns-in-Err-clause-refused g c = λ e is.
    let rule = g.F.Family.rule in
    let us = c.args.updates.now in
    let i = c.loop-location.location-index in
    let u = c.loop-location-item.result in
    let found = c.in-Err.ensures.err in
    let first : first_error {F = g.row.F.Denot} rule c.args.self us
    ≡ option_or (update_error {F = g.row.F.Denot} rule c.args.self u.0) (first_error {F = g.row.F.Denot} rule c.args.self (drop (i + 1) us)) =
    c.loop-location.invariant ∙ error_next rule c.args.self us i u c.loop-location-test.true c.loop-location-item.is in
    let same : Some c.in-Err.error ≡ Some e = sym (first ∙ ap (λ o. option_or o (first_error {F = g.row.F.Denot} rule c.args.self (drop (i + 1) us))) found) ∙ is in
    let error_is : c.in-Err.error ≡ e = cc in
    ap (λ e. Err e) error_is

pub returns-in-Err-clause-allowed : goal.returns-in-Err-clause-allowed
returns-in-Err-clause-allowed g c = λ none.
    let rule = g.F.Family.rule in
    let us = c.args.updates.now in
    let i = c.loop-location.location-index in
    let u = c.loop-location-item.result in
    let found = c.in-Err.ensures.err in
    let first : first_error {F = g.row.F.Denot} rule c.args.self us
    ≡ option_or (update_error {F = g.row.F.Denot} rule c.args.self u.0) (first_error {F = g.row.F.Denot} rule c.args.self (drop (i + 1) us)) =
    c.loop-location.invariant ∙ error_next rule c.args.self us i u c.loop-location-test.true c.loop-location-item.is in
    let same : Some c.in-Err.error ≡ None = sym (first ∙ ap (λ o. option_or o (first_error {F = g.row.F.Denot} rule c.args.self (drop (i + 1) us))) found) ∙ none in
    absurd (cc)

pub returns-in-Err-update_leaf_digest-clause-refused : goal.returns-in-Err-update_leaf_digest-clause-refused
returns-in-Err-update_leaf_digest-clause-refused g c = λ e is.
    let none : first_error {F = g.row.F.Denot} g.F.Family.rule c.args.self c.args.updates.now ≡ None = c.loop-location.invariant
    ∙ at_drop_all (first_error {F = g.row.F.Denot} g.F.Family.rule c.args.self) c.args.updates.now c.loop-location.location-index c.loop-location-test.false in
    let same : Some e ≡ None = sym is ∙ none in
    absurd (cc)

pub returns-in-Err-update_leaf_digest-clause-allowed : goal.returns-in-Err-update_leaf_digest-clause-allowed
returns-in-Err-update_leaf_digest-clause-allowed g c = λ _.
    let rule = g.F.Family.rule in
    let us = c.args.updates.now in
    let i = c.loop-location-2.location-index in
    let u = c.loop-location-2-item.result in
    let none = (both_none (update_error {F = g.row.F.Denot} rule c.args.self u.0) (first_error {F = g.row.F.Denot} rule c.args.self (drop (i + 1) us))
    (sym (error_next rule c.args.self us i u c.loop-location-2-test.true c.loop-location-2-item.is) ∙ c.loop-location-2.invariant.1)).0 in
    let kept : update_error {F = g.row.F.Denot} rule c.loop-location-2.self u.0 ≡ update_error {F = g.row.F.Denot} rule c.args.self u.0 =
    λ j. cond (nat_le (c.loop-location-2.invariant.2 j) u.0) (Some (error.LeafOutOfBounds u.0))
    (cond (nat_lt u.0 (c.loop-location-2.invariant.3 j).boundary) (Some (error.ElementPruned (size rule u.0))) None) in
    c.in-Err-update_leaf_digest.ensures.allowed (kept ∙ none)
