use Rattle.std.proofs.Common.{rules, ◌≡◌, ℕ, suc, ◌+◌, [], ◌∷◌, ◌++◌, length, Some, slice_get, append-nil, append_assoc, arith, ap, sym, ◌∙◌, refl, subst}
use Rattle.std.proofs.lemmas.Option.{slice_get_read, slice_get_within}
use Rattle.merkle_base.specs.Forest.{size}
use Rattle.merkle_base.proofs.Limits.{lawful_leaves}
use Rattle.merkle_base.proofs.Nodes.{size_le}
use Rattle.merkle_draft.specs.Levels.{AreAdded}
use Rattle.merkle_draft.proofs.Adding.{added_nothing, added_append, places_kept}
use Rattle.merkle_draft.proofs.draft.Draft.add_leaves.Goals as goal

pub loop-digest-init : goal.loop-digest-init
loop-digest-init g c = (
  omega arith,
  (refl, refl, refl),
  c.requires.counted,
  λ i d l. absurd (omega arith),
  added_nothing g.F.Family.rule g.F.Family.MAX_LEAVES (size g.F.Family.rule c.args.leaves) c.args.levels.now,
  omega arith,
  ([], sym (append-nil c.args.self.now.appended)),
)

pub add_leaf-requires-clause-below : goal.add_leaf-requires-clause-below
add_leaf-requires-clause-below g c = omega (arith, c.loop-digest.invariant.0, c.loop-digest-test.true, c.requires.within)

pub add_leaf-requires-clause-counted : goal.add_leaf-requires-clause-counted
add_leaf-requires-clause-counted g c = c.loop-digest.invariant.2

pub add_assign-requires : goal.add_assign-requires
add_assign-requires g c =
    omega (arith, c.loop-digest.invariant.0, c.loop-digest-test.true, c.requires.within, lawful_leaves g.F.Family.rule g.F.Family.MAX_LEAVES g.F.Family.MAX_NODES g.met.F.Family.lawful)

pub loop-digest-preserved : goal.loop-digest-preserved
loop-digest-preserved g c =
    let rule = g.F.Family.rule in
    let max = g.F.Family.MAX_LEAVES in
    let self = c.loop-digest.self in
    let new = c.add_leaf.new.self in
    let start = c.args.self.now in
    let i = c.loop-digest.digest-index in
    let leaf = c.loop-digest.leaf in
    let digest = c.digest-item.result in
    let only = c.loop-digest.invariant.1 in
    let more = c.add_leaf.ensures.only in
    let next : c.add_assign.new.self ≡ suc leaf = omega (arith, c.add_assign.ensures.after) in
    let there : slice_get c.args.added.now i ≡ Some digest = slice_get_read c.args.added.now (length c.args.added.now) i digest refl c.loop-digest-test.true c.digest-item.is in
    let placed = c.in_ok-add_leaf.ensures.placed in
    let stands : start.before + length self.appended ≡ size rule (c.args.leaves + i) = omega (arith, only.0, c.loop-digest.invariant.2, ap (size rule) c.loop-digest.invariant.0) in
    let before = c.loop-digest.invariant.6 in (
      omega (arith, next, c.loop-digest.invariant.0),
      (more.0 ∙ only.0, more.1 ∙ only.1, more.2 ∙ only.2),
      c.in_ok-add_leaf.ensures.counted ∙ ap (size rule) (sym next),
      λ j d l. places_kept rule c.args.leaves start.before i c.args.added.now self.appended new.appended placed.0 digest there placed.1 stands c.loop-digest.invariant.3 j d (omega (arith, l)),
      subst (λ (n : ℕ). AreAdded rule max (size rule c.args.leaves) (size rule n) c.args.levels.now c.add_leaf.new.levels) (sym next)
          (added_append rule max (size rule c.args.leaves) (size rule leaf) (size rule (suc leaf))
          (size_le rule c.args.leaves leaf (omega (arith, c.loop-digest.invariant.0))) (size_le rule leaf (suc leaf) (omega arith))
          c.args.levels.now c.loop-digest.levels c.add_leaf.new.levels c.loop-digest.invariant.4 c.in_ok-add_leaf.ensures.listed),
      omega (arith, c.in_ok-add_leaf.ensures.total, c.loop-digest.invariant.5),
      (before.0 ++ digest ∷ placed.0, placed.1 ∙ ap (λ xs. xs ++ digest ∷ placed.0) before.1 ∙ append_assoc start.appended before.0 (digest ∷ placed.0)),
    )

pub returns-in_err-add_leaf-clause-only : goal.returns-in_err-add_leaf-clause-only
returns-in_err-add_leaf-clause-only g c =
    let only = c.loop-digest.invariant.1 in
    let more = c.add_leaf.ensures.only in
    (more.0 ∙ only.0, more.1 ∙ only.1, more.2 ∙ only.2)

pub returns-clause-only : goal.returns-clause-only
returns-clause-only g c = c.loop-digest.invariant.1

pub returns-clause-counted : goal.returns-clause-counted
returns-clause-counted g c =
    let total : c.loop-digest.leaf ≡ c.args.leaves + length c.args.added.now = search rules in
    c.loop-digest.invariant.2 ∙ ap (size g.F.Family.rule) total

pub returns-clause-leaves : goal.returns-clause-leaves
returns-clause-leaves g c = λ i d e.
    let whole : c.loop-digest.digest-index ≡ length c.args.added.now = search rules in
    c.loop-digest.invariant.3 i d (omega (arith, whole, slice_get_within c.args.added.now i d e)) e

pub returns-clause-listed : goal.returns-clause-listed
returns-clause-listed g c =
    let total : c.loop-digest.leaf ≡ c.args.leaves + length c.args.added.now = search rules in
    subst (λ (n : ℕ). AreAdded g.F.Family.rule g.F.Family.MAX_LEAVES (size g.F.Family.rule c.args.leaves) (size g.F.Family.rule n) c.args.levels.now
    c.loop-digest.levels) total c.loop-digest.invariant.4

pub returns-clause-total : goal.returns-clause-total
returns-clause-total g c =
    let whole : c.loop-digest.digest-index ≡ length c.args.added.now = search rules in
    omega (arith, whole, c.loop-digest.invariant.5)
