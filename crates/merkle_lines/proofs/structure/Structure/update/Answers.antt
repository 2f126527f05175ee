use Rattle.std.proofs.Common.{[], ◌∷◌, ◌++◌, refl, sym, ap, subst, ◌∙◌, ◌≡◌, ◌≤◌, arith, inr}
use Rattle.merkle_base.specs.Hashing.{Hashing}
use Rattle.merkle_base.specs.Scheme.{scheme_of}
use Rattle.merkle_leaves.specs.Standard.{standard}
use Rattle.merkle_hasher.proofs.Comparisons.{ge_yes}
use Rattle.merkle_hasher.specs.LeafDigests.{leaf_digests}
use Rattle.merkle_base.specs.Forest.{size}
use Rattle.merkle_base.specs.declared.error.Error.TheVariants.{LeafOutOfBounds}
use Rattle.merkle_batch_theory.specs.Unmerkleized as pending
use Rattle.merkle_lines.specs.Answers.{error_line}
use Rattle.merkle_lines.specs.StructureState.{changes, count, with_changes, with_changed_element, without_changes}
use Rattle.merkle_lines.specs.Held.{Makes, edited}
use Rattle.merkle_lines.proofs.EditedLists.{edited_change}
use Rattle.merkle_lines.proofs.Holdings.{held_with, held_without}
use Rattle.merkle_lines.proofs.Making.{made_total, makes_update}
use Rattle.merkle_lines.proofs.Replies.{update_done, update_out, wanting, wanting_hex}
use Rattle.merkle_lines.proofs.Updates.{update_allowed, update_failed}
use Rattle.merkle_hasher.proofs.LeafDigests.{length-leaf_digests}
use Rattle.merkle_commands.specs.declared.command.Request.TheVariants.{Update}
use Rattle.merkle_lines.proofs.structure.Structure.update.Goals as goal

pub returns-in-Err-clause-answered : goal.returns-in-Err-clause-answered
returns-in-Err-clause-answered g c = λ given word held.
    let h : Hashing g.row.H-Digest.Denot = standard g.H.PlainHasher.digest_of g.H.Digest.Digest.bytes g.H.Digest.PartialEq.eq g.H.Digest.Digest.EMPTY in
    let rule = g.F.Family.rule in
    let most = g.F.Family.MAX_LEAVES in
    let old = c.args.self.now in (
      without_changes given,
      held_without h rule most old.committed old.pending old.list.items old.edits.items given held _ _ _ _
          c.take_pending.ensures.kept c.take_pending.ensures.gone c.take_pending.ensures.listed,
      wanting (scheme_of h c.args.self.now.hasher g.F.Family.rule g.F.Family.MAX_LEAVES g.F.Family.DOMAIN) g.H.Digest.Digest.SIZE
          g.H.Digest.Digest.Spells given (Update c.args.location c.args.digits) c.in-Err.error _ c.in-Err.ensures.refused (ap error_line c.name.ensures),
    )

pub returns-in-Err-read_hex-clause-answered : goal.returns-in-Err-read_hex-clause-answered
returns-in-Err-read_hex-clause-answered g c = λ given word held.
    let h : Hashing g.row.H-Digest.Denot = standard g.H.PlainHasher.digest_of g.H.Digest.Digest.bytes g.H.Digest.PartialEq.eq g.H.Digest.Digest.EMPTY in
    let rule = g.F.Family.rule in
    let most = g.F.Family.MAX_LEAVES in
    let old = c.args.self.now in (
      without_changes given,
      held_without h rule most old.committed old.pending old.list.items old.edits.items given held _ _ _ _
          c.take_pending.ensures.kept c.take_pending.ensures.gone c.take_pending.ensures.listed,
      wanting_hex (scheme_of h c.args.self.now.hasher g.F.Family.rule g.F.Family.MAX_LEAVES g.F.Family.DOMAIN) g.H.Digest.Digest.SIZE
          g.H.Digest.Digest.Spells given (Update c.args.location c.args.digits) c.in-Err-read_hex.error _ (c.in-Err-read_hex.ensures.spelled word)
          (ap error_line c.name-in-Err-read_hex.ensures),
    )

pub returns-then-ge-clause-answered : goal.returns-then-ge-clause-answered
returns-then-ge-clause-answered g c = λ given word held.
    let h : Hashing g.row.H-Digest.Denot = standard g.H.PlainHasher.digest_of g.H.Digest.Digest.bytes g.H.Digest.PartialEq.eq g.H.Digest.Digest.EMPTY in
    let rule = g.F.Family.rule in
    let most = g.F.Family.MAX_LEAVES in
    let old = c.args.self.now in
    let makes : Makes h rule (leaf_digests h rule 0 given.committed) c.in-Ok.value (changes given) = c.in-Ok.ensures.batch given held in
    let total = made_total h rule _ c.in-Ok.value (changes given) makes in
    let there : c.new-leaf.result ≡ c.args.location = c.new-leaf.ensures in
    let past : c.leaves.result ≤ c.new-leaf.result = ge_yes c.new-leaf.result c.leaves.result (sym c.ge.ensures ∙ c.if-ge.true) in (
      without_changes given,
      held_without h rule most old.committed old.pending old.list.items old.edits.items given held _ _ _ _ c.take_pending.ensures.kept c.take_pending.ensures.gone c.take_pending.ensures.listed,
      update_out (scheme_of h c.args.self.now.hasher g.F.Family.rule g.F.Family.MAX_LEAVES g.F.Family.DOMAIN) g.H.Digest.Digest.SIZE
          g.H.Digest.Digest.Spells given {F = g.row.F.Denot} c.args.location c.args.digits (LeafOutOfBounds c.args.location) _
          (omega (arith, past, there, total, c.leaves.ensures.count)) refl refl,
    )

pub returns-in-Err-update_leaf_digest-clause-answered : goal.returns-in-Err-update_leaf_digest-clause-answered
returns-in-Err-update_leaf_digest-clause-answered g c = λ given word held.
    let h : Hashing g.row.H-Digest.Denot = standard g.H.PlainHasher.digest_of g.H.Digest.Digest.bytes g.H.Digest.PartialEq.eq g.H.Digest.Digest.EMPTY in
    let rule = g.F.Family.rule in
    let most = g.F.Family.MAX_LEAVES in
    let old = c.args.self.now in
    let makes : Makes h rule (leaf_digests h rule 0 given.committed) c.in-Ok.value (changes given) = c.in-Ok.ensures.batch given held in
    let there : c.new-leaf.result ≡ c.args.location = c.new-leaf.ensures in (
      without_changes given,
      held_without h rule most old.committed old.pending old.list.items old.edits.items given held _ _ _ _ c.take_pending.ensures.kept c.take_pending.ensures.gone c.take_pending.ensures.listed,
      update_failed (scheme_of h c.args.self.now.hasher g.F.Family.rule g.F.Family.MAX_LEAVES g.F.Family.DOMAIN) g.H.Digest.Digest.SIZE
          g.H.Digest.Digest.Spells given c.in-Ok.value makes c.args.location c.args.digits c.in-Err-update_leaf_digest.error _
          (λ other is. let e = c.in-Err-update_leaf_digest.ensures.refused other (ap (λ k. pending.update_error {F = g.row.F.Denot} rule c.in-Ok.value k) there ∙ is) in (cc))
          (λ none. c.in-Err-update_leaf_digest.ensures.allowed (ap (λ k. pending.update_error {F = g.row.F.Denot} rule c.in-Ok.value k) there ∙ none))
          (ap error_line c.name-in-Err-update_leaf_digest.ensures),
    )

pub returns-in-Err-keep-clause-answered : goal.returns-in-Err-keep-clause-answered
returns-in-Err-keep-clause-answered g c = λ given word held.
    let h : Hashing g.row.H-Digest.Denot = standard g.H.PlainHasher.digest_of g.H.Digest.Digest.bytes g.H.Digest.PartialEq.eq g.H.Digest.Digest.EMPTY in
    let rule = g.F.Family.rule in
    let most = g.F.Family.MAX_LEAVES in
    let old = c.args.self.now in (
      without_changes given,
      held_without h rule most old.committed old.pending old.list.items old.edits.items given held _ _ _ _
          (c.keep.ensures.kept ∙ c.take_pending.ensures.kept) (c.keep.ensures.same ∙ c.take_pending.ensures.gone)
          (c.keep.ensures.listed ∙ c.take_pending.ensures.listed),
      inr (refl, ap error_line c.name-in-Err-keep.ensures),
    )

pub returns-clause-answered : goal.returns-clause-answered
returns-clause-answered g c = λ given word held.
    let h : Hashing g.row.H-Digest.Denot = standard g.H.PlainHasher.digest_of g.H.Digest.Digest.bytes g.H.Digest.PartialEq.eq g.H.Digest.Digest.EMPTY in
    let rule = g.F.Family.rule in
    let most = g.F.Family.MAX_LEAVES in
    let old = c.args.self.now in
    let makes : Makes h rule (leaf_digests h rule 0 given.committed) c.in-Ok.value (changes given) = c.in-Ok.ensures.batch given held in
    let there : c.new-leaf.result ≡ c.args.location = c.new-leaf.ensures in
    let element = c.in-Ok-read_hex.value.items in
    let digest : c.leaf_digest-digest.result ≡ h.leaf (size rule c.args.location) element =
    c.leaf_digest-digest.ensures ∙ (λ i. h.leaf (c.location_to_position-position.ensures i) (c.as_slice.ensures.value i)) ∙ ap (λ k. h.leaf (size rule k) element) there in
    let changed : c.in-Ok-update_leaf_digest.value ≡ pending.with_update rule c.in-Ok.value c.args.location (h.leaf (size rule c.args.location) element) =
    c.in-Ok-update_leaf_digest.ensures.updated ∙ (λ i. pending.with_update rule c.in-Ok.value (there i) (digest i)) in
    let allowed = update_allowed (scheme_of h c.args.self.now.hasher g.F.Family.rule g.F.Family.MAX_LEAVES g.F.Family.DOMAIN) g.H.Digest.Digest.SIZE
    g.H.Digest.Digest.Spells given c.in-Ok.value makes c.args.location
    (λ other is. let e = c.in-Ok-update_leaf_digest.ensures.refused other
    (ap (λ k. pending.update_error {F = g.row.F.Denot} rule c.in-Ok.value k) there ∙ is) in (cc)) in
    let counted = length-leaf_digests h rule 0 given.committed in
    let next = with_changed_element (count given) (changes given) c.args.location element in
    let taken = c.take_pending.new.self in
    let edits : edited c.keep.new.self.list.items c.keep.new.self.edits.items ≡ leaf_digests h rule 0 next.elements =
    (λ i. edited (c.keep.ensures.listed i) (c.in-Ok-keep.ensures.edits i)) ∙ (λ i. edited taken.list.items (taken.edits.items ++ (there i, digest i) ∷ []))
    ∙ edited_change h rule taken.list.items taken.edits.items (changes given) (c.take_pending.ensures.edits given held) (count given) c.args.location element allowed.0 in (
      with_changes given next,
      held_with h rule most old.committed old.pending old.list.items old.edits.items given held _ c.in-Ok-update_leaf_digest.value _ _ next (c.keep.ensures.kept ∙ c.take_pending.ensures.kept)
          (subst (λ b. Makes h rule (leaf_digests h rule 0 given.committed) b next) (sym changed)
          (subst (λ n. Makes h rule (leaf_digests h rule 0 given.committed)
          (pending.with_update rule c.in-Ok.value c.args.location (h.leaf (size rule c.args.location) element))
          (with_changed_element n (changes given) c.args.location element)) counted
          (makes_update h rule _ c.in-Ok.value (changes given) makes c.args.location element)))
          (c.keep.ensures.listed ∙ c.take_pending.ensures.listed) edits,
      update_done (scheme_of h c.args.self.now.hasher g.F.Family.rule g.F.Family.MAX_LEAVES g.F.Family.DOMAIN) g.H.Digest.Digest.SIZE
          g.H.Digest.Digest.Spells given c.args.location c.args.digits element _ c.in-Ok-read_hex.ensures.value allowed.0 allowed.1 refl,
    )
