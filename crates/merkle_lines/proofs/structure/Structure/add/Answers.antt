use Rattle.std.proofs.Common.{[], ◌∷◌, ◌++◌, refl, sym, ap, subst, ◌∙◌, ◌≡◌, arith, inl, inr}
use Rattle.merkle_base.specs.Hashing.{Hashing}
use Rattle.merkle_base.specs.Scheme.{scheme_of}
use Rattle.merkle_leaves.specs.Standard.{standard}
use Rattle.merkle_hasher.specs.LeafDigests.{leaf_digests}
use Rattle.merkle_base.specs.Forest.{size}
use Rattle.merkle_batch_theory.specs.Unmerkleized.{leaf_total, with_leaves}
use Rattle.merkle_lines.specs.Answers.{error_line}
use Rattle.merkle_lines.specs.StructureState.{changes, with_changes, with_element, without_changes}
use Rattle.merkle_lines.specs.Held.{Makes, edited}
use Rattle.merkle_lines.proofs.EditedLists.{edited_more}
use Rattle.merkle_lines.proofs.Holdings.{held_with, held_without}
use Rattle.merkle_lines.proofs.Making.{made_total, makes_more}
use Rattle.merkle_lines.proofs.Replies.{add_done, add_full, wanting, wanting_hex}
use Rattle.merkle_commands.specs.declared.command.Request.TheVariants.{Add}
use Rattle.merkle_lines.proofs.structure.Structure.add.Goals as goal

pub returns-in-Err-clause-answered : goal.returns-in-Err-clause-answered
returns-in-Err-clause-answered g c = λ given word held.
    let h : Hashing g.row.H-Digest.Denot = standard g.H.PlainHasher.digest_of g.H.Digest.Digest.bytes g.H.Digest.PartialEq.eq g.H.Digest.Digest.EMPTY in
    let rule = g.F.Family.rule in
    let most = g.F.Family.MAX_LEAVES in
    let old = c.args.self.now in (
      without_changes given,
      held_without h rule most old.committed old.pending old.list.items old.edits.items given held _ _ _ _
          c.take_pending.ensures.kept c.take_pending.ensures.gone c.take_pending.ensures.listed,
      wanting (scheme_of h c.args.self.now.hasher g.F.Family.rule g.F.Family.MAX_LEAVES g.F.Family.DOMAIN) g.H.Digest.Digest.SIZE
          g.H.Digest.Digest.Spells given (Add c.args.digits) c.in-Err.error _ c.in-Err.ensures.refused (ap error_line c.name.ensures),
    )

pub returns-in-Err-read_hex-clause-answered : goal.returns-in-Err-read_hex-clause-answered
returns-in-Err-read_hex-clause-answered g c = λ given word held.
    let h : Hashing g.row.H-Digest.Denot = standard g.H.PlainHasher.digest_of g.H.Digest.Digest.bytes g.H.Digest.PartialEq.eq g.H.Digest.Digest.EMPTY in
    let rule = g.F.Family.rule in
    let most = g.F.Family.MAX_LEAVES in
    let old = c.args.self.now in (
      without_changes given,
      held_without h rule most old.committed old.pending old.list.items old.edits.items given held _ _ _ _
          c.take_pending.ensures.kept c.take_pending.ensures.gone c.take_pending.ensures.listed,
      wanting_hex (scheme_of h c.args.self.now.hasher g.F.Family.rule g.F.Family.MAX_LEAVES g.F.Family.DOMAIN) g.H.Digest.Digest.SIZE
          g.H.Digest.Digest.Spells given (Add c.args.digits) c.in-Err-read_hex.error _ (c.in-Err-read_hex.ensures.spelled word)
          (ap error_line c.name-in-Err-read_hex.ensures),
    )

pub returns-in-Err-add_leaf_digest-clause-answered : goal.returns-in-Err-add_leaf_digest-clause-answered
returns-in-Err-add_leaf_digest-clause-answered g c = λ given word held.
    let h : Hashing g.row.H-Digest.Denot = standard g.H.PlainHasher.digest_of g.H.Digest.Digest.bytes g.H.Digest.PartialEq.eq g.H.Digest.Digest.EMPTY in
    let rule = g.F.Family.rule in
    let most = g.F.Family.MAX_LEAVES in
    let old = c.args.self.now in
    let makes : Makes h rule (leaf_digests h rule 0 given.committed) c.in-Ok.value (changes given) = c.in-Ok.ensures.batch given held in
    let total = made_total h rule _ c.in-Ok.value (changes given) makes in (
      without_changes given,
      held_without h rule most old.committed old.pending old.list.items old.edits.items given held _ _ _ _ c.take_pending.ensures.kept c.take_pending.ensures.gone c.take_pending.ensures.listed,
      elim c.in-Err-add_leaf_digest.ensures.refused [
        | inl full ↦ add_full (scheme_of h c.args.self.now.hasher g.F.Family.rule g.F.Family.MAX_LEAVES g.F.Family.DOMAIN) g.H.Digest.Digest.SIZE
            g.H.Digest.Digest.Spells given c.args.digits c.in-Err-add_leaf_digest.error _ (sym total ∙ full.1) full.0
            (ap error_line c.name-in-Err-add_leaf_digest.ensures)
        | inr memory ↦ wanting (scheme_of h c.args.self.now.hasher g.F.Family.rule g.F.Family.MAX_LEAVES g.F.Family.DOMAIN) g.H.Digest.Digest.SIZE
            g.H.Digest.Digest.Spells given (Add c.args.digits) c.in-Err-add_leaf_digest.error _ memory.0 (ap error_line c.name-in-Err-add_leaf_digest.ensures)
      ],
    )

pub returns-in-Err-keep-clause-answered : goal.returns-in-Err-keep-clause-answered
returns-in-Err-keep-clause-answered g c = λ given word held.
    let h : Hashing g.row.H-Digest.Denot = standard g.H.PlainHasher.digest_of g.H.Digest.Digest.bytes g.H.Digest.PartialEq.eq g.H.Digest.Digest.EMPTY in
    let rule = g.F.Family.rule in
    let most = g.F.Family.MAX_LEAVES in
    let old = c.args.self.now in (
      without_changes given,
      held_without h rule most old.committed old.pending old.list.items old.edits.items given held _ _ _ _
          (c.keep.ensures.kept ∙ c.take_pending.ensures.kept) (c.keep.ensures.same ∙ c.take_pending.ensures.gone)
          (c.keep.ensures.listed ∙ c.take_pending.ensures.listed),
      inr (refl, ap error_line c.name-in-Err-keep.ensures),
    )

pub returns-clause-answered : goal.returns-clause-answered
returns-clause-answered g c = λ given word held.
    let h : Hashing g.row.H-Digest.Denot = standard g.H.PlainHasher.digest_of g.H.Digest.Digest.bytes g.H.Digest.PartialEq.eq g.H.Digest.Digest.EMPTY in
    let rule = g.F.Family.rule in
    let most = g.F.Family.MAX_LEAVES in
    let old = c.args.self.now in
    let makes : Makes h rule (leaf_digests h rule 0 given.committed) c.in-Ok.value (changes given) = c.in-Ok.ensures.batch given held in
    let total = made_total h rule _ c.in-Ok.value (changes given) makes in
    let element = c.in-Ok-read_hex.value.items in
    let k = c.leaves-location.result in
    let count : k ≡ leaf_total c.in-Ok.value = c.leaves-location.ensures.count in
    let digest : c.leaf_digest-digest.result ≡ h.leaf (size rule k) element =
    c.leaf_digest-digest.ensures ∙ (λ i. h.leaf (c.location_to_position-position.ensures i) (c.as_slice.ensures.value i)) in
    let more : c.in-Ok-add_leaf_digest.value ≡ with_leaves c.in-Ok.value ((h.leaf (size rule (leaf_total c.in-Ok.value)) element) ∷ []) =
    c.in-Ok-add_leaf_digest.ensures.added ∙ ap (λ d. with_leaves c.in-Ok.value (d ∷ [])) (digest ∙ ap (λ n. h.leaf (size rule n) element) count) in
    let taken = c.take_pending.new.self in
    let edits : edited c.keep.new.self.list.items c.keep.new.self.edits.items ≡ leaf_digests h rule 0 (with_element (changes given) element).elements =
    (λ i. edited (c.keep.ensures.listed i) (c.in-Ok-keep.ensures.edits i)) ∙ ap (λ d. edited taken.list.items (taken.edits.items ++ (k, d) ∷ [])) digest
    ∙ edited_more h rule taken.list.items taken.edits.items (changes given) (c.take_pending.ensures.edits given held) k element (count ∙ total) in (
      with_changes given (with_element (changes given) element),
      held_with h rule most old.committed old.pending old.list.items old.edits.items given held _ c.in-Ok-add_leaf_digest.value _ _
          (with_element (changes given) element) (c.keep.ensures.kept ∙ c.take_pending.ensures.kept)
          (subst (λ b. Makes h rule (leaf_digests h rule 0 given.committed) b (with_element (changes given) element)) (sym more) (makes_more h rule _ c.in-Ok.value (changes given) makes element))
          (c.keep.ensures.listed ∙ c.take_pending.ensures.listed) edits,
      add_done (scheme_of h c.args.self.now.hasher g.F.Family.rule g.F.Family.MAX_LEAVES g.F.Family.DOMAIN) g.H.Digest.Digest.SIZE
          g.H.Digest.Digest.Spells given c.args.digits element c.as_u64.result _ c.in-Ok-read_hex.ensures.value (c.as_u64.ensures ∙ count ∙ total)
          (omega (arith, c.in-Ok-add_leaf_digest.ensures.within_max_leaves, c.as_u64.ensures, count)) refl,
    )
