use Rattle.std.proofs.Common.{refl, sym, ap, subst, ◌∙◌, ◌≡◌, List, length, ◌∷◌, [], ◌++◌, Ok, true, arith, inl, inr}
use Rattle.merkle_base.specs.Hashing.{Hashing}
use Rattle.merkle_base.specs.Scheme.{scheme_of}
use Rattle.merkle_leaves.specs.Standard.{standard}
use Rattle.merkle_hasher.specs.LeafDigests.{leaf_digests}
use Rattle.std.specs.Prelude.{is_some}
use Rattle.merkle_base.specs.Forest.{size}
use Rattle.merkle_base.specs.declared.error.Error.TheVariants.{OutOfMemory}
use Rattle.merkle_batch_theory.specs.Contents.{held_peaks}
use Rattle.merkle_batch_theory.specs.Replay.{applied, matched}
use Rattle.merkle_batch_theory.specs.MemModel.{contents}
use Rattle.merkle_batch_theory.specs.Unmerkleized.{kept_lists, pending_list}
use Rattle.merkle_batch_theory.specs.Records.{MerkleizedModel, records}
use Rattle.merkle_batch_theory.specs.History.{IsHistory}
use Rattle.merkle_lines.specs.Answers.{error_line}
use Rattle.merkle_lines.specs.StructureState.{all_committed, changes, without_changes}
use Rattle.merkle_lines.specs.Held.{IsStructureHeld, Makes, edited}
use Rattle.merkle_lines.proofs.Commits.{held_lost, lost_held}
use Rattle.merkle_lines.proofs.Holdings.{held_all, held_without, list_count}
use Rattle.merkle_lines.proofs.Making.{made_accepted, made_applied, made_base, made_stands, made_total}
use Rattle.merkle_lines.proofs.Replies.{commit_done, commit_lost, wanting}
use Rattle.merkle_commands.specs.declared.command.Request.TheVariants.{Commit}
use Rattle.merkle_lines.proofs.structure.Structure.commit.Goals as goal

pub returns-in-Err-clause-answered : goal.returns-in-Err-clause-answered
returns-in-Err-clause-answered g c = λ given held.
    let h : Hashing g.row.H-Digest.Denot = standard g.H.PlainHasher.digest_of g.H.Digest.Digest.bytes g.H.Digest.PartialEq.eq g.H.Digest.Digest.EMPTY in
    let rule = g.F.Family.rule in
    let most = g.F.Family.MAX_LEAVES in
    let old = c.args.self.now in (
      without_changes given,
      held_without h rule most old.committed old.pending old.list.items old.edits.items given held _ _ _ _
          c.take_pending.ensures.kept c.take_pending.ensures.gone c.take_pending.ensures.listed,
      wanting (scheme_of h c.args.self.now.hasher g.F.Family.rule g.F.Family.MAX_LEAVES g.F.Family.DOMAIN) g.H.Digest.Digest.SIZE
          g.H.Digest.Digest.Spells given Commit c.in-Err.error _ c.in-Err.ensures.refused (ap error_line c.name.ensures),
    )

pub returns-in-Err-merkleize-clause-answered : goal.returns-in-Err-merkleize-clause-answered
returns-in-Err-merkleize-clause-answered g c = λ given held.
    let h : Hashing g.row.H-Digest.Denot = standard g.H.PlainHasher.digest_of g.H.Digest.Digest.bytes g.H.Digest.PartialEq.eq g.H.Digest.Digest.EMPTY in
    let rule = g.F.Family.rule in
    let most = g.F.Family.MAX_LEAVES in
    let old = c.args.self.now in
    let makes : Makes h rule (leaf_digests h rule 0 given.committed) c.in-Ok.value (changes given) = c.in-Ok.ensures.batch given held in
    let here : c.take_pending.new.self.committed ≡ old.committed = c.take_pending.ensures.kept in (
      without_changes given,
      held_without h rule most old.committed old.pending old.list.items old.edits.items given held _ _ _ _ c.take_pending.ensures.kept c.take_pending.ensures.gone c.take_pending.ensures.listed,
      elim c.in-Err-merkleize.ensures.refused [
        | inl memory ↦ wanting (scheme_of h c.args.self.now.hasher g.F.Family.rule g.F.Family.MAX_LEAVES g.F.Family.DOMAIN) g.H.Digest.Digest.SIZE
            g.H.Digest.Digest.Spells given Commit c.in-Err-merkleize.error _ memory (ap error_line c.name-in-Err-merkleize.ensures)
        | inr (t, is, missing) ↦
            commit_lost (scheme_of h c.args.self.now.hasher g.F.Family.rule g.F.Family.MAX_LEAVES g.F.Family.DOMAIN) g.H.Digest.Digest.SIZE
            g.H.Digest.Digest.Spells given c.in-Err-merkleize.error t _
            (held_lost h rule most c.take_pending.new.self.committed old.pending old.list.items old.edits.items given
            (subst (λ x. IsStructureHeld h rule most x old.pending old.list.items old.edits.items given) (sym here) held) c.in-Ok.value makes t
            missing) is (ap error_line c.name-in-Err-merkleize.ensures)
      ],
    )

pub returns-then-is_err-clause-answered : goal.returns-then-is_err-clause-answered
returns-then-is_err-clause-answered g c = λ given held.
    let h : Hashing g.row.H-Digest.Denot = standard g.H.PlainHasher.digest_of g.H.Digest.Digest.bytes g.H.Digest.PartialEq.eq g.H.Digest.Digest.EMPTY in
    let rule = g.F.Family.rule in
    let most = g.F.Family.MAX_LEAVES in
    let old = c.args.self.now in (
      without_changes given,
      held_without h rule most old.committed old.pending old.list.items old.edits.items given held _ _ _ _
          c.take_pending.ensures.kept c.take_pending.ensures.gone (c.reserve.ensures.items ∙ c.take_pending.ensures.listed),
      inr (refl, refl),
    )

pub returns-in-Err-apply_batch-clause-answered : goal.returns-in-Err-apply_batch-clause-answered
returns-in-Err-apply_batch-clause-answered g c = λ given held.
    let h : Hashing g.row.H-Digest.Denot = standard g.H.PlainHasher.digest_of g.H.Digest.Digest.bytes g.H.Digest.PartialEq.eq g.H.Digest.Digest.EMPTY in
    let rule = g.F.Family.rule in
    let most = g.F.Family.MAX_LEAVES in
    let old = c.args.self.now in
    let makes : Makes h rule (leaf_digests h rule 0 given.committed) c.in-Ok.value (changes given) = c.in-Ok.ensures.batch given held in
    let new = c.take_pending.new.self in
    let same : new.committed ≡ old.committed = c.take_pending.ensures.kept in
    let held-new : IsStructureHeld h rule most new.committed old.pending old.list.items old.edits.items given =
    subst (λ x. IsStructureHeld h rule most x old.pending old.list.items old.edits.items given) (sym same) held in
    let list : List g.row.H-Digest.Denot = leaf_digests h rule 0 given.committed in
    let chain : MerkleizedModel g.row.H-Digest.Denot = c.deref.result.now in
    let is : chain ≡ c.in-Ok-merkleize.value.value = c.deref.ensures in
    let stands : IsHistory h rule (records chain) (kept_lists c.in-Ok.value (list ∷ list ∷ []) ++ pending_list rule c.in-Ok.value list ∷ []) =
    subst (λ k. IsHistory h rule (records k) (kept_lists c.in-Ok.value (list ∷ list ∷ []) ++ pending_list rule c.in-Ok.value list ∷ [])) (sym is)
    (c.in-Ok-merkleize.ensures.history (list ∷ list ∷ []) (made_stands h rule list c.in-Ok.value (changes given) makes)
    (made_base h rule list c.in-Ok.value (changes given) makes new.committed held-new.agrees)) in
    let counted : new.committed.leaves ≡ length list = list_count h rule most new.committed old.pending old.list.items old.edits.items given held-new in
    let memory : c.in-Err-apply_batch.error ≡ OutOfMemory =
    c.in-Err-apply_batch.ensures.accepted
    (subst (λ n. is_some (matched h.same new.committed.size (held_peaks rule n (contents new.committed)) chain) ≡ true) (sym counted)
    (made_accepted h rule list c.in-Ok.value (changes given) makes new.committed held-new.agrees chain stands g.met.H.Digest.Digest.eq_decides)) in (
      without_changes given,
      held_without h rule most old.committed old.pending old.list.items old.edits.items given held _ _ _ _
          (c.in-Err-apply_batch.ensures.unchanged ∙ same) c.take_pending.ensures.gone (c.reserve.ensures.items ∙ c.take_pending.ensures.listed),
      wanting (scheme_of h c.args.self.now.hasher g.F.Family.rule g.F.Family.MAX_LEAVES g.F.Family.DOMAIN) g.H.Digest.Digest.SIZE
          g.H.Digest.Digest.Spells given Commit c.in-Err-apply_batch.error _ memory (ap error_line c.name-in-Err-apply_batch.ensures),
    )

pub returns-clause-answered : goal.returns-clause-answered
returns-clause-answered g c = λ given held.
    let h : Hashing g.row.H-Digest.Denot = standard g.H.PlainHasher.digest_of g.H.Digest.Digest.bytes g.H.Digest.PartialEq.eq g.H.Digest.Digest.EMPTY in
    let rule = g.F.Family.rule in
    let most = g.F.Family.MAX_LEAVES in
    let old = c.args.self.now in
    let makes : Makes h rule (leaf_digests h rule 0 given.committed) c.in-Ok.value (changes given) = c.in-Ok.ensures.batch given held in
    let new = c.take_pending.new.self in
    let same : new.committed ≡ old.committed = c.take_pending.ensures.kept in
    let held-new : IsStructureHeld h rule most new.committed old.pending old.list.items old.edits.items given =
    subst (λ x. IsStructureHeld h rule most x old.pending old.list.items old.edits.items given) (sym same) held in
    let list : List g.row.H-Digest.Denot = leaf_digests h rule 0 given.committed in
    let chain : MerkleizedModel g.row.H-Digest.Denot = c.deref.result.now in
    let is : chain ≡ c.in-Ok-merkleize.value.value = c.deref.ensures in
    let stands : IsHistory h rule (records chain) (kept_lists c.in-Ok.value (list ∷ list ∷ []) ++ pending_list rule c.in-Ok.value list ∷ []) =
    subst (λ k. IsHistory h rule (records k) (kept_lists c.in-Ok.value (list ∷ list ∷ []) ++ pending_list rule c.in-Ok.value list ∷ [])) (sym is)
    (c.in-Ok-merkleize.ensures.history (list ∷ list ∷ []) (made_stands h rule list c.in-Ok.value (changes given) makes)
    (made_base h rule list c.in-Ok.value (changes given) makes new.committed held-new.agrees)) in
    let counted : new.committed.leaves ≡ length list = list_count h rule most new.committed old.pending old.list.items old.edits.items given held-new in
    let next = c.apply_batch.new.self in
    let done = made_applied h rule list c.in-Ok.value (changes given) makes new.committed held-new.agrees chain stands (contents next)
    (ap (λ (k : MerkleizedModel g.row.H-Digest.Denot). k.ancestors) is ∙ c.in-Ok-merkleize.ensures.fork.2)
    (subst (λ n. applied {F = g.row.F.Denot} h.same rule n chain (contents new.committed) ≡ Ok (contents next)) counted c.in-Ok-apply_batch.ensures.done) in
    let leaves : next.leaves ≡ length (changes given).elements =
    c.in-Ok-apply_batch.ensures.counted ∙ ap (λ (k : MerkleizedModel g.row.H-Digest.Denot). k.leaves) is ∙ c.in-Ok-merkleize.ensures.counted.0
    ∙ made_total h rule list c.in-Ok.value (changes given) makes in
    let listed = c.edit.ensures ∙ (λ i. edited (c.reserve.ensures.items i) (c.deref-2.ensures.value i)) ∙ c.take_pending.ensures.edits given held in
    let none = lost_held h rule most new.committed old.pending old.list.items old.edits.items given held-new c.in-Ok.value makes c.in-Ok-merkleize.ensures.complete in (
      all_committed given,
      held_all h rule most new.committed old.pending old.list.items old.edits.items given held-new next _ _ _ c.take_pending.ensures.gone leaves
          (omega (arith, c.leaves.ensures.count, c.leaves.ensures.bounded)) done.0 done.1 listed,
      commit_done (scheme_of h c.args.self.now.hasher g.F.Family.rule g.F.Family.MAX_LEAVES g.F.Family.DOMAIN) g.H.Digest.Digest.SIZE
          g.H.Digest.Digest.Spells given c.as_u64.result c.as_u64-2.result _ none (c.as_u64.ensures ∙ c.leaves.ensures.count ∙ leaves)
          (c.as_u64-2.ensures ∙ c.size.ensures ∙ sym c.leaves.ensures.sized ∙ ap (size rule) (c.leaves.ensures.count ∙ leaves)) refl,
    )
