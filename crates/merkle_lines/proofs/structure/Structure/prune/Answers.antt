use Rattle.std.proofs.Common.{refl, sym, ap, subst, ◌∙◌, ◌≡◌, ◌≤◌, arith, inl, inr}
use Rattle.merkle_base.specs.Hashing.{Hashing}
use Rattle.merkle_base.specs.Scheme.{scheme_of}
use Rattle.merkle_leaves.specs.Standard.{standard}
use Rattle.std.proofs.lemmas.Bool.{cases_lt}
use Rattle.merkle_batch_theory.specs.Contents.{pruned}
use Rattle.merkle_batch_theory.specs.MemModel.{contents}
use Rattle.merkle_lines.specs.Answers.{error_line}
use Rattle.merkle_lines.specs.StructureState.{count, pruned_to}
use Rattle.merkle_lines.specs.Held.{IsStructureHeld}
use Rattle.merkle_lines.proofs.Holdings.{held_pruned}
use Rattle.merkle_lines.proofs.Replies.{prune_done, prune_out, wanting}
use Rattle.merkle_commands.specs.declared.command.Request.TheVariants.{Prune}
use Rattle.merkle_lines.proofs.structure.Structure.prune.Goals as goal

pub returns-in-Err-clause-answered : goal.returns-in-Err-clause-answered
returns-in-Err-clause-answered g c = λ given held.
    let h : Hashing g.row.H-Digest.Denot = standard g.H.PlainHasher.digest_of g.H.Digest.Digest.bytes g.H.Digest.PartialEq.eq g.H.Digest.Digest.EMPTY in
    let rule = g.F.Family.rule in
    let most = g.F.Family.MAX_LEAVES in
    let old = c.args.self.now in
    let there : c.new.result ≡ c.args.location = c.new.ensures in (
      given,
      subst (λ x. IsStructureHeld h rule most x old.pending old.list.items old.edits.items given) (sym c.in-Err.ensures.unchanged) held,
      elim (cases_lt (count given) c.args.location) [
        | inl past ↦
            prune_out (scheme_of h c.args.self.now.hasher g.F.Family.rule g.F.Family.MAX_LEAVES g.F.Family.DOMAIN) g.H.Digest.Digest.SIZE
            g.H.Digest.Digest.Spells given c.args.location c.in-Err.error _ past
            (let e = c.in-Err.ensures.refused (omega (arith, past, held.counted, there)) in let f = there in (cc)) (ap error_line c.name.ensures)
        | inr within ↦ wanting (scheme_of h c.args.self.now.hasher g.F.Family.rule g.F.Family.MAX_LEAVES g.F.Family.DOMAIN) g.H.Digest.Digest.SIZE
            g.H.Digest.Digest.Spells given (Prune c.args.location) c.in-Err.error _
            (c.in-Err.ensures.allowed (omega (arith, within, held.counted, there))) (ap error_line c.name.ensures)
      ],
    )

pub returns-clause-answered : goal.returns-clause-answered
returns-clause-answered g c = λ given held.
    let h : Hashing g.row.H-Digest.Denot = standard g.H.PlainHasher.digest_of g.H.Digest.Digest.bytes g.H.Digest.PartialEq.eq g.H.Digest.Digest.EMPTY in
    let rule = g.F.Family.rule in
    let most = g.F.Family.MAX_LEAVES in
    let old = c.args.self.now in
    let there : c.new.result ≡ c.args.location = c.new.ensures in
    let next = c.prune.new.self in
    let within : c.args.location ≤ count given =
    elim (cases_lt (count given) c.args.location) [ inl past ↦ absurd (let e = c.in-Ok.ensures.refused (omega (arith, past, held.counted, there)) in (cc)) | inr within ↦ within ] in
    let all : IsStructureHeld h rule most next old.pending old.list.items old.edits.items (pruned_to given c.args.location) =
    held_pruned h rule most old.committed old.pending old.list.items old.edits.items given held next c.args.location
    (subst (λ k. contents next ≡ pruned rule k (contents old.committed)) there c.in-Ok.ensures.pruned) c.prune.ensures.counted
    (c.in-Ok.ensures.agrees h _ held.agrees) in (
      pruned_to given c.args.location,
      all,
      prune_done (scheme_of h c.args.self.now.hasher g.F.Family.rule g.F.Family.MAX_LEAVES g.F.Family.DOMAIN) g.H.Digest.Digest.SIZE
          g.H.Digest.Digest.Spells given c.args.location c.as_u64.result c.as_u64-2.result _ within
          (c.as_u64.ensures ∙ c.pruning_boundary.ensures.boundary ∙ all.boundary) (c.as_u64-2.ensures ∙ c.leaves.ensures.count ∙ all.counted) refl,
    )
