use Rattle.std.proofs.Common.{sym, ap, subst, ◌∙◌, ◌≡◌, ℕ, List, [], ◌++◌, rules, arith, inl, inr, cond, slice_get, None}
use Rattle.std.specs.String.{string_bytes}
use Rattle.hex.specs.Hex.{encode_lower}
use Rattle.merkle_base.specs.Hashing.{Hashing}
use Rattle.merkle_base.specs.Scheme.{scheme_of}
use Rattle.std.specs.FinMap.{get}
use Rattle.merkle_codec.specs.ProofSpelling.{parts_spelling, proof_spelling}
use Rattle.merkle_leaves.specs.Standard.{standard}
use Rattle.merkle_hasher.specs.LeafDigests.{leaf_digests}
use Rattle.merkle_hasher.proofs.LeafDigests.{length-leaf_digests}
use Rattle.merkle_base.specs.Digests.{node_digests}
use Rattle.merkle_batch_theory.specs.Contents.{is_kept}
use Rattle.merkle_proof.specs.ProofRefusals.{IsRangeRefusal}
use Rattle.merkle_proof.proofs.BuiltReads.{built_reads_all}
use Rattle.merkle_proof.proofs.RefusedProofs.{is_memory}
use Rattle.merkle_commands.specs.declared.command.Request.TheVariants.{Prove}
use Rattle.merkle_lines.specs.Answers.{error_line, kept_node, IsRequestAnswered}
use Rattle.merkle_lines.proofs.Proving.{honest_parts}
use Rattle.merkle_lines.proofs.Replies.{prove_refused, prove_told, wanting}
use Rattle.merkle_lines.proofs.structure.Structure.prove.Goals as goal

pub returns-in-Err : goal.returns-in-Err
returns-in-Err g c = λ given held.
    let h : Hashing g.row.H-Digest.Denot = standard g.H.PlainHasher.digest_of g.H.Digest.Digest.bytes g.H.Digest.PartialEq.eq g.H.Digest.Digest.EMPTY in
    let rule = g.F.Family.rule in
    let most = g.F.Family.MAX_LEAVES in
    let old = c.args.self.now in
    let here : (p : ℕ) → get old.committed.stored p ≡ kept_node (scheme_of h c.args.self.now.hasher g.F.Family.rule g.F.Family.MAX_LEAVES g.F.Family.DOMAIN) given p =
    (λ p. held.agrees.holds p ∙ ap (λ b. cond (is_kept rule b p) (slice_get (node_digests h rule (leaf_digests h rule 0 given.committed)) p) None) held.boundary) in
    elim (is_memory c.in-Err.error) [
      | inl other ↦ prove_refused (scheme_of h c.args.self.now.hasher g.F.Family.rule g.F.Family.MAX_LEAVES g.F.Family.DOMAIN) g.H.Digest.Digest.SIZE
          g.H.Digest.Digest.Spells given (get old.committed.stored) here old.committed.leaves held.counted (omega (arith, held.counted, held.bounded))
          c.args.start c.args.end c.args.inactive c.in-Err.error _
          (subst (λ a. IsRangeRefusal c.args.self.now.hasher rule most old.committed.leaves a c.args.end c.args.inactive (get old.committed.stored)
          c.in-Err.error) c.new.ensures
          (subst (λ b. IsRangeRefusal c.args.self.now.hasher rule most old.committed.leaves c.new.result b c.args.inactive (get old.committed.stored)
          c.in-Err.error) c.new-2.ensures (c.in-Err.ensures.err other))) (ap error_line c.name.ensures)
      | inr memory ↦ wanting (scheme_of h c.args.self.now.hasher g.F.Family.rule g.F.Family.MAX_LEAVES g.F.Family.DOMAIN) g.H.Digest.Digest.SIZE
          g.H.Digest.Digest.Spells given (Prove c.args.start c.args.end c.args.inactive) c.in-Err.error _ memory (ap error_line c.name.ensures)
    ]

pub returns : goal.returns
returns g c = λ given held.
    let h : Hashing g.row.H-Digest.Denot = standard g.H.PlainHasher.digest_of g.H.Digest.Digest.bytes g.H.Digest.PartialEq.eq g.H.Digest.Digest.EMPTY in
    let rule = g.F.Family.rule in
    let most = g.F.Family.MAX_LEAVES in
    let old = c.args.self.now in
    let s = scheme_of h old.hasher rule most g.F.Family.DOMAIN in
    let here : (p : ℕ) → get old.committed.stored p ≡ kept_node s given p =
    (λ p. held.agrees.holds p ∙ ap (λ b. cond (is_kept rule b p) (slice_get (node_digests h rule (leaf_digests h rule 0 given.committed)) p) None) held.boundary) in
    let list : List g.row.H-Digest.Denot = leaf_digests h rule 0 given.committed in
    let counted = length-leaf_digests h rule 0 given.committed in
    let fresh : c.new-bytes.result.items ≡ [] = search rules in
    let p = c.in-Ok.value in
    let honest = c.in-Ok.ensures.honest list held.agrees in
    let parts = honest_parts s list c.args.inactive c.new.result c.new-2.result p.leaves p.inactive_peaks p.digests.items honest.0 honest.1 honest.2 in
    let text : string_bytes c.in-Ok-write_hex.value ≡ encode_lower (parts_spelling h.bytes p.leaves p.inactive_peaks p.digests.items) =
    c.in-Ok-write_hex.ensures.digits ∙ ap encode_lower (c.as_slice.ensures.value ∙ c.in-Ok-write.ensures.ok ∙ ap (λ bytes. bytes ++ proof_spelling h.bytes p) fresh) in
    subst (λ a. IsRequestAnswered (scheme_of h c.args.self.now.hasher g.F.Family.rule g.F.Family.MAX_LEAVES g.F.Family.DOMAIN) g.H.Digest.Digest.SIZE
    g.H.Digest.Digest.Spells given (Prove a c.args.end c.args.inactive) given (string_bytes c.in-Ok-write_hex.value)) c.new.ensures
    (subst (λ b. IsRequestAnswered (scheme_of h c.args.self.now.hasher g.F.Family.rule g.F.Family.MAX_LEAVES g.F.Family.DOMAIN) g.H.Digest.Digest.SIZE
    g.H.Digest.Digest.Spells given (Prove c.new.result b c.args.inactive) given (string_bytes c.in-Ok-write_hex.value)) c.new-2.ensures
    (prove_told (scheme_of h c.args.self.now.hasher g.F.Family.rule g.F.Family.MAX_LEAVES g.F.Family.DOMAIN) g.H.Digest.Digest.SIZE
    g.H.Digest.Digest.Spells given (get old.committed.stored) here old.committed.leaves held.counted (omega (arith, held.counted, held.bounded))
    c.new.result c.new-2.result c.args.inactive
    (λ q gap. built_reads_all s (get old.committed.stored) c.args.inactive _ p c.in-Ok.ensures.built.2 q gap) p.leaves p.inactive_peaks
    p.digests.items _ honest.0 (omega (arith, honest.1, counted)) (parts.0 ∙ counted ∙ sym held.counted) parts.1 c.in-Ok.ensures.built.2.enough_peaks parts.2 text))
