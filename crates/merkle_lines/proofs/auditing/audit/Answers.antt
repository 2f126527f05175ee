use Rattle.std.proofs.Common.{◌≡◌, map, sym, ap, subst, inl, inr, ◌∙◌}
use Rattle.merkle_base.specs.Scheme.{scheme_of}
use Rattle.merkle_leaves.specs.Standard.{standard}
use Rattle.merkle_lines.specs.Answers.{word_bytes, IsAudited}
use Rattle.merkle_lines.specs.AnswerText.{answer_text}
use Rattle.merkle_lines.proofs.Replies.{read_bytes}
use Rattle.merkle_lines.proofs.auditing.audit.Goals as goal

pub returns : goal.returns
returns g c = λ given is few proof-word words.
    let s = (scheme_of (standard g.H.PlainHasher.digest_of g.H.Digest.Digest.bytes g.H.Digest.PartialEq.eq g.H.Digest.Digest.EMPTY) c.args.hasher.now
    g.F.Family.rule g.F.Family.MAX_LEAVES g.F.Family.DOMAIN) in
    let bytes : c.as_slice.result.now ≡ word_bytes c.args.proof.now = c.as_slice.ensures.value ∙ sym (read_bytes c.args.proof.now _ c.in-Ok.ensures.value) in
    let elements = ap (map (λ bytes. bytes.items)) c.as_slice-2.ensures.value ∙ c.in-Ok-read_elements.ensures.value words in
    elim (c.audited.ensures given is few) [
      | inl told ↦
          inl (subst (λ es. IsAudited s g.H.Digest.Digest.SIZE g.H.Digest.Digest.Spells given c.args.start c.args.inactive (word_bytes c.args.proof.now) es (answer_text c.audited.result)) elements
          (subst (λ b. IsAudited s g.H.Digest.Digest.SIZE g.H.Digest.Digest.Spells given c.args.start c.args.inactive b
          (map (λ bytes. bytes.items) c.as_slice-2.result.now) (answer_text c.audited.result)) bytes told))
      | inr memory ↦ inr memory
    ]
