use Rattle.std.proofs.Common.{◌≡◌, map, sym, ap, subst, inl, inr, ◌∙◌}
use Rattle.merkle_base.specs.Scheme.{scheme_of}
use Rattle.merkle_leaves.specs.Standard.{standard}
use Rattle.merkle_lines.specs.Answers.{word_bytes, IsRead}
use Rattle.merkle_lines.specs.AnswerText.{answer_text}
use Rattle.merkle_lines.proofs.Replies.{read_bytes}
use Rattle.merkle_lines.proofs.checking.check.Goals as goal

pub returns : goal.returns
returns g c = λ root-word proof-word words.
    let root : g.H.Digest.Digest.bytes c.in-Some.root ≡ word_bytes c.args.root.now = c.in-Some.ensures ∙ c.as_slice.ensures.value ∙ sym (read_bytes c.args.root.now _ c.in-Ok.ensures.value) in
    let bytes : c.as_slice-2.result.now ≡ word_bytes c.args.proof.now = c.as_slice-2.ensures.value ∙ sym (read_bytes c.args.proof.now _ c.in-Ok-read_hex.ensures.value) in
    let elements = ap (map (λ bytes. bytes.items)) c.as_slice-3.ensures.value ∙ c.in-Ok-read_elements.ensures.value words in
    elim c.verdict.ensures [
      | inr memory ↦ inr memory
      | inl read ↦
          inl (inr (
            c.in-Some.root,
            root,
            subst (λ es. IsRead (scheme_of
                (standard g.H.PlainHasher.digest_of g.H.Digest.Digest.bytes g.H.Digest.PartialEq.eq g.H.Digest.Digest.EMPTY) c.args.hasher.now
                g.F.Family.rule g.F.Family.MAX_LEAVES g.F.Family.DOMAIN) g.H.Digest.Digest.SIZE g.H.Digest.Digest.Spells c.args.start c.args.inactive
                c.in-Some.root (word_bytes c.args.proof.now) es (answer_text c.verdict.result)) elements
                (subst (λ b. IsRead (scheme_of
                (standard g.H.PlainHasher.digest_of g.H.Digest.Digest.bytes g.H.Digest.PartialEq.eq g.H.Digest.Digest.EMPTY) c.args.hasher.now
                g.F.Family.rule g.F.Family.MAX_LEAVES g.F.Family.DOMAIN) g.H.Digest.Digest.SIZE g.H.Digest.Digest.Spells c.args.start
                c.args.inactive c.in-Some.root b (map (λ bytes. bytes.items) c.as_slice-3.result.now) (answer_text c.verdict.result)) bytes read),
          ))
    ]
