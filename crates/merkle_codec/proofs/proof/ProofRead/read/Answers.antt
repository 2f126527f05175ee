use Rattle.std.proofs.Common.{◌≡◌, sym, ◌∙◌}
use Rattle.merkle_base.specs.declared.error.DecodeError.TheVariants.{OutOfMemory}
use Rattle.merkle_codec.specs.NumberLaws.{lawful_locations}
use Rattle.merkle_codec.specs.ProofLaws.{IsProofReadRefusal_of_spelling, proof_spelling_once}
use Rattle.merkle_codec.proofs.proof.ProofRead.read.Goals as goal

pub returns-in-Err-clause-written : goal.returns-in-Err-clause-written
returns-in-Err-clause-written g c p rest within e =
    let D = g.met.D.Digest in
    let F = g.F.Family in
    let bytes = g.D.Digest.bytes in
    let fits = lawful_locations F.rule F.MAX_LEAVES F.MAX_NODES g.met.F.Family.lawful in
    let memory : c.in-Err.error ≡ OutOfMemory =
    IsProofReadRefusal_of_spelling bytes g.D.Digest.SIZE (λ x. D.one_length (bytes x) (D.bytes_spell x)) g.D.Digest.Spells D.bytes_spell
    F.MAX_LEAVES c.args.max_digests.now fits c.args.input.now.now c.in-Err.error c.in-Err.ensures.refused p rest within e in
    (tt, memory)

pub returns-in-Ok-clause-written : goal.returns-in-Ok-clause-written
returns-in-Ok-clause-written g c p rest within e =
    let D = g.met.D.Digest in
    let bytes = g.D.Digest.bytes in
    (proof_spelling_once bytes g.D.Digest.SIZE (λ x. D.one_length (bytes x) (D.bytes_spell x)) D.bytes_decide c.in-Ok.proof p c.in-Ok.rest.now rest (sym c.in-Ok.ensures.read ∙ e), tt)
