use Rattle.std.proofs.Common.{◌≡◌, ◌+◌, ◌++◌, ◌∷◌, [], sym, subst, take, drop, suc, Some, ap, ◌∙◌}
use Rattle.std.specs.Option.{option_map_or}
use Rattle.std.proofs.Math.Seq.{split_at}
use Rattle.std.proofs.lemmas.List.{take_more}
use Rattle.merkle_proof.specs.RangePlans.{AreAnswered}
use Rattle.merkle_root_theory.proofs.PeakValues.{zip_push}
use Rattle.merkle_proof.proofs.ReadRuns.{folded_push}
use Rattle.merkle_proof.proofs.reading.read_folded.Given as given
use Rattle.merkle_proof.proofs.reading.read_folded.Goals as goal
use Rattle.merkle_proof.proofs.reading.read_folded.Goals.{in-Some-folded, in-None}

pub loop-position-preserved : goal.loop-position-preserved
loop-position-preserved g c =
    let f = (g.H.Hasher.hashing c.args.hasher.now).fold in
    let i = c.loop-position.position-index in let ps = c.args.positions.now in let d = c.in-Some.digest in
    let w = c.loop-position.invariant in
    let more : take (i + 1) ps ≡ take i ps ++ c.position-item.result ∷ [] = take_more ps i c.position-item.result c.loop-position-test.true ∙ ap (λ x. take i ps ++ x ∷ []) (sym c.position-item.is) in
    let read = zip_push (λ p d. given.G-post g c.args.get_node.now p (Some d)) (take i ps) w.0 c.position-item.result d w.1 c.in-Some.ensures in
    let step : c.match-folded.folded ≡ option_map_or (λ a. Some (f a d)) c.loop-position.folded (Some d) = elim c.match-folded.branch [
      | in-Some-folded v ↦ v.folded-is ∙ ap Some v.fold.ensures ∙ sym (ap (λ o. option_map_or (λ a. Some (f a d)) o (Some d)) v.in-Some-folded.is)
      | in-None v ↦ v.folded-is ∙ sym (ap (λ o. option_map_or (λ a. Some (f a d)) o (Some d)) v.in-None.is)
    ] in (
      w.0 ++ d ∷ [],
      subst (λ z. AreAnswered (given.G-post g c.args.get_node.now) z (w.0 ++ d ∷ [])) (sym more) read,
      step ∙ ap (λ o. option_map_or (λ a. Some (f a d)) o (Some d)) w.2 ∙ sym (folded_push f w.0 d),
    )

pub returns-in_default-clause-err : goal.returns-in_default-clause-err
returns-in_default-clause-err g c =
    let i = c.loop-position.position-index in let ps = c.args.positions.now in
    let w = c.loop-position.invariant in
    let split = split_at ps i c.position-item.result c.loop-position-test.true ∙ ap (λ p. take i ps ++ p ∷ drop (suc i) ps) (sym c.position-item.is) in
    record { before = take i ps; after = drop (suc i) ps; digests = w.0; split = split; read = w.1; missing = c.in_default.ensures }
