use Rattle.std.proofs.Common.{◌≡◌, ◌+◌, ◌++◌, ◌∷◌, [], append_assoc, arith, sym, subst, take, drop, suc, Some, ap, ◌∙◌}
use Rattle.std.proofs.Math.Seq.{split_at}
use Rattle.std.proofs.lemmas.List.{take_more}
use Rattle.merkle_proof.specs.RangePlans.{AreAnswered}
use Rattle.merkle_root_theory.proofs.PeakValues.{zip_push}
use Rattle.merkle_proof.proofs.reading.read_each.Given as given
use Rattle.merkle_proof.proofs.reading.read_each.Goals as goal

pub loop-position-preserved : goal.loop-position-preserved
loop-position-preserved g c =
    let i = c.loop-position.position-index in let ps = c.args.positions.now in let d = c.in-Some.digest in
    let w = c.loop-position.invariant in
    let more : take (i + 1) ps ≡ take i ps ++ c.position-item.result ∷ [] = take_more ps i c.position-item.result c.loop-position-test.true ∙ ap (λ x. take i ps ++ x ∷ []) (sym c.position-item.is) in
    let read = zip_push (λ p d. given.G-post g c.args.get_node.now p (Some d)) (take i ps) w.0.0 c.position-item.result d w.0.1 c.in-Some.ensures in (
      (
        w.0.0 ++ d ∷ [],
        subst (λ z. AreAnswered (given.G-post g c.args.get_node.now) z (w.0.0 ++ d ∷ [])) (sym more) read,
        c.push_reserved.ensures.items ∙ ap (λ z. z ++ d ∷ []) w.0.2 ∙ append_assoc c.args.out.now.items w.0.0 (d ∷ []),
      ),
      omega (arith, c.push_reserved.ensures.len, w.1),
      omega (arith, c.push_reserved.ensures.capacity, w.2),
    )

pub returns-in_default-clause-err : goal.returns-in_default-clause-err
returns-in_default-clause-err g c =
    let i = c.loop-position.position-index in let ps = c.args.positions.now in
    let w = c.loop-position.invariant in
    let split = split_at ps i c.position-item.result c.loop-position-test.true ∙ ap (λ p. take i ps ++ p ∷ drop (suc i) ps) (sym c.position-item.is) in
    record { before = take i ps; after = drop (suc i) ps; digests = w.0.0; split = split; read = w.0.1; missing = c.in_default.ensures }
