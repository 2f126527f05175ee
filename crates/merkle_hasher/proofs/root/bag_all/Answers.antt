use Rattle.std.proofs.Common.{Some, arith, ap, sym, ◌∙◌}
use Rattle.std.specs.Option.{option_map_or}
use Rattle.merkle_hasher.proofs.BagLemmas.{bag_step}
use Rattle.merkle_hasher.proofs.root.bag_all.Goals as goal

pub loop-index-preserved-in-Some : goal.loop-index-preserved-in-Some
loop-index-preserved-in-Some g c =
    let f = (g.T.Hasher.hashing c.args.hasher.now).fold in
    let x = c.index-peaks-index.result in
    let step = bag_step f c.args.peaks.now c.loop-index.index x c.loop-index-test.true c.loop-index.invariant.0 c.index-peaks-index.is in
    let here = sym c.loop-index.invariant.1 ∙ c.in-Some.is in
    (omega (arith, c.loop-index.invariant.0), ap Some c.fold.ensures ∙ sym (step ∙ ap (λ o. option_map_or (λ b. Some (f x b)) o (Some x)) here))

pub loop-index-preserved : goal.loop-index-preserved
loop-index-preserved g c =
    let f = (g.T.Hasher.hashing c.args.hasher.now).fold in
    let x = c.index-peaks-index-in-None.result in
    let step = bag_step f c.args.peaks.now c.loop-index.index x c.loop-index-test.true c.loop-index.invariant.0 c.index-peaks-index-in-None.is in
    let here = sym c.loop-index.invariant.1 ∙ c.in-None.is in
    (omega (arith, c.loop-index.invariant.0), sym (step ∙ ap (λ o. option_map_or (λ b. Some (f x b)) o (Some x)) here))
