use Rattle.std.proofs.Common.{◌-◌, ◌∷◌, arith, sym, subst, drop, Some, ap, ◌∙◌, vec_len, vec_capacity}
use Rattle.std.specs.Option.{option_map_or}
use Rattle.std.proofs.lemmas.List.{length-drop}
use Rattle.std.proofs.lemmas.Slice.Zip.{AllZip-long}
use Rattle.merkle_proof.specs.RangePlans.{AreAnswered}
use Rattle.merkle_proof.proofs.ReadRuns.{drop_back, missing_reversed, right_fold_some, right_fold_none}
use Rattle.merkle_proof.proofs.reading.read_bagged.Given as given
use Rattle.merkle_proof.proofs.reading.read_bagged.Goals as goal
use Rattle.merkle_proof.proofs.reading.read_bagged.Goals.{in-Some-bagged-2, in_default-bagged}

pub returns-in_default-clause-err : goal.returns-in_default-clause-err
returns-in_default-clause-err g c =
    let i = c.loop-index.index in let ps = c.args.positions.now in let p = c.index-positions-index.result in
    let w = c.loop-index.invariant in
    let split = drop_back ps i p c.loop-index-test.true w.0 c.index-positions-index.is in
    missing_reversed (given.G-post g c.args.get_node.now) ps (drop i ps) (i - 1) p w.1 split w.2 c.in_default.ensures

pub loop-index-preserved-in-Some-bagged : goal.loop-index-preserved-in-Some-bagged
loop-index-preserved-in-Some-bagged g c =
    let f = (g.H.Hasher.hashing c.args.hasher.now).fold in
    let i = c.loop-index.index in let ps = c.args.positions.now in let d = c.in-Some.digest in
    let w = c.loop-index.invariant in
    let split = drop_back ps i c.index-positions-index.result c.loop-index-test.true w.0 c.index-positions-index.is in (
      omega (arith, w.0),
      d ∷ w.1,
      subst (λ z. AreAnswered (given.G-post g c.args.get_node.now) z (d ∷ w.1)) (sym split) (c.in-Some.ensures, w.2),
      ap Some c.fold.ensures ∙ sym (ap (λ o. option_map_or (λ b. Some (f d b)) o (Some d)) (sym w.3 ∙ c.in-Some-bagged.is)),
    )

pub loop-index-preserved : goal.loop-index-preserved
loop-index-preserved g c =
    let f = (g.H.Hasher.hashing c.args.hasher.now).fold in
    let i = c.loop-index.index in let ps = c.args.positions.now in let d = c.in-Some.digest in
    let w = c.loop-index.invariant in
    let split = drop_back ps i c.index-positions-index.result c.loop-index-test.true w.0 c.index-positions-index.is in (
      omega (arith, w.0),
      d ∷ w.1,
      subst (λ z. AreAnswered (given.G-post g c.args.get_node.now) z (d ∷ w.1)) (sym split) (c.in-Some.ensures, w.2),
      sym (ap (λ o. option_map_or (λ b. Some (f d b)) o (Some d)) (sym w.3 ∙ c.in-None.is)),
    )

pub returns-clause-room : goal.returns-clause-room
returns-clause-room g c =
    let f = (g.H.Hasher.hashing c.args.hasher.now).fold in
    let i = c.loop-index.index in let ps = c.args.positions.now in
    let w = c.loop-index.invariant in
    let long = AllZip-long _ (drop i ps) w.1 w.2 in
    elim c.match-bagged-2.branch [
      | in-Some-bagged-2 v ↦ (
        ap vec_len v.out-is ∙ omega (
          arith,
          v.push_reserved.ensures.len,
          long,
          length-drop i ps,
          c.loop-index-test.false,
          right_fold_some f w.1 v.in-Some-bagged-2.digest (sym w.3 ∙ v.in-Some-bagged-2.is),
        ),
        ap vec_capacity v.out-is ∙ v.push_reserved.ensures.capacity,
      )
      | in_default-bagged v ↦ (
        ap vec_len v.out-is ∙ omega (arith, long, length-drop i ps, c.loop-index-test.false, right_fold_none f w.1 (sym w.3 ∙ v.in_default-bagged.is)),
        ap vec_capacity v.out-is,
      )
    ]
