use Rattle.std.proofs.Common.{◌++◌, ◌∷◌, refl, ap, sym, suc, take, drop, ◌∙◌}
use Rattle.std.proofs.Math.Seq.{split_at}
use Rattle.merkle_verification.proofs.ListedReads.{all_answered}
use Rattle.merkle_verification.proofs.readers.read_nodes.Goals as goal

pub returns-in-None-clause-err : goal.returns-in-None-clause-err
returns-in-None-clause-err g c = λ _.
    let i = c.loop-position.position-index in let ps = c.args.positions.now in
    let split = split_at ps i c.position-item.result c.loop-position-test.true ∙ ap (λ p. take i ps ++ p ∷ drop (suc i) ps) (sym c.position-item.is) in (
      c.position-item.result,
      refl,
      record {
        before = take i ps;
        after = drop (suc i) ps;
        digests = c.loop-position.digests.items;
        split = split;
        read = all_answered (g.R.Readable.node c.args.reader.now) (take i ps) c.loop-position.digests.items c.loop-position.invariant;
        missing = c.in-None.ensures;
      },
    )
