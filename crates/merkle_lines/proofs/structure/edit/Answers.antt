use Rattle.std.proofs.Common.{◌≡◌, ◌+◌, ◌∷◌, [], drop, suc, arith, sym, ap, ◌∙◌, add-one}
use Rattle.std.proofs.Math.Seq.{drop-cons}
use Rattle.std.proofs.lemmas.List.{at_drop_all}
use Rattle.merkle_lines.specs.Held.{edited}
use Rattle.merkle_lines.proofs.structure.edit.Goals as goal

pub loop-location-preserved : goal.loop-location-preserved
loop-location-preserved g c =
    let es = c.args.edits.now in
    let i = c.loop-location.location-index in
    let e = c.loop-location-item.result in
    let now = c.loop-location.list.items in
    let next : edited now (drop i es) ≡ edited (edited now (e ∷ [])) (drop (i + 1) es) =
    ap (edited now) (drop-cons es i e c.loop-location-test.true) ∙ ap (λ u. edited now (u ∷ drop (suc i) es)) (sym c.loop-location-item.is)
    ∙ ap (λ n. edited (edited now (e ∷ [])) (drop n es)) (sym (add-one i)) in
    record {
      left = c.loop-location.invariant.left ∙ next ∙ ap (λ xs. edited xs (drop (i + 1) es)) (sym c.put.ensures.items);
      room = omega (arith, c.loop-location.invariant.room, c.put.ensures.len, c.put.ensures.capacity, c.loop-location-test.true);
    }

pub put-requires : goal.put-requires
put-requires g c = omega (arith, c.loop-location.invariant.room, c.loop-location-test.true)

pub returns : goal.returns
returns g c = sym (c.loop-location.invariant.left ∙ at_drop_all (edited c.loop-location.list.items) c.args.edits.now c.loop-location.location-index c.loop-location-test.false)
