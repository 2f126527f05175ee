use Rattle.std.proofs.Common.{◌≡◌, None, length, arith, ap, ◌∙◌}
use Rattle.std.specs.Prelude.{is_some}
use Rattle.std.specs.FinMap.{from_entries, get, get-empty}
use Rattle.std.specs.Ordering.{nat_cmp}
use Rattle.merkle_batch_theory.specs.Records.{after}
use Rattle.merkle_batch.proofs.batch.UnmerkleizedBatch.new.Goals as goal

pub invariant_of-result : goal.invariant_of-result
invariant_of-result g c = record {
  bounded = omega (arith, c.leaves-leaves_before.ensures.bounded, ap length c.new.ensures.items);
  sized = c.leaves-leaves_before.ensures.sized ∙ ap (λ b. after b.own) c.deref-2.ensures;
  leaves = λ q some.
      let none : get (from_entries {R = nat_cmp} c.new-2.result.entries) q ≡ None = ap (λ es. get (from_entries {R = nat_cmp} es) q) c.new-2.ensures.empty ∙ get-empty nat_cmp q in
      absurd (let same = ap is_some none in cc);
  forgotten = omega arith;
}

pub returns : goal.returns
returns g c =
    let same : c.leaves-leaves_before.result ≡ c.args.parent.value.leaves = c.leaves-leaves_before.ensures.count ∙ ap (λ b. b.leaves) c.deref-2.ensures in
    λ i. record { parent = c.args.parent.value; leaves_before = same i; added = c.new.ensures.items i; overwritten = from_entries {R = nat_cmp} (c.new-2.ensures.empty i); forgotten = 0 }
