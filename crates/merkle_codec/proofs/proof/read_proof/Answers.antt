use Rattle.std.proofs.Common.{arith, ◌-◌, ◌^◌, ◌<◌, ◌≤◌, inr}
use Rattle.merkle_codec.specs.NumberLaws.{lawful_locations}
use Rattle.merkle_codec.proofs.proof.read_proof.Goals as goal

pub returns-in-Err-clause-refused : goal.returns-in-Err-clause-refused
returns-in-Err-clause-refused g c =
    let F = g.F.Family in
    let l = c.in_ok-leaves in
    let i = c.in_ok-inactive in
    let first : l.leaves ≤ F.MAX_LEAVES = omega (arith, l.ensures.within, c.MAX_LEAVES.ensures) in
    let fits : l.leaves < 2 ^ 64 = omega (arith, first, lawful_locations F.rule F.MAX_LEAVES F.MAX_NODES g.met.F.Family.lawful) in
    let second : i.inactive ≤ 2 ^ 64 - 1 = omega (arith, i.ensures.within) in
    let small : i.inactive < 2 ^ 64 = omega (arith, second) in
    inr (l.leaves, l.rest.now, fits, l.ensures.read, (first, inr (i.inactive, i.rest.now, small, i.ensures.read, (second, c.in-Err.ensures.refused))))
