use Rattle.std.proofs.Common.{arith, ◌≡◌, ◌∷◌, ◌<◌, subst, get_or, Fits, w8}
use Rattle.std.proofs.lemmas.Grind.{common_steps}
use Rattle.merkle_codec.proofs.NumberGroups.{group_alone, group_fits, group_before}
use Rattle.merkle_codec.proofs.number.+read_groups.Goals as goal

pub returns-then-group-lt128-clause-fits : goal.returns-then-group-lt128-clause-fits
returns-then-group-lt128-clause-fits t c = group_alone c.args.before c.in-Some.group.now c.requires c.if-group-lt128.true (λ h. grind (arith, common_steps, h))

pub overflow_mul-result : goal.overflow_mul-result
overflow_mul-result t c =
    let whole : c.args.bytes.now ≡ c.in-Some.group.now ∷ c.in-Some.rest.now = c.in-Some.ensures.cases.0 in
    let byte : c.in-Some.group.now < 256 = omega (arith, subst (λ s. Fits w8 (get_or s 0 0)) whole (c.type_inv.bytes 0)) in
    let few : c.args.before < 9 = grind (arith, common_steps) in
    omega (arith, group_fits c.args.before c.in-Some.group.now c.in-Ok.high few c.if-group-lt128.false byte c.in-Ok.ensures.fits)

pub overflow_add-result : goal.overflow_add-result
overflow_add-result t c =
    let whole : c.args.bytes.now ≡ c.in-Some.group.now ∷ c.in-Some.rest.now = c.in-Some.ensures.cases.0 in
    let byte : c.in-Some.group.now < 256 = omega (arith, subst (λ s. Fits w8 (get_or s 0 0)) whole (c.type_inv.bytes 0)) in
    let few : c.args.before < 9 = grind (arith, common_steps) in
    omega (arith, group_fits c.args.before c.in-Some.group.now c.in-Ok.high few c.if-group-lt128.false byte c.in-Ok.ensures.fits)

pub returns-in-Ok-clause-fits : goal.returns-in-Ok-clause-fits
returns-in-Ok-clause-fits t c =
    let whole : c.args.bytes.now ≡ c.in-Some.group.now ∷ c.in-Some.rest.now = c.in-Some.ensures.cases.0 in
    let byte : c.in-Some.group.now < 256 = omega (arith, subst (λ s. Fits w8 (get_or s 0 0)) whole (c.type_inv.bytes 0)) in
    let few : c.args.before < 9 = grind (arith, common_steps) in
    group_before c.args.before c.in-Some.group.now c.in-Ok.high few c.if-group-lt128.false byte c.in-Ok.ensures.fits
