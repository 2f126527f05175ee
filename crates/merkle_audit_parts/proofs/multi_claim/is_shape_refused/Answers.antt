use Rattle.std.proofs.Common.{rules, ◌≡◌, ◌<◌, IsTrue, length, arith, ap, ap₂, sym, subst, ◌∙◌}
use Rattle.std.proofs.lemmas.List.{length-map}
use Rattle.std.proofs.lemmas.Result.{IfOk-weaker}
use Rattle.std.specs.List.{AllByRecursion}
use Rattle.std.specs.Prelude.{not}
use Rattle.std.specs.Vec.{vec_len}
use Rattle.merkle_forest_theory.specs.Ascending.{AscendsFrom}
use Rattle.merkle_claim_theory.specs.Multiproof.{multi_positions, locations_in}
use Rattle.merkle_proof.specs.Input.{multi_digest_input_of}
use Rattle.merkle_proof.proofs.ScatteredRoot.{locations_by}
use Rattle.merkle_audit_parts.proofs.Claims.{told_apart}
use Rattle.merkle_audit_parts.proofs.GivenElements.{none_read}
use Rattle.merkle_audit_parts.proofs.multi_claim.is_shape_refused.Goals as goal

pub returns-else-as_u64-gt0 : goal.returns-else-as_u64-gt0
returns-else-as_u64-gt0 g c = λ yes s ls root rule_is max_is at ok.
    let es = c.args.leaves.now in
    let r = multi_digest_input_of c.args.proof.now ls in
    let none : length es ≡ 0 = search rules in
    let nowhere : length (locations_in r) ≡ 0 = ap length (locations_by ls ∙ at) ∙ length-map es (λ e. e.1) ∙ none in
    let empty : length c.args.proof.now.digests.items ≡ 0 = ok.counts ∙ ap length (none_read s.rule r.leaves (locations_in r) nowhere) in
    let many : vec_len c.args.proof.now.digests ≡ length c.args.proof.now.digests.items = search rules in
    told_apart (vec_len c.args.proof.now.digests) 0 (subst (λ b. IsTrue (not b)) c.is_empty-else-as_u64-gt0.ensures yes) (many ∙ empty)

pub returns : goal.returns
returns g c = IfOk-weaker c.are_places_refused.result _ _ (λ b f yes s ls root rule_is max_is at ok.
    let es = c.args.leaves.now in
    let n = c.args.proof.now.leaves in
    let r = multi_digest_input_of c.args.proof.now ls in
    let some : 0 < length es = search rules in
    let found = c.deref.ensures.value ∙ c.in_ok-locations.ensures in
    let same = locations_by ls ∙ at ∙ sym found in
    let many : c.len.result ≡ length r.digests = search rules in
    f yes (record {
      nonempty = omega (arith, some, length-map es (λ e. e.1), ap length found);
      ascend = subst (AscendsFrom 0) same ok.ascend;
      below = subst (AllByRecursion (λ i. i < n)) same ok.below;
      leaves = omega (arith, ok.leaves, max_is);
    }) (sym (many ∙ ok.counts ∙ ap₂ (λ rule is. length (multi_positions rule n is)) rule_is same))) c.are_places_refused.ensures
