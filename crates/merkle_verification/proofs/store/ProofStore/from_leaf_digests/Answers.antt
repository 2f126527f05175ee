use Rattle.std.proofs.Common.{◌≡◌, ◌+◌, ◌<◌, length, arith, refl, sym, ap, ◌∙◌, rules, inl, inr}
use Rattle.std.proofs.lemmas.List.{nil_from_length}
use Rattle.std.proofs.lemmas.Result.{IfOk-weaker}
use Rattle.merkle_base.proofs.Limits.{lawful_leaves}
use Rattle.merkle_base.specs.Scheme.{Scheme}
use Rattle.merkle_root_theory.specs.Range.{AcceptsNonempty}
use Rattle.merkle_store_theory.specs.StoreValue.{StoreValue, store_of}
use Rattle.merkle_proof.specs.Input.{digest_input_of}
use Rattle.merkle_verification.specs.StoreParts.{IsInput}
use Rattle.merkle_verification.proofs.KeptStores.{accepted_some}
use Rattle.merkle_verification.proofs.store.ProofStore.from_leaf_digests.Goals as goal

pub add-end-requires : goal.add-end-requires
add-end-requires g c =
    let s = g.H.Hasher.scheme c.args.hasher.now in let es = c.args.digests.now in let a = c.args.start in
    let r = digest_input_of c.args.proof.now a es in
    let some : 0 < length es = search rules in
    let ok = accepted_some s r c.args.root.now c.in-Ok.ensures.ok.0 some in
    omega (arith, ok.within, ok.leaves, ap (λ (z : Scheme g.row.D.Denot). z.max_leaves) (g.met.H.Hasher.scheme_is c.args.hasher.now), lawful_leaves _ _ _ g.met.F.Family.lawful)

pub keep-requires-clause-within : goal.keep-requires-clause-within
keep-requires-clause-within g c =
    let s = g.H.Hasher.scheme c.args.hasher.now in let es = c.args.digests.now in let a = c.args.start in
    let r = digest_input_of c.args.proof.now a es in
    let some : 0 < length es = search rules in
    let ok = accepted_some s r c.args.root.now c.in-Ok.ensures.ok.0 some in
    omega (arith, ok.within, c.add-end.ensures)

pub keep-requires-clause-within_max_leaves : goal.keep-requires-clause-within_max_leaves
keep-requires-clause-within_max_leaves g c =
    let s = g.H.Hasher.scheme c.args.hasher.now in let es = c.args.digests.now in let a = c.args.start in
    let r = digest_input_of c.args.proof.now a es in
    let some : 0 < length es = search rules in
    let ok = accepted_some s r c.args.root.now c.in-Ok.ensures.ok.0 some in
    omega (arith, ok.leaves, ap (λ (z : Scheme g.row.D.Denot). z.max_leaves) (g.met.H.Hasher.scheme_is c.args.hasher.now))

pub returns-clause-ok : goal.returns-clause-ok
returns-clause-ok g c =
    let s = g.H.Hasher.scheme c.args.hasher.now in let es = c.args.digests.now in let a = c.args.start in let p = c.args.proof.now in
    let r = digest_input_of p a es in
    let law = g.met.H.Hasher.scheme_is c.args.hasher.now in
    let input : IsInput s r g.F.Family.rule c.root_bagging.result p.leaves p.inactive_peaks p.digests.items a c.add-end.result c.in-Ok.pairs.items = record {
      rule_is = sym (ap (λ (z : Scheme g.row.D.Denot). z.rule) law);
      bagging_is = c.root_bagging.ensures ∙ sym (ap (λ (z : Scheme g.row.D.Denot). z.bagging) law);
      leaves_is = refl;
      inactive_is = refl;
      digests_is = refl;
      start_is = refl;
      end_is = c.add-end.ensures;
      pairs_is = c.in-Ok.ensures.ok.1;
    } in
    IfOk-weaker c.keep.result _ (λ (v : StoreValue g.row.D.Denot). v ≡ store_of s r c.args.root.now) (λ (v : StoreValue g.row.D.Denot) f. f s r input) c.keep.ensures.ok

pub returns-clause-accepted : goal.returns-clause-accepted
returns-clause-accepted g c =
    let s = g.H.Hasher.scheme c.args.hasher.now in let es = c.args.digests.now in let a = c.args.start in
    let r = digest_input_of c.args.proof.now a es in
    let some : 0 < length es = search rules in
    let ok = accepted_some s r c.args.root.now c.in-Ok.ensures.ok.0 some in
    IfOk-weaker c.keep.result _ (λ _. AcceptsNonempty s r c.args.root.now) (λ v f. ok) c.keep.ensures.ok

pub returns-in-Err-clause-err : goal.returns-in-Err-clause-err
returns-in-Err-clause-err g c = λ other. inl (c.in-Err.ensures.err other)

pub returns-then-is_empty-clause-err : goal.returns-then-is_empty-clause-err
returns-then-is_empty-clause-err g c =
    let es = c.args.digests.now in
    let none : length es ≡ 0 = search rules in
    λ other. inr (c.in-Ok.ensures.ok.0, nil_from_length es none, refl)
