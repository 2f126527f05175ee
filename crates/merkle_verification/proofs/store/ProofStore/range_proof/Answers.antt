use Rattle.std.proofs.Common.{◌≡◌, Ok, length, arith, sym, inl, inr, subst}
use Rattle.std.proofs.lemmas.Result.{IfOk-weaker, IfErr-weaker}
use Rattle.merkle_base.specs.declared.error.Error.{Error}
use Rattle.merkle_base.specs.declared.error.Error.TheVariants.{OutOfMemory}
use Rattle.merkle_root_theory.specs.Range.{AcceptsNonempty}
use Rattle.merkle_root_theory.specs.Reconstruction.{reconstructed}
use Rattle.merkle_root_theory.proofs.Reconstruction.{leads_is_accepted}
use Rattle.merkle_store_theory.specs.StoreValue.{StoreValue}
use Rattle.merkle_range.specs.Input.{range_input}
use Rattle.merkle_hasher.proofs.LeafDigests.{length-leaf_digests}
use Rattle.merkle_proof.specs.Input.{input_of}
use Rattle.merkle_proof.specs.declared.proof.Proof.{Proof}
use Rattle.merkle_proof.proofs.RefusedProofs.{is_memory}
use Rattle.merkle_verification.specs.StoreCalls.{IsPartProof, IsStoreRefusal, elements_within, part_input}
use Rattle.merkle_verification.proofs.KeptStores.{accepted_some}
use Rattle.merkle_verification.proofs.StoreCallLaws.{no_part_is_refused, answered_is_accepted, part_has_part_digests}
use Rattle.merkle_verification.proofs.store.ProofStore.range_proof.Goals as goal

pub returns-clause-unrefused : goal.returns-clause-unrefused
returns-clause-unrefused g c = λ r root same ok some low high.
    let s = g.H.Hasher.scheme c.args.hasher.now in let a = c.args.range.start in let b = c.args.range.end in
    IfErr-weaker c.answer.result _ (λ (e : Error g.row.F.Denot). e ≡ OutOfMemory) (λ (e : Error g.row.F.Denot) refused. elim (is_memory e) [
      | inr is ↦ is
      | inl other ↦ absurd (no_part_is_refused s r root a b e ok some low high (subst (λ (v : StoreValue g.row.D.Denot). IsStoreRefusal s v a b e) same (refused other)))
    ]) c.answer.ensures.err

pub returns-clause-accepted : goal.returns-clause-accepted
returns-clause-accepted g c = λ r root same ok low high.
    let s = g.H.Hasher.scheme c.args.hasher.now in let a = c.args.range.start in let b = c.args.range.end in
    IfOk-weaker c.answer.result _ (λ (p : Proof g.row.F.Denot g.row.D.Denot g.row.F-Peaks.Denot g.row.F-ParentHeights.Denot). AcceptsNonempty s (part_input p r a b) root)
    (λ (p : Proof g.row.F.Denot g.row.D.Denot g.row.F-Peaks.Denot g.row.F-ParentHeights.Denot) w.
    answered_is_accepted s r root a b p ok low high (subst (λ (v : StoreValue g.row.D.Denot). IsPartProof s v a b p) same w)) c.answer.ensures.ok

pub returns-clause-checked : goal.returns-clause-checked
returns-clause-checked g c = λ n k start ds es root same leads some low high.
    let s = g.H.Hasher.scheme c.args.hasher.now in let a = c.args.range.start in let b = c.args.range.end in
    let r = range_input s n k ds start es in
    let count : length r.elements ≡ length es = length-leaf_digests s.hashing s.rule start es in
    let ok = accepted_some s r root leads (omega (arith, count, some)) in
    IfOk-weaker c.answer.result _ (λ (p : Proof g.row.F.Denot g.row.D.Denot g.row.F-Peaks.Denot g.row.F-ParentHeights.Denot). reconstructed s (input_of s p a (elements_within start a b es)) ≡ Ok root)
    (λ (p : Proof g.row.F.Denot g.row.D.Denot g.row.F-Peaks.Denot g.row.F-ParentHeights.Denot) w.
    subst (λ xs. reconstructed s (record { leaves = p.leaves; inactive = p.inactive_peaks; digests = p.digests.items; start = a; elements = xs }) ≡ Ok root)
    (sym (part_has_part_digests s.hashing s.rule start a b es low)) ((leads_is_accepted s (part_input p r a b) root).1 (inl w)))
    (returns-clause-accepted g c r root same ok low (omega (arith, high, count)))
