use Rattle.std.proofs.Common.{◌≡◌, ◌≢◌, ◌<◌, ◌≤◌, length, rules, Ok, Err, sym, ◌∙◌, subst}
use Rattle.std.specs.FinMap.{get}
use Rattle.std.specs.Prelude.{IsOk}
use Rattle.std.proofs.lemmas.Bool.{false≢true}
use Rattle.std.proofs.lemmas.Result.{err_from_is_err_and}
use Rattle.merkle_base.specs.Places.{peaks_of}
use Rattle.merkle_batch_theory.specs.MemModel.{MemModel}
use Rattle.merkle_restore_theory.specs.Damage.{IsFirstDamaged, IsWhole}
use Rattle.merkle_core.specs.Restored.{HasRootAndIsWhole, held_root}
use Rattle.merkle_core.specs.declared.restore.RestoreError.TheVariants.{DamagedNode, InvalidInactivePeaks, RootMismatch}
use Rattle.merkle_core.proofs.RestoredMem.{made_once, ok_is_no_error, same_error}
use Rattle.merkle_core.proofs.mem.Mem.restore.Goals as goal

pub returns-in_err-check_root-clause-too_many : goal.returns-in_err-check_root-clause-too_many
returns-in_err-check_root-clause-too_many g c = λ n low few counts pins many _.
    let b = c.args.config.pruning_boundary in
    let m = c.in-Ok.value in
    let made = made_once g.F.Family.rule b n c.args.config.pinned_nodes.items c.args.config.nodes.items m c.in-Ok.ensures.made c.in-Ok.ensures.counted.1 counts in
    let p = err_from_is_err_and c.from_residual.result c.from_residual.ensures.1 in
    let was : c.check_root.result ≡ Err c.in_err-check_root.field-0.0 = search rules in
    rw (p.1, p.2) (same_error c.in_err-check_root.field-0.0 _ (sym was ∙ subst (λ (x : MemModel g.row.D.Denot). length (peaks_of g.F.Family.rule x.leaves) < c.args.inactive
    → c.check_root.result ≡ Err (InvalidInactivePeaks c.args.inactive (length (peaks_of g.F.Family.rule x.leaves))))
    made c.check_root.ensures.too_many many))

pub returns-in_err-check_root-clause-damaged : goal.returns-in_err-check_root-clause-damaged
returns-in_err-check_root-clause-damaged g c = λ n low few counts pins q enough first _.
    let b = c.args.config.pruning_boundary in
    let m = c.in-Ok.value in
    let made = made_once g.F.Family.rule b n c.args.config.pinned_nodes.items c.args.config.nodes.items m c.in-Ok.ensures.made c.in-Ok.ensures.counted.1 counts in
    let p = err_from_is_err_and c.from_residual.result c.from_residual.ensures.1 in
    let was : c.check_root.result ≡ Err c.in_err-check_root.field-0.0 = search rules in
    rw (p.1, p.2) (same_error c.in_err-check_root.field-0.0 _ (sym was ∙ subst (λ (x : MemModel g.row.D.Denot). c.args.inactive ≤ length (peaks_of g.F.Family.rule x.leaves)
    → IsFirstDamaged (g.H.Hasher.hashing c.args.hasher.now) g.F.Family.rule x.leaves (get x.stored) q
    → c.check_root.result ≡ Err (DamagedNode q)) made (c.check_root.ensures.damaged q) enough first))

pub returns-in_err-check_root-clause-mismatch : goal.returns-in_err-check_root-clause-mismatch
returns-in_err-check_root-clause-mismatch g c = λ n low few counts pins enough whole other _.
    let b = c.args.config.pruning_boundary in
    let m = c.in-Ok.value in
    let made = made_once g.F.Family.rule b n c.args.config.pinned_nodes.items c.args.config.nodes.items m c.in-Ok.ensures.made c.in-Ok.ensures.counted.1 counts in
    let p = err_from_is_err_and c.from_residual.result c.from_residual.ensures.1 in
    let was : c.check_root.result ≡ Err c.in_err-check_root.field-0.0 = search rules in
    rw (p.1, p.2) (same_error c.in_err-check_root.field-0.0 _ (sym was ∙ subst (λ (x : MemModel g.row.D.Denot). c.args.inactive ≤ length (peaks_of g.F.Family.rule x.leaves)
    → IsWhole (g.H.Hasher.hashing c.args.hasher.now) g.F.Family.rule x.leaves (get x.stored)
    → held_root (g.H.Hasher.scheme c.args.hasher.now) x c.args.inactive ≢ c.args.root.now
    → c.check_root.result ≡ Err RootMismatch) made c.check_root.ensures.mismatch enough whole other))

pub returns-in_err-check_root-clause-granted : goal.returns-in_err-check_root-clause-granted
returns-in_err-check_root-clause-granted g c = λ n low few counts pins w.
    let b = c.args.config.pruning_boundary in
    let m = c.in-Ok.value in
    let made = made_once g.F.Family.rule b n c.args.config.pinned_nodes.items c.args.config.nodes.items m c.in-Ok.ensures.made c.in-Ok.ensures.counted.1 counts in
    let was : c.check_root.result ≡ Err c.in_err-check_root.field-0.0 = search rules in
    absurd (false≢true (subst IsOk was (subst (λ (x : MemModel g.row.D.Denot).
    HasRootAndIsWhole (g.H.Hasher.scheme c.args.hasher.now) c.args.inactive c.args.root.now x → IsOk c.check_root.result) made c.check_root.ensures.granted w)))

pub returns-clause-too_many : goal.returns-clause-too_many
returns-clause-too_many g c = λ n low few counts pins many _.
    let b = c.args.config.pruning_boundary in
    let m = c.in-Ok.value in
    let made = made_once g.F.Family.rule b n c.args.config.pinned_nodes.items c.args.config.nodes.items m c.in-Ok.ensures.made c.in-Ok.ensures.counted.1 counts in
    let ok : c.check_root.result ≡ Ok tt = search rules in
    absurd (ok_is_no_error tt _ (sym ok ∙ subst (λ (x : MemModel g.row.D.Denot). length (peaks_of g.F.Family.rule x.leaves) < c.args.inactive
    → c.check_root.result ≡ Err (InvalidInactivePeaks c.args.inactive (length (peaks_of g.F.Family.rule x.leaves))))
    made c.check_root.ensures.too_many many))

pub returns-clause-damaged : goal.returns-clause-damaged
returns-clause-damaged g c = λ n low few counts pins q enough first _.
    let b = c.args.config.pruning_boundary in
    let m = c.in-Ok.value in
    let made = made_once g.F.Family.rule b n c.args.config.pinned_nodes.items c.args.config.nodes.items m c.in-Ok.ensures.made c.in-Ok.ensures.counted.1 counts in
    let ok : c.check_root.result ≡ Ok tt = search rules in
    absurd (ok_is_no_error tt _ (sym ok ∙ subst (λ (x : MemModel g.row.D.Denot). c.args.inactive ≤ length (peaks_of g.F.Family.rule x.leaves)
    → IsFirstDamaged (g.H.Hasher.hashing c.args.hasher.now) g.F.Family.rule x.leaves (get x.stored) q
    → c.check_root.result ≡ Err (DamagedNode q)) made (c.check_root.ensures.damaged q) enough first))

pub returns-clause-mismatch : goal.returns-clause-mismatch
returns-clause-mismatch g c = λ n low few counts pins enough whole other _.
    let b = c.args.config.pruning_boundary in
    let m = c.in-Ok.value in
    let made = made_once g.F.Family.rule b n c.args.config.pinned_nodes.items c.args.config.nodes.items m c.in-Ok.ensures.made c.in-Ok.ensures.counted.1 counts in
    let ok : c.check_root.result ≡ Ok tt = search rules in
    absurd (ok_is_no_error tt _ (sym ok ∙ subst (λ (x : MemModel g.row.D.Denot). c.args.inactive ≤ length (peaks_of g.F.Family.rule x.leaves)
    → IsWhole (g.H.Hasher.hashing c.args.hasher.now) g.F.Family.rule x.leaves (get x.stored)
    → held_root (g.H.Hasher.scheme c.args.hasher.now) x c.args.inactive ≢ c.args.root.now
    → c.check_root.result ≡ Err RootMismatch) made c.check_root.ensures.mismatch enough whole other))
