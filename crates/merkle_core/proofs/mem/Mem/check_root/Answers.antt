use Rattle.std.proofs.Common.{◌≡◌, ◌≤◌, false, length, refl, rules, Ok, sym, ◌∙◌, subst}
use Rattle.std.specs.FinMap.{get}
use Rattle.std.specs.Prelude.{not}
use Rattle.merkle_base.specs.Places.{peaks_of}
use Rattle.merkle_root_theory.specs.Range.{ForRootOf}
use Rattle.merkle_restore_theory.proofs.WholeStructures.{first_is_unique}
use Rattle.merkle_core.specs.Restored.{AgreesOrCollides}
use Rattle.merkle_core.proofs.RestoredMem.{by_peaks, enough, has_root, not_false, ok_once, one_node, whole_of}
use Rattle.merkle_core.proofs.mem.Mem.check_root.Goals as goal

pub returns-in-Some-clause-damaged : goal.returns-in-Some-clause-damaged
returns-in-Some-clause-damaged g c = λ p low first.
    one_node c.in-Some.position p (first_is_unique (g.H.Hasher.hashing c.args.hasher.now) g.F.Family.rule c.args.self.now.leaves (get c.args.self.now.stored)
    c.in-Some.position p c.in-Some.ensures.damaged first)

pub returns-in-Some-clause-mismatch : goal.returns-in-Some-clause-mismatch
returns-in-Some-clause-mismatch g c = λ low whole other. absurd (whole c.in-Some.position c.in-Some.ensures.damaged.0)

pub returns-in-Some-clause-granted : goal.returns-in-Some-clause-granted
returns-in-Some-clause-granted g c = λ w.
    let hasher = c.args.hasher.now in
    absurd (whole_of (g.H.Hasher.scheme hasher) (g.H.Hasher.hashing hasher) (g.H.Hasher.bagging_of hasher) g.F.Family.rule g.F.Family.MAX_LEAVES
    g.F.Family.DOMAIN (g.met.H.Hasher.scheme_is hasher) c.args.self.now c.args.inactive c.args.root.now w c.in-Some.position c.in-Some.ensures.damaged.0)

pub returns-then-ne-clause-damaged : goal.returns-then-ne-clause-damaged
returns-then-ne-clause-damaged g c = λ p low first. absurd (c.in_default.ensures.whole p first.0)

pub returns-clause-checked : goal.returns-clause-checked
returns-clause-checked g c =
    let hasher = c.args.hasher.now in
    let s = g.H.Hasher.scheme hasher in
    let is = g.met.H.Hasher.scheme_is hasher in
    let m = c.args.self.now in
    let k = c.args.inactive in
    let own = c.in-Ok.value in
    let low : k ≤ length (peaks_of g.F.Family.rule m.leaves) = enough (Ok own) own _ k _ refl c.in-Ok.ensures.err in
    let differ : not (g.D.PartialEq.eq own c.args.root.now) ≡ false = search rules in
    let same : own ≡ c.args.root.now = (g.met.D.Digest.eq_decides own c.args.root.now).0 (not_false _ differ) in
    let held = by_peaks s (g.H.Hasher.hashing hasher) (g.H.Hasher.bagging_of hasher) g.F.Family.rule g.F.Family.MAX_LEAVES g.F.Family.DOMAIN is m k in
    has_root s (g.H.Hasher.hashing hasher) (g.H.Hasher.bagging_of hasher) g.F.Family.rule g.F.Family.MAX_LEAVES g.F.Family.DOMAIN is m k c.args.root.now low
    c.in_default.ensures.whole (sym held ∙ sym (ok_once _ _ (c.in-Ok.ensures.ok low)) ∙ same)

pub returns-clause-agrees : goal.returns-clause-agrees
returns-clause-agrees g c =
    let s = g.H.Hasher.scheme c.args.hasher.now in
    let low = enough (Ok c.in-Ok.value) c.in-Ok.value _ c.args.inactive _ refl c.in-Ok.ensures.err in
    subst (λ r. ForRootOf s r (AgreesOrCollides s c.args.inactive c.args.self.now)) (returns-clause-checked g c).root_is (c.in_default.ensures.agrees c.args.inactive low)

pub returns-clause-damaged : goal.returns-clause-damaged
returns-clause-damaged g c = λ p low first. absurd (c.in_default.ensures.whole p first.0)
