use Rattle.std.proofs.Common.{Some, sym, subst, ◌∙◌}
use Rattle.std.proofs.lemmas.Bool.{eqb-true}
use Rattle.std.specs.Slice.{IsItemAt}
use Rattle.merkle_reconstruction.proofs.InsideLists.{found_at}
use Rattle.merkle_reconstruction.proofs.known.ComputedNodes.get_numbered.Goals as goal

pub returns-then-eq : goal.returns-then-eq
returns-then-eq g c = λ h leaf listed.
    let ps = c.args.self.now.positions.items in
    let ds = c.args.self.now.digests.items in
    let same = eqb-true c.in-Some-get.found.now c.args.position (sym c.eq.ensures ∙ c.if-eq.true) in
    found_at h g.F.Family.rule g.F.Family.MAX_LEAVES leaf ps ds listed c.in-Some.index c.args.position c.in-Some-get.found
    (subst (λ z. IsItemAt z c.in-Some.index (Some c.in-Some-get.found)) c.deref.ensures.value c.in-Some-get.ensures.lookup) same
    c.get-then-eq.result (subst (λ z. IsItemAt z c.in-Some.index c.get-then-eq.result) c.deref-then-eq.ensures.value c.get-then-eq.ensures.lookup) c.copied.result c.copied.ensures
