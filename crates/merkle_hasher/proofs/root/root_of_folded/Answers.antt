use Rattle.std.proofs.Common.{◌≡◌, suc, ◌-◌, arith, refl, sym, ◌∙◌, subst}
use Rattle.std.specs.Int.{to_be_bytes, w64}
use Rattle.merkle_base.specs.Root.{inactive_bytes}
use Rattle.merkle_hasher.proofs.root.root_of_folded.Goals as goal

pub returns-else-committed-eq0 : goal.returns-else-committed-eq0
returns-else-committed-eq0 g c =
    let some : suc (c.args.committed - 1) ≡ c.args.committed = omega (arith, c.if-committed-eq0.false) in
    let bytes : inactive_bytes c.args.committed ≡ c.to_be_bytes.result = subst (λ n. inactive_bytes n ≡ to_be_bytes w64 n) some refl ∙ sym c.to_be_bytes.ensures in
    rw (
      bytes,
      (g.met.T.Hasher.over_digest c.args.hasher.now).bytes,
      sym c.DOMAIN.ensures,
      sym c.domain.ensures,
      sym c.as_bytes-else-committed-eq0.ensures,
    ) (rw (c.to_be_bytes-leaves.ensures, c.as_u64.ensures) at c.hash_four.ensures)
