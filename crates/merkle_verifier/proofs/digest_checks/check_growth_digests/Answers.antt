use Rattle.std.proofs.Common.{inl, inr}
use Rattle.merkle_verifier.proofs.digest_checks.check_growth_digests.Goals as goal

pub returns : goal.returns
returns g c =
    elim c.check_pinned_digests.ensures [
      | inl memory ↦ inl memory
      | inr of ↦ inr (inr (c.in-Some.root, c.in-Some.ensures, of))
    ]
