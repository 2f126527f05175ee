use Rattle.std.proofs.Common.{[], ap, ◌∙◌}
use Rattle.merkle_base.specs.Root.{folded, root_string}
use Rattle.merkle_audit_parts.proofs.PinnedClaims.{empty_pinned}
use Rattle.merkle_audit_parts.proofs.pinned_claim.empty_pinned_claim.Goals as goal

pub returns-clause-claim : goal.returns-clause-claim
returns-clause-claim g c = λ r pins e.
    let s = g.H.Hasher.scheme c.args.hasher.now in
    empty_pinned s g.H.Digest.Digest.EMPTY _ _
    (c.in-Ok.ensures.root ∙ ap (λ n. root_string s.hashing s.domain s.bagging n 0 (folded s.hashing.fold s.bagging 0 [])) c.new-none.ensures)
    c.in-Ok.ensures.folds r pins e
