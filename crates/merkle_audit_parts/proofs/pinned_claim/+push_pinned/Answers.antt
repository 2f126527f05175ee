use Rattle.std.proofs.Common.{◌∷◌, [], ◌++◌, arith, map, ap, sym, ◌∙◌, append_assoc}
use Rattle.std.proofs.lemmas.Result.{on_ok_weaker}
use Rattle.merkle_audit_parts.specs.PinnedClaimed.{digest_given, pin_in}
use Rattle.merkle_pins_theory.specs.PinnedNodes.{pinned_value}
use Rattle.merkle_walks.proofs.Walks.{first_peak}
use Rattle.merkle_audit_parts.proofs.PinnedWalks.{none_pushed}
use Rattle.merkle_audit_parts.proofs.pinned_claim.+push_pinned.Goals as goal

pub returns-in_default : goal.returns-in_default
returns-in_default g t c = λ ts same nodes. none_pushed c.args.peaks.now ts _ _ c.in_default.ensures.cases same

pub pinned_digest-requires : goal.pinned_digest-requires
pinned_digest-requires g t c =
    let n = c.requires.nodes in
    let w = first_peak g.F.Family.rule g.F.Family.MAX_LEAVES c.args.peaks.now _ _ n.0 c.in-Some.ensures.cases.0 n.1 n.2 in
    record { node = (w.0, w.3) }

pub push_pinned-requires : goal.push_pinned-requires
push_pinned-requires g t c κs within =
    let n = c.requires.nodes in
    let w = first_peak g.F.Family.rule g.F.Family.MAX_LEAVES c.args.peaks.now _ _ n.0 c.in-Some.ensures.cases.0 n.1 n.2 in
    (omega (arith, c.in-Some.ensures.cases.1, c.decreases), (within.0, (within.1.0, (within.1.1.0, (within.1.1.1.0, (within.1.1.1.1, (w.1, w.4, w.5)))))))

pub returns : goal.returns
returns g t c = on_ok_weaker c.push_pinned.result (λ k ts same nodes.
    let f = pinned_value (g.H.Hasher.hashing c.args.hasher.now) (pin_in c.args.nodes.now) c.args.nodes.now.start (digest_given g.H.Digest.Digest.EMPTY c.args.nodes.now) in
    let w = first_peak g.F.Family.rule g.F.Family.MAX_LEAVES c.args.peaks.now _ _ ts c.in-Some.ensures.cases.0 same nodes in
    k w.1 w.4 w.5
    ∙ ap (λ ds. ds ++ map f w.1) (c.in_ok-push.ensures.items ∙ ap (λ d. c.args.digests.now.items ++ d ∷ []) (c.pinned_digest.ensures w.0 w.3))
    ∙ append_assoc c.args.digests.now.items (f w.0 ∷ []) (map f w.1)
    ∙ ap (λ us. c.args.digests.now.items ++ map f us) (sym w.2)) c.push_pinned.ensures
