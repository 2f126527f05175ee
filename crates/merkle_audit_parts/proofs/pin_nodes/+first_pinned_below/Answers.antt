use Rattle.std.proofs.Common.{arith, subst, refl}
use Rattle.std.specs.List.{AllByRecursion}
use Rattle.merkle_pins_theory.specs.PinnedNodes.{SeesDown}
use Rattle.merkle_audit_theory.specs.Seen.{Sees}
use Rattle.merkle_audit_parts.specs.PinnedClaimed.{pinned_pair}
use Rattle.merkle_walks.proofs.Walks.{no_peaks, searched_first, first_peak, all}
use Rattle.merkle_audit_parts.proofs.pin_nodes.+first_pinned_below.Goals as goal

pub returns-in_default : goal.returns-in_default
returns-in_default g t c = λ h ts f k over same nodes sees sees'. no_peaks h f k c.args.peaks.now ts c.in_default.ensures.cases same

pub first_pinned_at-requires : goal.first_pinned_at-requires
first_pinned_at-requires g t c =
    let n = c.requires.nodes in
    let w = first_peak g.F.Family.rule g.F.Family.MAX_LEAVES c.args.peaks.now _ _ n.0 c.in-Some.ensures.cases.0 n.1 n.2 in
    record { node = (w.0, w.3) }

pub first_pinned_below-requires : goal.first_pinned_below-requires
first_pinned_below-requires g t c κs within =
    let n = c.requires.nodes in
    let w = first_peak g.F.Family.rule g.F.Family.MAX_LEAVES c.args.peaks.now _ _ n.0 c.in-Some.ensures.cases.0 n.1 n.2 in
    (omega (arith, c.in-Some.ensures.cases.1, c.decreases), (within.0, (within.1.0, (within.1.1.0, (within.1.1.1.0, (within.1.1.1.1.0, (within.1.1.1.1.1, (w.1, w.4, w.5))))))))

pub returns-in-Some-first_pinned_at : goal.returns-in-Some-first_pinned_at
returns-in-Some-first_pinned_at g t c = λ h ts f k over same nodes sees sees'.
    let w = first_peak g.F.Family.rule g.F.Family.MAX_LEAVES c.args.peaks.now _ _ ts c.in-Some.ensures.cases.0 same nodes in
    searched_first h f k ts w.0 w.1 w.2 _ (all h f k w.1)
    (c.in-Some-first_pinned_at.ensures h w.0 f k over w.3
    (subst (AllByRecursion (SeesDown (pinned_pair (g.H.Hasher.hashing c.args.hasher.now) g.H.Digest.Digest.EMPTY c.args.claimed.now) f)) w.2 sees).0
    (subst (AllByRecursion (Sees (g.B.Hashes.hashed c.args.listed.now) k)) w.2 sees').0) refl

pub returns-in-None : goal.returns-in-None
returns-in-None g t c = λ h ts f k over same nodes sees sees'.
    let w = first_peak g.F.Family.rule g.F.Family.MAX_LEAVES c.args.peaks.now _ _ ts c.in-Some.ensures.cases.0 same nodes in
    let all_of = subst (AllByRecursion (SeesDown (pinned_pair (g.H.Hasher.hashing c.args.hasher.now) g.H.Digest.Digest.EMPTY c.args.claimed.now) f)) w.2 sees in
    let all_of' = subst (AllByRecursion (Sees (g.B.Hashes.hashed c.args.listed.now) k)) w.2 sees' in
    searched_first h f k ts w.0 w.1 w.2 _ _
    (c.in-None.ensures h w.0 f k over w.3 all_of.0 all_of'.0) (c.first_pinned_below.ensures h w.1 f k over w.4 w.5 all_of.1 all_of'.1)
