use Rattle.std.proofs.Common.{◌<◌, length, rules}
use Rattle.merkle_range.specs.Input.{digest_input_of_parts}
use Rattle.merkle_range.proofs.Answered.{computed_leads, refusal_leads}
use Rattle.merkle_range.proofs.checks.root_of_leaf_digests.Goals as goal

pub returns-clause-ok : goal.returns-clause-ok
returns-clause-ok g c =
    let s = g.H.Hasher.scheme c.args.hasher.now in
    let some : 0 < length c.args.leaves.now = search rules in
    computed_leads s (digest_input_of_parts c.args.parts.now c.args.start c.args.leaves.now) some c.root_of_leaf_digests_into.result c.root_of_leaf_digests_into.ensures.ok

pub returns-clause-err : goal.returns-clause-err
returns-clause-err g c =
    let s = g.H.Hasher.scheme c.args.hasher.now in
    let some : 0 < length c.args.leaves.now = search rules in
    refusal_leads s (digest_input_of_parts c.args.parts.now c.args.start c.args.leaves.now) some c.root_of_leaf_digests_into.result c.root_of_leaf_digests_into.ensures.err
