use Rattle.std.proofs.Common.{◌<◌, length, rules, arith}
use Rattle.std.proofs.lemmas.List.{length-map}
use Rattle.merkle_hasher.specs.LeafDigests.{bytes_of}
use Rattle.merkle_range.specs.Input.{input_of_parts}
use Rattle.merkle_range.proofs.Answered.{computed_leads, refusal_leads}
use Rattle.merkle_hasher.proofs.LeafDigests.{length-leaf_digests}
use Rattle.merkle_range.proofs.checks.reconstruct_root.Goals as goal

pub returns-clause-ok : goal.returns-clause-ok
returns-clause-ok g c =
    let s = g.H.Hasher.scheme c.args.hasher.now in
    let es = c.args.elements.now in
    let r = input_of_parts s c.args.parts.now c.args.start (bytes_of es) in
    let given : 0 < length es = search rules in
    let some : 0 < length r.elements = omega (arith, given, length-leaf_digests s.hashing s.rule c.args.start (bytes_of es), length-map es (λ e. e.now)) in
    computed_leads s r some c.reconstruct_nonempty_root.result c.reconstruct_nonempty_root.ensures.ok

pub returns-clause-err : goal.returns-clause-err
returns-clause-err g c =
    let s = g.H.Hasher.scheme c.args.hasher.now in
    let es = c.args.elements.now in
    let r = input_of_parts s c.args.parts.now c.args.start (bytes_of es) in
    let given : 0 < length es = search rules in
    let some : 0 < length r.elements = omega (arith, given, length-leaf_digests s.hashing s.rule c.args.start (bytes_of es), length-map es (λ e. e.now)) in
    refusal_leads s r some c.reconstruct_nonempty_root.result c.reconstruct_nonempty_root.ensures.err
