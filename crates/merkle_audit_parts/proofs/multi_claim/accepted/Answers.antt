use Rattle.std.proofs.Common.{◌≡◌, ◌≤◌, ◌<◌, ◌++◌, length, map, subst, arith, ap, ap₂, sym, ◌∙◌}
use Rattle.std.specs.List.{AllByRecursion}
use Rattle.std.specs.List.Sorted.{IsStrictlyIncreasing}
use Rattle.std.proofs.lemmas.List.{length-map}
use Rattle.merkle_base.specs.Places.{peaks_of}
use Rattle.merkle_base.specs.Scheme.{Scheme}
use Rattle.merkle_base.proofs.PeakLists.{few_peaks}
use Rattle.merkle_hasher.specs.Subtrees.{AreNodes, subtree_of}
use Rattle.merkle_hasher.proofs.PeakNodes.{peaks_at}
use Rattle.merkle_forest_theory.specs.Ascending.{AscendsFrom}
use Rattle.merkle_claim_theory.specs.Multiproof.{multi_positions, locations_in, leaves_in}
use Rattle.merkle_proof.specs.Input.{multi_digest_input_of}
use Rattle.merkle_proof.proofs.ScatteredRoot.{locations_by}
use Rattle.merkle_audit_theory.specs.Folds.{multi_digest}
use Rattle.merkle_walk_theory.proofs.Walked.{walks_find_first}
use Rattle.merkle_walks.specs.declared.scattered.LeafProof.{LeafProof}
use Rattle.merkle_walks.specs.Chosen.{digest_given}
use Rattle.merkle_walks.proofs.GivenLeaves.{ascends_strictly}
use Rattle.merkle_audit_parts.proofs.GivenElements.{digests_by}
use Rattle.merkle_audit_parts.proofs.MultiFound.{all_same, found_same, top_of_peaks}
use Rattle.merkle_audit_parts.proofs.multi_claim.accepted.Goals as goal

pub read_positions-requires : goal.read_positions-requires
read_positions-requires g c = λ some.
    let s = g.H.Hasher.scheme c.args.hasher.now in
    let is = g.met.H.Hasher.scheme_is c.args.hasher.now in
    let es = c.args.leaves.now in
    let n = c.args.proof.now.leaves in
    let r = multi_digest_input_of c.args.proof.now es in
    let ok = c.requires.1 in
    let few : n ≤ g.F.Family.MAX_LEAVES = omega (arith, ok.leaves, ap (λ (z : Scheme g.row.H-Digest.Denot). z.max_leaves) is) in
    let located = locations_by es in
    let same = sym (c.deref.ensures.value ∙ c.in_ok-locations.ensures ∙ sym located) in
    record { nonempty = some; ascend = subst (AscendsFrom 0) same ok.ascend; below = subst (AllByRecursion (λ i. i < n)) same ok.below; leaves = few }

pub walk_all-requires-clause-ascends : goal.walk_all-requires-clause-ascends
walk_all-requires-clause-ascends g c =
    let s = g.H.Hasher.scheme c.args.hasher.now in
    let is = g.met.H.Hasher.scheme_is c.args.hasher.now in
    let es = c.args.leaves.now in
    let n = c.args.proof.now.leaves in
    let r = multi_digest_input_of c.args.proof.now es in
    let ok = c.requires.1 in
    let few : n ≤ g.F.Family.MAX_LEAVES = omega (arith, ok.leaves, ap (λ (z : Scheme g.row.H-Digest.Denot). z.max_leaves) is) in
    let located = locations_by es in
    record {
      positions = subst IsStrictlyIncreasing (sym c.deref-2.ensures.value) c.in-Ok.ensures.rises;
      locations = subst IsStrictlyIncreasing (sym (c.deref-4.ensures.value ∙ c.in_ok-locations.ensures ∙ sym located)) (ascends_strictly 0 (locations_in r) ok.ascend);
    }

pub walk_all-requires-clause-nodes : goal.walk_all-requires-clause-nodes
walk_all-requires-clause-nodes g c =
    let s = g.H.Hasher.scheme c.args.hasher.now in
    let is = g.met.H.Hasher.scheme_is c.args.hasher.now in
    let es = c.args.leaves.now in
    let n = c.args.proof.now.leaves in
    let r = multi_digest_input_of c.args.proof.now es in
    let ok = c.requires.1 in
    let few : n ≤ g.F.Family.MAX_LEAVES = omega (arith, ok.leaves, ap (λ (z : Scheme g.row.H-Digest.Denot). z.max_leaves) is) in
    let located = locations_by es in
    (peaks_of g.F.Family.rule n, c.deref-6.ensures.value ∙ c.in_ok-peaks.ensures, peaks_at g.F.Family.rule g.F.Family.MAX_LEAVES n few)

pub above_peaks-requires : goal.above_peaks-requires
above_peaks-requires g c =
    let s = g.H.Hasher.scheme c.args.hasher.now in
    let is = g.met.H.Hasher.scheme_is c.args.hasher.now in
    let es = c.args.leaves.now in
    let n = c.args.proof.now.leaves in
    let r = multi_digest_input_of c.args.proof.now es in
    let ok = c.requires.1 in
    let few : n ≤ g.F.Family.MAX_LEAVES = omega (arith, ok.leaves, ap (λ (z : Scheme g.row.H-Digest.Denot). z.max_leaves) is) in
    let located = locations_by es in
    let rule_is = sym (ap (λ (z : Scheme g.row.H-Digest.Denot). z.rule) is) in
    let h = g.H.Hasher.hashing c.args.hasher.now in
    let h_is = sym (ap (λ (z : Scheme g.row.H-Digest.Denot). z.hashing) is) in
    let given : LeafProof g.row.F.Denot g.row.H-Digest.Denot = record { positions = c.deref-2.result; digests = c.deref-3.result; locations = c.deref-4.result; leaves = c.deref-5.result } in
    let positions : given.positions.now ≡ multi_positions s.rule r.leaves (locations_in r) =
    c.deref-2.ensures.value ∙ c.in-Ok.ensures.positions ∙ ap₂ (λ rule is. multi_positions rule n is) rule_is (c.deref.ensures.value ∙ c.in_ok-locations.ensures ∙ sym located) in
    let locations : given.locations.now ≡ locations_in r = c.deref-4.ensures.value ∙ c.in_ok-locations.ensures ∙ sym located in
    let leaves : given.leaves.now ≡ leaves_in r = c.deref-5.ensures.value ∙ c.in_ok-leaf_digests.ensures ∙ sym (digests_by es) in
    let ts = peaks_of g.F.Family.rule n in
    let peaks = c.deref-6.ensures.value ∙ c.in_ok-peaks.ensures in
    let nodes = peaks_at g.F.Family.rule g.F.Family.MAX_LEAVES n few in
    let all : c.deref-7.result.now ≡ map (digest_given h given) ts =
    c.deref-7.ensures.value ∙ c.in_ok-below.ensures.digests ts peaks nodes ∙ ap (λ l. l ++ map (digest_given h given) ts) c.in_ok-digests.ensures.items in
    omega (
      arith,
      ap length all,
      length-map ts (digest_given h given),
      few_peaks g.F.Family.rule g.F.Family.MAX_LEAVES g.F.Family.MAX_NODES g.met.F.Family.lawful n few,
      ok.inactive,
      ap (λ rule. length (peaks_of rule n)) rule_is,
    )

pub returns-clause-top : goal.returns-clause-top
returns-clause-top g c =
    let s = g.H.Hasher.scheme c.args.hasher.now in
    let is = g.met.H.Hasher.scheme_is c.args.hasher.now in
    let es = c.args.leaves.now in
    let n = c.args.proof.now.leaves in
    let r = multi_digest_input_of c.args.proof.now es in
    let ok = c.requires.1 in
    let few : n ≤ g.F.Family.MAX_LEAVES = omega (arith, ok.leaves, ap (λ (z : Scheme g.row.H-Digest.Denot). z.max_leaves) is) in
    let located = locations_by es in
    let rule_is = sym (ap (λ (z : Scheme g.row.H-Digest.Denot). z.rule) is) in
    let h = g.H.Hasher.hashing c.args.hasher.now in
    let h_is = sym (ap (λ (z : Scheme g.row.H-Digest.Denot). z.hashing) is) in
    let given : LeafProof g.row.F.Denot g.row.H-Digest.Denot = record { positions = c.deref-2.result; digests = c.deref-3.result; locations = c.deref-4.result; leaves = c.deref-5.result } in
    let positions : given.positions.now ≡ multi_positions s.rule r.leaves (locations_in r) =
    c.deref-2.ensures.value ∙ c.in-Ok.ensures.positions ∙ ap₂ (λ rule is. multi_positions rule n is) rule_is (c.deref.ensures.value ∙ c.in_ok-locations.ensures ∙ sym located) in
    let locations : given.locations.now ≡ locations_in r = c.deref-4.ensures.value ∙ c.in_ok-locations.ensures ∙ sym located in
    let leaves : given.leaves.now ≡ leaves_in r = c.deref-5.ensures.value ∙ c.in_ok-leaf_digests.ensures ∙ sym (digests_by es) in
    let ts = peaks_of g.F.Family.rule n in
    let peaks = c.deref-6.ensures.value ∙ c.in_ok-peaks.ensures in
    let nodes = peaks_at g.F.Family.rule g.F.Family.MAX_LEAVES n few in
    let all : c.deref-7.result.now ≡ map (digest_given h given) ts =
    c.deref-7.ensures.value ∙ c.in_ok-below.ensures.digests ts peaks nodes ∙ ap (λ l. l ++ map (digest_given h given) ts) c.in_ok-digests.ensures.items in
    top_of_peaks s n c.args.proof.now.inactive_peaks c.deref-7.result.now (map (multi_digest s r) (peaks_of s.rule n)) c.in-Ok-above_peaks.top
    (all ∙ all_same s r h h_is given positions c.deref-3.ensures.value locations leaves ts ∙ ap (λ rule. map (multi_digest s r) (peaks_of rule n)) rule_is)
    c.in-Ok-above_peaks.ensures.root c.in-Ok-above_peaks.ensures.folds

pub returns-clause-below : goal.returns-clause-below
returns-clause-below g c = λ k lists.
    let s = g.H.Hasher.scheme c.args.hasher.now in
    let is = g.met.H.Hasher.scheme_is c.args.hasher.now in
    let es = c.args.leaves.now in
    let n = c.args.proof.now.leaves in
    let r = multi_digest_input_of c.args.proof.now es in
    let ok = c.requires.1 in
    let few : n ≤ g.F.Family.MAX_LEAVES = omega (arith, ok.leaves, ap (λ (z : Scheme g.row.H-Digest.Denot). z.max_leaves) is) in
    let located = locations_by es in
    let rule_is = sym (ap (λ (z : Scheme g.row.H-Digest.Denot). z.rule) is) in
    let h = g.H.Hasher.hashing c.args.hasher.now in
    let h_is = sym (ap (λ (z : Scheme g.row.H-Digest.Denot). z.hashing) is) in
    let given : LeafProof g.row.F.Denot g.row.H-Digest.Denot = record { positions = c.deref-2.result; digests = c.deref-3.result; locations = c.deref-4.result; leaves = c.deref-5.result } in
    let positions : given.positions.now ≡ multi_positions s.rule r.leaves (locations_in r) =
    c.deref-2.ensures.value ∙ c.in-Ok.ensures.positions ∙ ap₂ (λ rule is. multi_positions rule n is) rule_is (c.deref.ensures.value ∙ c.in_ok-locations.ensures ∙ sym located) in
    let locations : given.locations.now ≡ locations_in r = c.deref-4.ensures.value ∙ c.in_ok-locations.ensures ∙ sym located in
    let leaves : given.leaves.now ≡ leaves_in r = c.deref-5.ensures.value ∙ c.in_ok-leaf_digests.ensures ∙ sym (digests_by es) in
    let ts = peaks_of g.F.Family.rule n in
    let peaks = c.deref-6.ensures.value ∙ c.in_ok-peaks.ensures in
    let nodes = peaks_at g.F.Family.rule g.F.Family.MAX_LEAVES n few in
    let same = ap (λ rule. peaks_of rule n) rule_is in
    c.in_ok-below.ensures.found (peaks_of s.rule n) (peaks ∙ ap (map subtree_of) same) (subst (AreNodes g.F.Family.rule g.F.Family.MAX_LEAVES) same nodes)
    ∙ found_same s r h h_is given positions c.deref-3.ensures.value locations leaves (g.B.Hashes.hashed c.args.listed.now)
    ∙ walks_find_first.multi s r (g.B.Hashes.hashed c.args.listed.now) k lists
