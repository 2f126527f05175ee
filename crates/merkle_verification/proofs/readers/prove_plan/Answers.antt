use Rattle.std.proofs.Common.{◌≡◌, ◌≤◌, arith, length, length-take, map, take, ap, sym, subst, ◌∙◌, inr, Some}
use Rattle.std.proofs.lemmas.Result.{IfErr-weaker, IfOk-weaker}
use Rattle.merkle_base.specs.Places.{peaks_of}
use Rattle.merkle_base.specs.Table.{digest_for}
use Rattle.merkle_proof.specs.RangePlans.{IsFirstMissing}
use Rattle.merkle_verification.proofs.BuiltReads.{built_more, none_refused}
use Rattle.merkle_verification.proofs.HonestReads.{taken_answers}
use Rattle.merkle_verification.proofs.ListedReads.{found_is}
use Rattle.merkle_verification.proofs.readers.prove_plan.Goals as goal

pub returns-in-Ok-read_nodes-clause-built : goal.returns-in-Ok-read_nodes-clause-built
returns-in-Ok-read_nodes-clause-built g c =
    let node = g.R.Readable.node c.args.reader.now in let ps = c.deref-in-Ok-read_nodes.result.now in let ds = c.deref-in-Ok-read_nodes-2.result.now in
    let read : map Some ds ≡ map node ps = ap (map Some) c.deref-in-Ok-read_nodes-2.ensures.value ∙ c.in-Ok-read_nodes.ensures.ok
    ∙ ap (map node) (c.deref.ensures.value ∙ sym c.deref-in-Ok-read_nodes.ensures.value) in
    IfOk-weaker c.build_proof.result _ _
    (λ p built. built_more (digest_for ps ds) node (found_is node ps ds read) (g.H.Hasher.scheme c.args.hasher.now) c.args.inactive c.args.plan p
    built) c.build_proof.ensures.built

pub returns-in-Ok-read_nodes-clause-honest : goal.returns-in-Ok-read_nodes-clause-honest
returns-in-Ok-read_nodes-clause-honest g c = λ X shows within.
    let node = g.R.Readable.node c.args.reader.now in let ps = c.deref-in-Ok-read_nodes.result.now in let ds = c.deref-in-Ok-read_nodes-2.result.now in
    let read : map Some ds ≡ map node ps = ap (map Some) c.deref-in-Ok-read_nodes-2.ensures.value ∙ c.in-Ok-read_nodes.ensures.ok
    ∙ ap (map node) (c.deref.ensures.value ∙ sym c.deref-in-Ok-read_nodes.ensures.value) in
    let n = c.args.plan.leaves in
    c.build_proof.ensures.honest (take n X) (omega (arith, within, length-take n X))
    (taken_answers (g.H.Hasher.hashing c.args.hasher.now) g.R.Family.Family.rule (g.R.Readable.size c.args.reader.now) node X shows n within ps ds read)

pub returns-in-Ok-read_nodes-clause-err : goal.returns-in-Ok-read_nodes-clause-err
returns-in-Ok-read_nodes-clause-err g c =
    let node = g.R.Readable.node c.args.reader.now in let ps = c.deref-in-Ok-read_nodes.result.now in let ds = c.deref-in-Ok-read_nodes-2.result.now in
    let read : map Some ds ≡ map node ps = ap (map Some) c.deref-in-Ok-read_nodes-2.ensures.value ∙ c.in-Ok-read_nodes.ensures.ok
    ∙ ap (map node) (c.deref.ensures.value ∙ sym c.deref-in-Ok-read_nodes.ensures.value) in
    let rule = g.R.Family.Family.rule in let r = c.args.plan in
    let few : c.args.inactive ≤ length (peaks_of rule r.leaves) = omega (arith, c.if-inactive-peak_count.false, c.peak_count.ensures, ap (λ n. length (peaks_of rule n)) c.leaves.ensures) in
    IfErr-weaker c.build_proof.result _ _ (λ e refused other. absurd (none_refused rule r.leaves r.start r.end node ps ds (c.deref-in-Ok-read_nodes.ensures.value ∙ c.in-Ok.ensures.ok) read
    (g.H.Hasher.bagging_of c.args.hasher.now) c.args.inactive few e (refused other))) c.build_proof.ensures.err

pub returns-in-Err-read_nodes-clause-err : goal.returns-in-Err-read_nodes-clause-err
returns-in-Err-read_nodes-clause-err g c = λ other.
    let rule = g.R.Family.Family.rule in let r = c.args.plan in let w = c.in-Err-read_nodes.ensures.err other in
    let few : c.args.inactive ≤ length (peaks_of rule r.leaves) = omega (arith, c.if-inactive-peak_count.false, c.peak_count.ensures, ap (λ n. length (peaks_of rule n)) c.leaves.ensures) in
    inr (few, (w.0, w.1, subst (λ ps. IsFirstMissing (λ q o. o ≡ g.R.Readable.node c.args.reader.now q) ps w.0) (c.deref.ensures.value ∙ c.in-Ok.ensures.ok) w.2))
