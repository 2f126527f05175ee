use Rattle.std.proofs.Common.{◌≢◌, ◌+◌, ℕ, List, Option, length, arith, sym, subst}
use Rattle.std.specs.Prelude.{IfErr, OnOk}
use Rattle.std.specs.List.{Contains}
use Rattle.std.proofs.lemmas.List.Elements.{Contains-get_or}
use Rattle.merkle_draft.specs.DraftReads.{below, stored_node}
use Rattle.merkle_draft.specs.NewDigests.{LacksChild}
use Rattle.merkle_draft.specs.Settled.{AreSettled, IsStage}
use Rattle.merkle_draft.specs.declared.node_error.NodeError.TheVariants.{OutOfMemory}
use Rattle.merkle_draft.proofs.Stages.{one_listed}
use Rattle.merkle_draft.proofs.draft.Draft.compute_level.Goals as goal

pub compute_node-requires-clause-stored : goal.compute_node-requires-clause-stored
compute_node-requires-clause-stored g c =
    let p = c.position-item.result in
    c.requires.stored p (subst (λ (x : ℕ). Contains c.args.positions.now x) (sym c.position-item.is) (Contains-get_or c.args.positions.now 0 p (omega (arith, c.in-len1.len_at_least))))

pub returns-in-len1-clause-settled : goal.returns-in-len1-clause-settled
returns-in-len1-clause-settled g c =
    let h = g.H.Hasher.hashing c.args.hasher.now in
    let rule = g.F.Family.rule in
    let max = g.F.Family.MAX_LEAVES in
    let self = c.args.self.now in
    let under = below self (g.B.Base.contents c.args.base.now) in
    let one = one_listed c.args.positions.now c.position-item.result c.in-len1.len_at_least c.in-len1.len_below c.position-item.is in
    subst (λ (ps : List ℕ). OnOk c.compute_node.result
    ((m : ℕ → Option g.row.D.Denot) (n : ℕ) (ds : List g.row.D.Denot) (later : List ℕ)
    → IsStage h rule max m under n ds self.before c.args.height ps later (stored_node self)
    → AreSettled h rule m under n ds later (stored_node c.compute_node.new.self))) (sym one) c.compute_node.ensures.settled

pub returns-in-len1-clause-missing : goal.returns-in-len1-clause-missing
returns-in-len1-clause-missing g c =
    let h = g.H.Hasher.hashing c.args.hasher.now in
    let rule = g.F.Family.rule in
    let max = g.F.Family.MAX_LEAVES in
    let self = c.args.self.now in
    let under = below self (g.B.Base.contents c.args.base.now) in
    let one = one_listed c.args.positions.now c.position-item.result c.in-len1.len_at_least c.in-len1.len_below c.position-item.is in
    subst (λ (ps : List ℕ). IfErr c.compute_node.result
    (λ e. e ≢ OutOfMemory → (m : ℕ → Option g.row.D.Denot) (n : ℕ) (ds : List g.row.D.Denot) (later : List ℕ)
    → IsStage h rule max m under n ds self.before c.args.height ps later (stored_node self)
    → LacksChild rule m under n (n + length ds) e)) (sym one) c.compute_node.ensures.missing
