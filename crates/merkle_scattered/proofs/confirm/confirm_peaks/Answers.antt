use Rattle.std.proofs.Common.{◌∙◌}
use Rattle.std.proofs.lemmas.Option.{IfSome_then}
use Rattle.merkle_base.specs.Places.{peaks_of}
use Rattle.merkle_hasher.proofs.PeakNodes.{peaks_at}
use Rattle.merkle_root_theory.proofs.Grouping.{if_ok}
use Rattle.merkle_scattered.specs.Confirmed.{AreChecked}
use Rattle.merkle_scattered.proofs.confirm.confirm_peaks.Goals as goal

pub confirm_nodes-requires-clause-nodes : goal.confirm_nodes-requires-clause-nodes
confirm_nodes-requires-clause-nodes g c =
    (peaks_of g.F.Family.rule c.args.leaves, (c.deref.ensures.value ∙ c.in_ok-peaks.ensures, peaks_at g.F.Family.rule g.F.Family.MAX_LEAVES c.args.leaves c.requires.within_max_leaves))

pub returns-clause-some : goal.returns-clause-some
returns-clause-some g c =
    let w : AreChecked g.F.Family.rule g.F.Family.MAX_LEAVES c.args.located.now c.deref.result.now (peaks_of g.F.Family.rule c.args.leaves) =
    (c.deref.ensures.value ∙ c.in_ok-peaks.ensures, peaks_at g.F.Family.rule g.F.Family.MAX_LEAVES c.args.leaves c.requires.within_max_leaves) in
    if_ok c.confirm_nodes.result (λ o s. IfSome_then o s (λ v f. f (peaks_of g.F.Family.rule c.args.leaves) w)) c.confirm_nodes.ensures.some

pub returns-clause-none : goal.returns-clause-none
returns-clause-none g c =
    let w : AreChecked g.F.Family.rule g.F.Family.MAX_LEAVES c.args.located.now c.deref.result.now (peaks_of g.F.Family.rule c.args.leaves) =
    (c.deref.ensures.value ∙ c.in_ok-peaks.ensures, peaks_at g.F.Family.rule g.F.Family.MAX_LEAVES c.args.leaves c.requires.within_max_leaves) in
    if_ok c.confirm_nodes.result (λ o f none. f none (peaks_of g.F.Family.rule c.args.leaves) w) c.confirm_nodes.ensures.none
