use Rattle.std.proofs.Common.{◌≡◌, ◌-◌, length, drop, ap, ◌∙◌, subst}
use Rattle.std.specs.FinMap.{get}
use Rattle.merkle_base.proofs.Nodes.{size_inj}
use Rattle.merkle_batch.specs.HeldLeaves.{held_leaves, AreLeavesHeld}
use Rattle.merkle_batch_theory.specs.MemModel.{MemModel, contents}
use Rattle.merkle_batch_theory.proofs.ShownLists.{agrees_shows}
use Rattle.merkle_core.proofs.KeptLeaves.{kept_leaves}
use Rattle.merkle_core.proofs.mem.Mem.leaf_digests.Goals as goal

pub held_leaf_digests-requires : goal.held_leaf_digests-requires
held_leaf_digests-requires g c =
    let i = c.self.inside in
    subst (λ (s : MemModel _). AreLeavesHeld g.F.Family.rule g.F.Family.MAX_LEAVES (get s.stored) i.boundary i.leaves) c.self.view_is
    (kept_leaves g.F.Family.rule g.F.Family.MAX_LEAVES i.boundary i.leaves i.held c.self.invariant)

pub returns-clause-listed : goal.returns-clause-listed
returns-clause-listed g c =
    c.held_leaf_digests.ensures.listed ∙ ap (λ (s : MemModel _). held_leaves g.F.Family.rule (get c.args.self.now.stored) s.boundary s.leaves) c.self.view_is

pub returns-clause-count : goal.returns-clause-count
returns-clause-count g c = c.held_leaf_digests.ensures.count ∙ ap (λ (s : MemModel _). s.leaves - s.boundary) c.self.view_is

pub returns-clause-of_list : goal.returns-clause-of_list
returns-clause-of_list g c = λ h X agrees.
    let rule = g.F.Family.rule in
    let i = c.self.inside in
    let same : i.leaves ≡ length X = size_inj rule i.leaves (length X) (c.self.invariant.counted.sized ∙ ap (λ (s : MemModel _). s.size) c.self.view_is ∙ agrees.sized) in
    c.held_leaf_digests.ensures.shown h X (agrees_shows h rule (contents c.args.self.now) X agrees) same
    ∙ ap (λ (s : MemModel _). drop s.boundary X) c.self.view_is
