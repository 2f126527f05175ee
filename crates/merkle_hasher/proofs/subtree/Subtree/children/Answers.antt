use Rattle.std.proofs.Common.{arith, sym, subst, ℕ, ◌-◌}
use Rattle.merkle_base.specs.Tree.{join}
use Rattle.merkle_hasher.specs.Subtrees.{IsNodeOf}
use Rattle.merkle_hasher.proofs.Spans.{is_small, end_fits, left_stands, children_stand}
use Rattle.merkle_hasher.proofs.subtree.Subtree.children.Goals as goal

pub overflow_shl-height : goal.overflow_shl-height
overflow_shl-height g c = let w = c.requires in omega (arith, is_small _ _ _ g.met.F.Family.lawful _ _ _ (join w.0 w.1 w.2) w.3)

pub add-requires : goal.add-requires
add-requires g c =
    let w = c.requires in
    end_fits _ _ _ g.met.F.Family.lawful _ _ _ w.1 (left_stands _ _ _ g.met.F.Family.lawful _ _ _ w.0 w.1 w.2 w.3)

pub returns : goal.returns
returns g c = λ p a b w.
    let d = children_stand _ _ _ g.met.F.Family.lawful _ _ _ p _ _ a b w c.children-left.ensures in
    (d.0, subst (λ (x : ℕ). IsNodeOf g.F.Family.rule g.F.Family.MAX_LEAVES c.children-left.result.1 (c.args.self.now.height - 1) x b) (sym c.add.ensures) d.1)
