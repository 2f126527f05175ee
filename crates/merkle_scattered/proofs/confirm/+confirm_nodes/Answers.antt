use Rattle.std.proofs.Common.{◌≡◌, ◌≢◌, ◌++◌, List, length, map, IsNone, ap, sym, subst, arith, rules, ◌∙◌}
use Rattle.std.proofs.lemmas.List.{length-map}
use Rattle.std.proofs.lemmas.Option.{IfSome_then}
use Rattle.merkle_base.specs.Tree.{Tree}
use Rattle.merkle_base.specs.Table.{digest_for}
use Rattle.merkle_root_theory.specs.Expression.{value}
use Rattle.merkle_root_theory.proofs.Grouping.{if_ok}
use Rattle.merkle_scattered.specs.Confirmed.{AreChecked, EachHolds, node_checked, nodes_checked, checked_node, all_children_met, all_parents_met}
use Rattle.merkle_scattered.proofs.ConfirmedNodes.{no_children_left, no_parents, holds_children, children_nodes, children_are_lower}
use Rattle.merkle_scattered.proofs.confirm.+confirm_nodes.Goals as goal

pub confirm_over-requires-clause-nodes : goal.confirm_over-requires-clause-nodes
confirm_over-requires-clause-nodes g t c =
    let h = g.H.Hasher.hashing c.args.hasher.now in
    let a = digest_for c.args.told.now.positions.now c.args.told.now.digests.now in
    let es = c.args.located.now in
    let n = c.requires.nodes in
    let listed = c.in_ok-push_children.ensures n.0 n.1 ∙ ap (λ z. z ++ map (checked_node es) (all_children_met es n.0)) c.in_ok-children.ensures.items in
    let none : length c.push_children.new.children.items ≡ 0 = search rules in
    (n.0, n.1, c.deref.ensures.value ∙ c.in_ok-parents.ensures.items ∙ sym (no_parents es h a n.0 (no_children_left es n.0 c.push_children.new.children.items listed none)))

pub returns-then-is_empty-clause-some : goal.returns-then-is_empty-clause-some
returns-then-is_empty-clause-some g t c =
    let h = g.H.Hasher.hashing c.args.hasher.now in
    let a = digest_for c.args.told.now.positions.now c.args.told.now.digests.now in
    let es = c.args.located.now in
    let none : length c.push_children.new.children.items ≡ 0 = search rules in
    if_ok c.confirm_over.result (λ o s. IfSome_then o s (λ v f ts w.
    let listed = c.in_ok-push_children.ensures ts w ∙ ap (λ z. z ++ map (checked_node es) (all_children_met es ts)) c.in_ok-children.ensures.items in
    let left = no_children_left es ts c.push_children.new.children.items listed none in
    f ts w (c.deref.ensures.value ∙ c.in_ok-parents.ensures.items ∙ sym (no_parents es h a ts left)) (subst (EachHolds h a es) (sym left) tt))) c.confirm_over.ensures.some

pub returns-then-is_empty-clause-none : goal.returns-then-is_empty-clause-none
returns-then-is_empty-clause-none g t c =
    let h = g.H.Hasher.hashing c.args.hasher.now in
    let a = digest_for c.args.told.now.positions.now c.args.told.now.digests.now in
    let es = c.args.located.now in
    let none : length c.push_children.new.children.items ≡ 0 = search rules in
    if_ok c.confirm_over.result (λ o f is_none ts w.
    let listed = c.in_ok-push_children.ensures ts w ∙ ap (λ z. z ++ map (checked_node es) (all_children_met es ts)) c.in_ok-children.ensures.items in
    let left = no_children_left es ts c.push_children.new.children.items listed none in
    f is_none ts w (c.deref.ensures.value ∙ c.in_ok-parents.ensures.items ∙ sym (no_parents es h a ts left))) c.confirm_over.ensures.none

pub confirm_nodes-requires : goal.confirm_nodes-requires
confirm_nodes-requires g t c κs within =
    let es = c.args.located.now in
    let n = c.requires.nodes in
    let listed = c.deref-2.ensures.value ∙ c.in_ok-push_children.ensures n.0 n.1 ∙ ap (λ z. z ++ map (checked_node es) (all_children_met es n.0)) c.in_ok-children.ensures.items in
    let some : length c.deref-2.result.now ≢ 0 = search rules in
    let lower = children_are_lower es g.F.Family.rule g.F.Family.MAX_LEAVES _ g.met.F.Family.lawful c.args.nodes.now c.deref-2.result.now n.0 n.1 listed some in (
      omega (arith, lower, c.decreases),
      (
        within.0,
        (
          within.1.0,
          (
            within.1.1.0,
            (
              within.1.1.1.0,
              (
                within.1.1.1.1,
                (
                  c.requires.rises,
                  (
                    c.requires.ascend,
                    (all_children_met es n.0, (listed, children_nodes es g.F.Family.rule g.F.Family.MAX_LEAVES n.0 n.1.1)),
                  ),
                ),
              ),
            ),
          ),
        ),
      ),
    )

pub returns-in_default-clause-none : goal.returns-in_default-clause-none
returns-in_default-clause-none g t c = λ _ ts w all.
    let h = g.H.Hasher.hashing c.args.hasher.now in
    let a = digest_for c.args.told.now.positions.now c.args.told.now.digests.now in
    let es = c.args.located.now in
    let listed = c.deref-2.ensures.value ∙ c.in_ok-push_children.ensures ts w ∙ ap (λ z. z ++ map (checked_node es) (all_children_met es ts)) c.in_ok-children.ensures.items in
    let none : IsNone c.in_ok-below.field-0 = search rules in
    c.in_ok-below.ensures.none none (all_children_met es ts) (listed, children_nodes es g.F.Family.rule g.F.Family.MAX_LEAVES ts w.1) (holds_children es h a ts all)

pub push_parents-requires : goal.push_parents-requires
push_parents-requires g t c =
    let h = g.H.Hasher.hashing c.args.hasher.now in
    let a = digest_for c.args.told.now.positions.now c.args.told.now.digests.now in
    let es = c.args.located.now in
    let n = c.requires.nodes in
    let listed = c.deref-2.ensures.value ∙ c.in_ok-push_children.ensures n.0 n.1 ∙ ap (λ z. z ++ map (checked_node es) (all_children_met es n.0)) c.in_ok-children.ensures.items in
    let each : (us : List Tree) → AreChecked g.F.Family.rule g.F.Family.MAX_LEAVES es c.deref-2.result.now us → EachHolds h a es us
    × (c.in-Some.below.items ≡ nodes_checked h a es us) = search rules in
    let below = each (all_children_met es n.0) (listed, children_nodes es g.F.Family.rule g.F.Family.MAX_LEAVES n.0 n.1.1) in
    record { nodes = (es, n.0, c.requires.ascend, n.1, ap length (c.deref-3.ensures.value ∙ below.1) ∙ length-map (all_children_met es n.0) (λ t. value h (node_checked h a es t))) }

pub confirm_over-requires-2-clause-nodes : goal.confirm_over-requires-2-clause-nodes
confirm_over-requires-2-clause-nodes g t c =
    let h = g.H.Hasher.hashing c.args.hasher.now in
    let a = digest_for c.args.told.now.positions.now c.args.told.now.digests.now in
    let es = c.args.located.now in
    let n = c.requires.nodes in
    let listed = c.deref-2.ensures.value ∙ c.in_ok-push_children.ensures n.0 n.1 ∙ ap (λ z. z ++ map (checked_node es) (all_children_met es n.0)) c.in_ok-children.ensures.items in
    let each : (us : List Tree) → AreChecked g.F.Family.rule g.F.Family.MAX_LEAVES es c.deref-2.result.now us → EachHolds h a es us
    × (c.in-Some.below.items ≡ nodes_checked h a es us) = search rules in
    let below = each (all_children_met es n.0) (listed, children_nodes es g.F.Family.rule g.F.Family.MAX_LEAVES n.0 n.1.1) in (
      n.0,
      n.1,
      c.deref-4.ensures.value ∙ c.in_ok-push_parents.ensures h a es n.0 c.requires.ascend n.1 (c.deref-3.ensures.value ∙ below.1)
          ∙ ap (λ z. z ++ all_parents_met h a es n.0) c.in_ok-parents.ensures.items,
    )

pub returns-clause-some : goal.returns-clause-some
returns-clause-some g t c =
    let h = g.H.Hasher.hashing c.args.hasher.now in
    let a = digest_for c.args.told.now.positions.now c.args.told.now.digests.now in
    let es = c.args.located.now in
    let each : (us : List Tree) → AreChecked g.F.Family.rule g.F.Family.MAX_LEAVES es c.deref-2.result.now us → EachHolds h a es us
    × (c.in-Some.below.items ≡ nodes_checked h a es us) = search rules in
    if_ok c.confirm_over-2.result (λ o s. IfSome_then o s (λ v f ts w.
    let listed = c.deref-2.ensures.value ∙ c.in_ok-push_children.ensures ts w ∙ ap (λ z. z ++ map (checked_node es) (all_children_met es ts)) c.in_ok-children.ensures.items in
    let below = each (all_children_met es ts) (listed, children_nodes es g.F.Family.rule g.F.Family.MAX_LEAVES ts w.1) in
    f ts w (c.deref-4.ensures.value ∙ c.in_ok-push_parents.ensures h a es ts c.requires.ascend w (c.deref-3.ensures.value ∙ below.1)
    ∙ ap (λ z. z ++ all_parents_met h a es ts) c.in_ok-parents.ensures.items) below.0)) c.confirm_over-2.ensures.some

pub returns-clause-none : goal.returns-clause-none
returns-clause-none g t c =
    let h = g.H.Hasher.hashing c.args.hasher.now in
    let a = digest_for c.args.told.now.positions.now c.args.told.now.digests.now in
    let es = c.args.located.now in
    let each : (us : List Tree) → AreChecked g.F.Family.rule g.F.Family.MAX_LEAVES es c.deref-2.result.now us → EachHolds h a es us
    × (c.in-Some.below.items ≡ nodes_checked h a es us) = search rules in
    if_ok c.confirm_over-2.result (λ o f is_none ts w.
    let listed = c.deref-2.ensures.value ∙ c.in_ok-push_children.ensures ts w ∙ ap (λ z. z ++ map (checked_node es) (all_children_met es ts)) c.in_ok-children.ensures.items in
    let below = each (all_children_met es ts) (listed, children_nodes es g.F.Family.rule g.F.Family.MAX_LEAVES ts w.1) in
    f is_none ts w (c.deref-4.ensures.value ∙ c.in_ok-push_parents.ensures h a es ts c.requires.ascend w (c.deref-3.ensures.value ∙ below.1)
    ∙ ap (λ z. z ++ all_parents_met h a es ts) c.in_ok-parents.ensures.items)) c.confirm_over-2.ensures.none
