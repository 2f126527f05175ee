use Rattle.std.proofs.Common.{◌≡◌, Some, sym, ap, ◌∙◌, slice_index_or}
use Rattle.merkle_restore.proofs.HasherFacts.{same_test}
use Rattle.merkle_restore.proofs.FourNodes.{first_passed, second_passed, third_passed, fourth_found, fourth_passed, same_fourth}
use Rattle.merkle_restore.proofs.damage.compare_four.Goals as goal

pub returns-then-holds_other-4 : goal.returns-then-holds_other-4
returns-then-holds_other-4 g c =
    let h = g.H.Hasher.hashing c.args.hasher.now in
    let held = (g.B.Base.contents c.args.base.now).node in
    let xs = c.args.nodes.now in
    let over = g.met.H.Hasher.over_digest c.args.hasher.now in
    let r = c.node_digests_four-first.result in
    let hashed = c.node_digests_four-first.ensures in
    let x = slice_index_or xs 0 c.index-nodes-0.result in
    let y = slice_index_or xs 1 c.index-nodes-1.result in
    let z = slice_index_or xs 2 c.index-nodes-2.result in
    let u = slice_index_or xs 3 c.index-nodes-3.result in
    let v = slice_index_or xs 3 c.index-nodes-3-then-holds_other-4.result in
    let u-is = ap (λ e. slice_index_or xs 3 e) c.index-nodes-3.is in
    let v-is = ap (λ e. slice_index_or xs 3 e) c.index-nodes-3-then-holds_other-4.is in
    let first = first_passed h held xs r.0 r.1 r.2 r.3 hashed x (ap (λ e. slice_index_or xs 0 e) c.index-nodes-0.is)
    (sym (same_test _ _ _ _ over _ _) ∙ sym c.holds_other.ensures ∙ c.if-holds_other.false) in
    let second = second_passed h held xs r.0 r.1 r.2 r.3 hashed y (ap (λ e. slice_index_or xs 1 e) c.index-nodes-1.is)
    (sym (same_test _ _ _ _ over _ _) ∙ sym c.holds_other-2.ensures ∙ c.if-holds_other-2.false) in
    let third = third_passed h held xs r.0 r.1 r.2 r.3 hashed z (ap (λ e. slice_index_or xs 2 e) c.index-nodes-2.is)
    (sym (same_test _ _ _ _ over _ _) ∙ sym c.holds_other-3.ensures ∙ c.if-holds_other-3.false) in
    let last = fourth_found h held xs r.0 r.1 r.2 r.3 hashed u u-is (sym (same_test _ _ _ _ over _ _) ∙ sym c.holds_other-4.ensures ∙ c.if-holds_other-4.true) in
    let same : v ≡ u = same_fourth h held xs r.0 r.1 r.2 r.3 hashed v v-is ∙ sym (same_fourth h held xs r.0 r.1 r.2 r.3 hashed u u-is) in
    ap (λ e. Some e.0) same ∙ sym (first ∙ second ∙ third ∙ last)

pub returns : goal.returns
returns g c =
    let h = g.H.Hasher.hashing c.args.hasher.now in
    let held = (g.B.Base.contents c.args.base.now).node in
    let xs = c.args.nodes.now in
    let over = g.met.H.Hasher.over_digest c.args.hasher.now in
    let r = c.node_digests_four-first.result in
    let hashed = c.node_digests_four-first.ensures in
    let x = slice_index_or xs 0 c.index-nodes-0.result in
    let y = slice_index_or xs 1 c.index-nodes-1.result in
    let z = slice_index_or xs 2 c.index-nodes-2.result in
    let u = slice_index_or xs 3 c.index-nodes-3.result in
    let first = first_passed h held xs r.0 r.1 r.2 r.3 hashed x (ap (λ e. slice_index_or xs 0 e) c.index-nodes-0.is)
    (sym (same_test _ _ _ _ over _ _) ∙ sym c.holds_other.ensures ∙ c.if-holds_other.false) in
    let second = second_passed h held xs r.0 r.1 r.2 r.3 hashed y (ap (λ e. slice_index_or xs 1 e) c.index-nodes-1.is)
    (sym (same_test _ _ _ _ over _ _) ∙ sym c.holds_other-2.ensures ∙ c.if-holds_other-2.false) in
    let third = third_passed h held xs r.0 r.1 r.2 r.3 hashed z (ap (λ e. slice_index_or xs 2 e) c.index-nodes-2.is)
    (sym (same_test _ _ _ _ over _ _) ∙ sym c.holds_other-3.ensures ∙ c.if-holds_other-3.false) in
    let last = fourth_passed h held xs r.0 r.1 r.2 r.3 hashed u (ap (λ e. slice_index_or xs 3 e) c.index-nodes-3.is)
    (sym (same_test _ _ _ _ over _ _) ∙ sym c.holds_other-4.ensures ∙ c.if-holds_other-4.false) in
    sym (first ∙ second ∙ third ∙ last)
