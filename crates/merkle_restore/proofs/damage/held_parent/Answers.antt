use Rattle.std.proofs.Common.{sym, ap, ◌∙◌}
use Rattle.std.specs.Option.{option_to_list}
use Rattle.merkle_restore.proofs.ParentLists.{inner_parent, with_none_left, with_none_right, with_some}
use Rattle.merkle_restore.proofs.damage.held_parent.Goals as goal

pub returns-in_err-left_digest : goal.returns-in_err-left_digest
returns-in_err-left_digest g c = λ n t e.
    inner_parent g.F.Family.rule g.F.Family.MAX_LEAVES (g.B.Base.contents c.args.base.now).node n c.args.position c.args.height
    c.children-left.result.0 c.children-left.result.1 t c.requires.inner e c.children-left.ensures
    ∙ with_none_left c.args.position _ _ (sym c.in_err-left_digest.ensures) ∙ sym (ap option_to_list c.from_residual.ensures)

pub returns-in_err-right_digest : goal.returns-in_err-right_digest
returns-in_err-right_digest g c = λ n t e.
    inner_parent g.F.Family.rule g.F.Family.MAX_LEAVES (g.B.Base.contents c.args.base.now).node n c.args.position c.args.height
    c.children-left.result.0 c.children-left.result.1 t c.requires.inner e c.children-left.ensures
    ∙ with_none_right c.args.position _ _ (sym c.in_err-right_digest.ensures) ∙ sym (ap option_to_list c.from_residual-in_err-right_digest.ensures)

pub returns : goal.returns
returns g c = λ n t e.
    inner_parent g.F.Family.rule g.F.Family.MAX_LEAVES (g.B.Base.contents c.args.base.now).node n c.args.position c.args.height
    c.children-left.result.0 c.children-left.result.1 t c.requires.inner e c.children-left.ensures
    ∙ with_some c.args.position _ _ c.in_ok-left_digest.left_digest c.in_ok-right_digest.right_digest (sym c.in_ok-left_digest.ensures) (sym c.in_ok-right_digest.ensures)
