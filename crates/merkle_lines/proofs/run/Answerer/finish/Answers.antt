use Rattle.std.proofs.Common.{◌≡◌, ◌++◌, ◌∷◌, [], false, sym, subst, ◌∙◌}
use Rattle.std.specs.Prelude.{◌==◌}
use Rattle.merkle_lines.proofs.Transcripts.{appends_kept, last_line, on_ok}
use Rattle.merkle_lines.proofs.run.Answerer.finish.Goals as goal

pub returns : goal.returns
returns g c = on_ok c.flush-2.result (λ told tells.
    let w = c.in_ok-end_line.ensures.answered told tells in (
      w.1 ++ 10 ∷ [],
      appends_kept _ _ _ _ w.4 c.flush-2.ensures,
      last_line told w.0 c.args.self.now.line.items w.1 (subst (λ n. (n == 0) ≡ false) c.args.self.now.line.ok.0 (sym c.is_empty.ensures ∙ c.if-is_empty.false)) w.3,
    ))
