use Rattle.std.proofs.Common.{◌++◌, List, ℕ, ap, ◌∙◌, append_assoc}
use Rattle.merkle_lines.proofs.Transcripts.{appends_then, leads_then}
use Rattle.merkle_lines.proofs.run.Answerer.take.Goals as goal

pub loop-rest-preserved : goal.loop-rest-preserved
loop-rest-preserved g c = λ told tells.
    let begun : List ℕ = c.args.self.now.line.items in
    let next : List ℕ = c.take_line.new.self.line.items in
    let w = c.loop-rest.invariant told tells in
    let s = c.in_ok-rest.ensures.taken w.0 w.2 in (
      s.0,
      w.1 ++ s.1,
      s.2,
      appends_then _ _ _ w.1 s.1 w.3 s.3,
      w.4 ++ s.4,
      append_assoc w.4 s.4 c.in_ok-rest.rest.now ∙ ap (λ (xs : List ℕ). w.4 ++ xs) s.5 ∙ w.5,
      leads_then told w.0 s.0 begun c.loop-rest.self.line.items next w.4 s.4 w.1 s.1 w.6 s.6,
    )
