use Rattle.std.proofs.Common.{◌<◌, ◌++◌, [], None, length, take, arith, subst, sym, ◌∙◌}
use Rattle.std.proofs.lemmas.Result.{on_ok_weaker}
use Rattle.std.specs.Io.KnownBytes.{Appends, Consumes}
use Rattle.merkle_lines.specs.HoldsState.{HoldsState}
use Rattle.merkle_lines.specs.Transcript.{ContinuesTo}
use Rattle.merkle_lines.proofs.Transcripts.{appends_then, consumes_all, consumes_kept, consumes_then, leads_all, leads_then}
use Rattle.merkle_lines.proofs.run.Answerer.answer_all.Goals as goal
use Rattle.merkle_lines.proofs.run.Answerer.answer_all.Goals.{in-Ok+in_ok-take-in-Ok, in-Err+else-ne}

pub returns-in-Ok-eq0 : goal.returns-in-Ok-eq0
returns-in-Ok-eq0 g c = record {
  transcript =
      let i = c.loop.invariant in
      let read = c.in-Ok-eq0.ensures.bytes in
      let room : 0 < length c.read.new.buf = omega (arith, c.read.auto.buf, i.0) in
      let rest : Consumes (g.R.Read.remaining c.loop.reader) (g.R.Read.remaining c.read.new.self) [] =
      subst (λ n. Consumes (g.R.Read.remaining c.loop.reader) (g.R.Read.remaining c.read.new.self) (take n c.read.new.buf)) c.in-Ok-eq0.field-0-test read.0 in
      on_ok_weaker c.finish.result (λ finished.
      let last = finished i.3 i.4 in (
        i.1,
        i.2 ++ last.0,
        consumes_all _ _ _ i.1 i.5 rest,
        read.1 c.in-Ok-eq0.field-0-test room,
        appends_then _ _ _ i.2 last.0 i.6 last.1,
        leads_all None i.3 [] c.loop.self.line.items i.1 i.2 last.0 i.7 last.2,
      )) c.finish.ensures;
}

pub loop-preserved : goal.loop-preserved
loop-preserved g c =
    let i = c.loop.invariant in
    let was = g.R.Read.remaining c.args.reader.now in
    let now = g.R.Read.remaining c.read.new.self in
    let held = g.W.Write.contents c.args.writer.now in
    elim c.match-read.branch [
      | in-Ok+in_ok-take-in-Ok w ↦
          (let t = w.in_ok-take-in-Ok.ensures i.3 i.4 in (
            c.read.auto.buf ∙ i.0,
            _,
            i.2 ++ t.1,
            t.0,
            subst (λ a. HoldsState a.session t.0) (sym w.self-is) t.2,
            consumes_then _ _ _ i.1 _ i.5 w.in-Ok.ensures.bytes.0,
            subst (λ x. Appends held (g.W.Write.contents x) (i.2 ++ t.1)) (sym w.writer-is) (appends_then _ _ _ i.2 t.1 i.6 t.3),
            subst (λ a. ContinuesTo None [] (i.1 ++ take w.in-Ok.count c.read.new.buf) (i.2 ++ t.1) t.0 a.line.items) (sym w.self-is)
                (leads_then None i.3 t.0 [] c.loop.self.line.items w.take.new.self.line.items i.1 _ i.2 t.1 i.7 t.4),
          ))
      | in-Err+else-ne w ↦ (
        c.read.auto.buf ∙ i.0,
        i.1,
        i.2,
        i.3,
        subst (λ a. HoldsState a.session i.3) (sym w.self-is) i.4,
        consumes_kept _ _ _ i.1 i.5 w.in-Err.ensures.bytes,
        subst (λ x. Appends held (g.W.Write.contents x) i.2) (sym w.writer-is) i.6,
        subst (λ a. ContinuesTo None [] i.1 i.2 i.3 a.line.items) (sym w.self-is) i.7,
      )
    ]
