use Rattle.std.proofs.Common.{rules, ◌≡◌, ◌==◌, List, [], ◌∷◌, ◌++◌, ℕ, false, subst, sym, ap, ◌∙◌, append_assoc}
use Rattle.std.proofs.lemmas.List.{take-append-drop}
use Rattle.std.specs.List.{AllByRecursion}
use Rattle.merkle_lines.specs.Transcript.{ContinuesTo, IsLineAnswered}
use Rattle.merkle_lines.proofs.Transcripts.{appends_none, byte_after, leads_bytes, leads_end, leads_then}
use Rattle.merkle_lines.proofs.run.Answerer.take_line.Goals as goal

pub returns-in_ok-end_line-in-Some-clause-taken : goal.returns-in_ok-end_line-in-Some-clause-taken
returns-in_ok-end_line-in-Some-clause-taken g c = λ told tells.
    let bytes : List ℕ = c.args.bytes.now in
    let begun : List ℕ = c.args.self.now.line.items in
    let front : List ℕ = c.split_at.result.0.now in
    let back : List ℕ = c.split_at.result.1.now in
    let byte : ℕ = c.in-Some.field-0-0.now in
    let after : List ℕ = c.in-Some.after.now in
    let next : List ℕ = c.end_line.new.self.line.items in
    let grown : c.extend_from_slice.new.self.items ≡ begun ++ front = search rules in
    let plain : AllByRecursion (λ b. (b == 10) ≡ false) front = subst (AllByRecursion (λ b. (b == 10) ≡ false)) (sym c.split_at.ensures.front) c.begun_length.ensures.open in
    let whole : front ++ back ≡ bytes = rw (c.split_at.ensures.front, c.split_at.ensures.back) (take-append-drop c.begun_length.result bytes) in
    let rest : back ≡ byte ∷ after = search rules in
    let parts : (front ++ byte ∷ []) ++ after ≡ bytes = append_assoc front (byte ∷ []) after ∙ ap (λ (xs : List ℕ). front ++ xs) (sym rest) ∙ whole in
    let at = byte_after bytes c.begun_length.result byte after (sym c.split_at.ensures.back ∙ rest) in
    let ends : byte ≡ 10 = sym at.1 ∙ c.begun_length.ensures.ends at.0 in
    let s = c.in_ok-end_line-in-Some.ensures.answered told tells in
    let ended : ContinuesTo told (begun ++ front) (10 ∷ []) (s.1 ++ 10 ∷ []) s.0 [] = leads_end told s.0 (begun ++ front) s.1 (subst (λ (b : List ℕ). IsLineAnswered told b s.0 s.1) grown s.3) in
    let last : ContinuesTo told (begun ++ front) (byte ∷ []) (s.1 ++ 10 ∷ []) s.0 next = rw (ends, c.in_ok-end_line-in-Some.ensures.next) ended in
    (s.0, s.1 ++ 10 ∷ [], s.2, s.4, front ++ byte ∷ [], parts, leads_then told told s.0 begun (begun ++ front) next front (byte ∷ []) [] (s.1 ++ 10 ∷ []) (leads_bytes told begun front plain) last)

pub returns-in-None-clause-taken : goal.returns-in-None-clause-taken
returns-in-None-clause-taken g c = λ told tells.
    let bytes : List ℕ = c.args.bytes.now in
    let begun : List ℕ = c.args.self.now.line.items in
    let front : List ℕ = c.split_at.result.0.now in
    let grown : c.extend_from_slice.new.self.items ≡ begun ++ front = search rules in
    let plain : AllByRecursion (λ b. (b == 10) ≡ false) front = subst (AllByRecursion (λ b. (b == 10) ≡ false)) (sym c.split_at.ensures.front) c.begun_length.ensures.open in
    let whole : front ++ c.split_at.result.1.now ≡ bytes = rw (c.split_at.ensures.front, c.split_at.ensures.back) (take-append-drop c.begun_length.result bytes) in
    (told, [], tells, appends_none _, front, whole, subst (ContinuesTo told begun front [] told) (sym grown) (leads_bytes told begun front plain))
