-- Bytes are answered line by line.
use Rattle.std.proofs.Common.{◌≡◌, ℕ, zero, suc, ◌<◌, List, [], ◌∷◌, ◌++◌, length, drop, slice_index, arith, Option, None, Some, Result, Ok, Err, false, cond}
use Rattle.std.proofs.Common.{refl, sym, ap, ◌∙◌, subst, append_assoc, append-nil}
use Rattle.std.specs.Prelude.{◌==◌, OnOk}
use Rattle.std.specs.List.{AllByRecursion}
use Rattle.std.specs.Io.KnownBytes.{Appends, Consumes, Keeps}
use Rattle.merkle_lines.specs.Transcript.{SessionState, IsLineAnswered, IsTranscript, ContinuesTo, lines_after}

-- no bytes need no answer
pub leads_none : (told : Option SessionState) (begun : List ℕ) → ContinuesTo told begun [] [] told begun
leads_none told begun more rest t = t

-- a byte that ends no line
pub leads_byte : (told : Option SessionState) (begun : List ℕ) (b : ℕ) → (b == 10) ≡ false → ContinuesTo told begun (b ∷ []) [] told (begun ++ b ∷ [])
leads_byte told begun b e more rest t = subst (λ c. IsTranscript told (cond c (begun ∷ lines_after more []) (lines_after more (begun ++ b ∷ []))) rest) (sym e) t

-- the byte that ends a line, which is answered
pub leads_end : (told v : Option SessionState) (begun text : List ℕ) → IsLineAnswered told begun v text → ContinuesTo told begun (10 ∷ []) (text ++ 10 ∷ []) v []
leads_end told v begun text answered more rest t = (v, text, rest, answered, append_assoc text (10 ∷ []) rest, t)

-- bytes after bytes
pub leads_then : (told u v : Option SessionState) (begun next last xs ys out more : List ℕ) → ContinuesTo told begun xs out u next
    → ContinuesTo u next ys more v last → ContinuesTo told begun (xs ++ ys) (out ++ more) v last
leads_then told u v begun next last xs ys out more first second zs rest t =
    let w = first (ys ++ zs) (more ++ rest) (second zs rest t) in
    subst (λ bs. IsTranscript told (lines_after bs begun) ((out ++ more) ++ rest)) (sym (append_assoc xs ys zs))
    (subst (IsTranscript told (lines_after (xs ++ (ys ++ zs)) begun)) (sym (append_assoc out more rest)) w)

-- a last line that nothing ends
pub last_line : (told v : Option SessionState) (begun text : List ℕ) → (length begun == 0) ≡ false → IsLineAnswered told begun v text → IsTranscript told (lines_after [] begun) (text ++ 10 ∷ [])
last_line told v begun text e answered = subst (λ c. IsTranscript told (cond c [] (begun ∷ [])) (text ++ 10 ∷ [])) (sym e) (v, text, [], answered, refl, refl)

-- all bytes
pub leads_all : (told v : Option SessionState) (begun next bytes out rest : List ℕ) → ContinuesTo told begun bytes out v next
    → IsTranscript v (lines_after [] next) rest → IsTranscript told (lines_after bytes begun) (out ++ rest)
leads_all told v begun next bytes out rest l t = subst (λ bs. IsTranscript told (lines_after bs begun) (out ++ rest)) (append-nil bytes) (l [] rest t)

-- known bytes that grow twice
pub appends_then : (a b c : Option (List ℕ)) (xs ys : List ℕ) → Appends a b xs → Appends b c ys → Appends a c (xs ++ ys)
appends_then None b c xs ys p q = tt
appends_then (Some us) None c xs ys p q = absurd p
appends_then (Some us) (Some vs) None xs ys p q = absurd q
appends_then (Some us) (Some vs) (Some ws) xs ys p q = q ∙ ap (λ zs. zs ++ ys) p ∙ append_assoc us xs ys

pub appends_none : (a : Option (List ℕ)) → Appends a a []
appends_none None = tt
appends_none (Some us) = sym (append-nil us)

-- and those that are taken twice
pub consumes_then : (a b c : Option (List ℕ)) (xs ys : List ℕ) → Consumes a b xs → Consumes b c ys → Consumes a c (xs ++ ys)
consumes_then None b c xs ys p q = tt
consumes_then (Some us) None c xs ys p q = absurd p
consumes_then (Some us) (Some vs) None xs ys p q = absurd q
consumes_then (Some us) (Some vs) (Some ws) xs ys p q = p ∙ ap (λ zs. xs ++ zs) q ∙ sym (append_assoc xs ys ws)

pub consumes_none : (a : Option (List ℕ)) → Consumes a a []
consumes_none None = tt
consumes_none (Some us) = refl

-- and those that stay after they grew
pub appends_kept : (a b c : Option (List ℕ)) (xs : List ℕ) → Appends a b xs → Keeps b c → Appends a c xs
appends_kept None b c xs p k = tt
appends_kept (Some us) None c xs p k = absurd p
appends_kept (Some us) (Some vs) None xs p k = absurd k
appends_kept (Some us) (Some vs) (Some ws) xs p k = k ∙ p

-- what holds anyway holds at a value
pub on_ok : {T E P : Type 0} (r : Result T E) → P → OnOk r P
on_ok (Ok x) p = p
on_ok (Err e) p = tt

pub consumes_kept : (a b c : Option (List ℕ)) (xs : List ℕ) → Consumes a b xs → Keeps b c → Consumes a c xs
consumes_kept None b c xs p k = tt
consumes_kept (Some us) None c xs p k = absurd p
consumes_kept (Some us) (Some vs) None xs p k = absurd k
consumes_kept (Some us) (Some vs) (Some ws) xs p k = p ∙ ap (λ zs. xs ++ zs) (sym k)

-- no more are taken
pub consumes_all : (a b c : Option (List ℕ)) (xs : List ℕ) → Consumes a b xs → Consumes b c [] → Consumes a c xs
consumes_all a b c xs p q = subst (Consumes a c) (append-nil xs) (consumes_then a b c xs [] p q)

-- bytes of which none ends a line
pub leads_bytes : (told : Option SessionState) (begun xs : List ℕ) → AllByRecursion (λ b. (b == 10) ≡ false) xs → ContinuesTo told begun xs [] told (begun ++ xs)
leads_bytes told begun [] plain = subst (ContinuesTo told begun [] [] told) (sym (append-nil begun)) (leads_none told begun)
leads_bytes told begun (x ∷ xs) plain =
    subst (ContinuesTo told begun (x ∷ xs) [] told) (append_assoc begun (x ∷ []) xs)
    (leads_then told told told begun (begun ++ x ∷ []) ((begun ++ x ∷ []) ++ xs) (x ∷ []) xs [] [] (leads_byte told begun x plain.0)
    (leads_bytes told (begun ++ x ∷ []) xs plain.1))

-- the byte that stands after the first n
pub byte_after : (xs : List ℕ) (n b : ℕ) (rest : List ℕ) → drop n xs ≡ b ∷ rest → (n < length xs) × (slice_index xs n ≡ b)
byte_after [] zero b rest e = absurd (cc)
byte_after [] (suc n) b rest e = absurd (cc)
byte_after (x ∷ xs) zero b rest e = (omega arith, cc)
byte_after (x ∷ xs) (suc n) b rest e = let w = byte_after xs n b rest e in (omega arith, w.1)
