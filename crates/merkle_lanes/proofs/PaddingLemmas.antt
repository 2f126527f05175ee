-- Bytes of which the rest is zero, and the padding written into them.
use Rattle.std.proofs.Common.{◌≡◌, ℕ, suc, ◌+◌, ◌-◌, ◌*◌, ◌/◌, ◌%◌, ◌^◌, ◌<◌, ◌≤◌, List, ◌∷◌, ◌++◌, length, take, drop, replicate, slice_set, sym, ap, ◌∙◌, arith, length-append}
use Rattle.std.proofs.lemmas.List.{append_assoc, take_at, drop_at, take-replicate, drop-replicate, length-replicate}
use Rattle.std.proofs.lemmas.Slice.{take-put_mid}
use Rattle.std.proofs.Math.Seq.{set-append_seam, take-append-add}
use Rattle.std.specs.Int.{w64, to_be_bytes}
use Rattle.sha2.specs.Sha256.{padded_message, padding}
use borrow.Rule.Slice.PartMut.{put_mid}

-- the message m, and zeros up to `room` bytes
abbrev pub with_zeros : ℕ → List ℕ → ℕ → List ℕ
with_zeros room m used = m ++ replicate (room - used) 0

-- one part more
pub written_part : (room : ℕ) (m all bytes x ys : List ℕ) (used k : ℕ) → length m ≡ used → bytes ≡ with_zeros room m used → m ++ x ≡ all → ys ≡ x → k ≡ length x
    → put_mid used k bytes ys ≡ with_zeros room all (used + length x)
written_part room m all bytes x ys used k long eb ea ey ek =
    let zeros : List ℕ = replicate (room - used) 0 in
    let front : take used bytes ≡ m = ap (take used) eb ∙ take_at m zeros used (omega (arith, long)) in
    let back : drop used bytes ≡ zeros = ap (drop used) eb ∙ drop_at m zeros used (omega (arith, long)) in
    let less : room - used - k ≡ room - (used + length x) = omega (arith, ek) in
    let rest : drop k zeros ≡ replicate (room - (used + length x)) 0 = drop-replicate k (room - used) 0 ∙ ap (λ (n : ℕ). replicate n 0) less in
    rw (front, back, rest, ey, ← ea) (sym (append_assoc m x _))

-- how many zeros the padding has
zeros_of_padding : (used count : ℕ) → count ≡ (used + 8) / 64 + 1 → 64 * count - 8 ≡ used + suc ((119 - used % 64) % 64)
zeros_of_padding used count has = omega (arith, has)

-- the byte after the message
marked : (room : ℕ) (m bytes : List ℕ) (used : ℕ) → length m ≡ used → used < room → bytes ≡ with_zeros room m used
    → slice_set bytes used 128 ≡ m ++ 128 ∷ replicate (room - 1 - used) 0
marked room m bytes used long fits eb =
    let one : room - used ≡ suc (room - 1 - used) = omega (arith, fits) in
    let begins : bytes ≡ m ++ 0 ∷ replicate (room - 1 - used) 0 = eb ∙ ap (λ (n : ℕ). m ++ replicate n 0) one in
    ap (λ (xs : List ℕ). slice_set xs used 128) begins ∙ ap (λ (n : ℕ). slice_set (m ++ 0 ∷ replicate (room - 1 - used) 0) n 128) (sym long)
    ∙ set-append_seam m 0 (replicate (room - 1 - used) 0) 128

-- the message with its padding
pub written_padding : (room : ℕ) (m bytes ys : List ℕ) (used count k : ℕ) → length m ≡ used → count ≡ (used + 8) / 64 + 1 → 64 * count ≤ room → room ≤ 4096
    → bytes ≡ with_zeros room m used → ys ≡ to_be_bytes w64 (8 * used)
    → take (count * 64) (put_mid (64 * count - 8) k (slice_set bytes used 128) ys) ≡ padded_message m
written_padding room m bytes ys used count k long has fits small eb ey =
    let zeros : ℕ = (119 - used % 64) % 64 in
    let places : (8 ≤ 64 * count) × (used < room) = (omega (arith, has), omega (arith, has, fits)) in
    let end : 64 * count - 8 ≡ used + suc zeros = zeros_of_padding used count has in
    let mark : slice_set bytes used 128 ≡ m ++ 128 ∷ replicate (room - 1 - used) 0 = marked room m bytes used long places.1 eb in
    let size : length (slice_set bytes used 128) ≡ length m + suc (room - 1 - used) =
    ap length mark ∙ length-append m (128 ∷ replicate (room - 1 - used) 0) ∙ ap (λ (n : ℕ). length m + suc n) (length-replicate (room - 1 - used) 0) in
    let eight : length ys ≡ 8 = ap length ey in
    let front : take (count * 64) (put_mid (64 * count - 8) k (slice_set bytes used 128) ys) ≡ take (64 * count - 8) (slice_set bytes used 128) ++ ys =
    take-put_mid (64 * count - 8) k (slice_set bytes used 128) ys (count * 64) (omega (arith, eight, places.0)) (omega (arith, size, long, fits, places.1)) in
    let at : 64 * count - 8 ≡ length m + suc zeros = end ∙ ap (λ (n : ℕ). n + suc zeros) (sym long) in
    let few : zeros ≤ room - 1 - used = omega (arith, end, fits, places.0) in
    let head : take (64 * count - 8) (slice_set bytes used 128) ≡ m ++ 128 ∷ replicate zeros 0 =
    ap (take (64 * count - 8)) mark ∙ ap (λ (n : ℕ). take n (m ++ 128 ∷ replicate (room - 1 - used) 0)) at ∙ take-append-add m (128 ∷ replicate (room - 1 - used) 0) (suc zeros)
    ∙ ap (λ (xs : List ℕ). m ++ 128 ∷ xs) (take-replicate zeros (room - 1 - used) 0 few) in
    let bits : 8 * used ≡ length m * 8 % 2 ^ 64 = omega (arith, long, small, places.1) in
    let same : zeros ≡ (119 - length m % 64) % 64 = ap (λ (n : ℕ). (119 - n % 64) % 64) (sym long) in
    let rest : ℕ = (119 - length m % 64) % 64 in
    let tail : 128 ∷ (replicate zeros 0 ++ ys) ≡ padding (length m) =
    ap (λ (n : ℕ). 128 ∷ (replicate n 0 ++ ys)) same ∙ ap (λ (xs : List ℕ). 128 ∷ (replicate rest 0 ++ xs)) (ey ∙ ap (to_be_bytes w64) bits) in
    front ∙ ap (λ (xs : List ℕ). xs ++ ys) head ∙ append_assoc m (128 ∷ replicate zeros 0) ys ∙ ap (λ (xs : List ℕ). m ++ xs) tail
