use Rattle.std.proofs.Common.{arith, ◌≡◌, ◌+◌, ◌*◌, ◌<◌, ◌≤◌, length, ap, ◌∙◌, vec_len, vec_capacity}
use Rattle.merkle_codec.specs.NumberSpelling.{number_spelling}
use Rattle.merkle_codec.specs.ProofSpelling.{proof_spelling}
use Rattle.merkle_codec.proofs.ProofBytes.{length-parts}
use Rattle.merkle_codec.proofs.proof.ProofWrite.write.Goals as goal

pub returns-in_err-write_digests-clause-err : goal.returns-in_err-write_digests-clause-err
returns-in_err-write_digests-clause-err g c =
    let D = g.met.D.Digest in
    let bytes = g.D.Digest.bytes in
    let p = c.args.self.now in
    let whole = length-parts bytes g.D.Digest.SIZE (λ x. D.one_length (bytes x) (D.bytes_spell x)) p.leaves p.inactive_peaks p.digests.items in
    let few : vec_capacity c.write_number-3.new.out < vec_len c.write_number-3.new.out + length c.deref.result.now * g.D.Digest.SIZE = c.in_err-write_digests.ensures.no_room in
    let same : length c.deref.result.now * g.D.Digest.SIZE ≡ length p.digests.items * g.D.Digest.SIZE = ap (λ xs. length xs * g.D.Digest.SIZE) c.deref.ensures.value in
    let l : length (number_spelling c.as_u64.result) ≡ length (number_spelling p.leaves) = ap (λ n. length (number_spelling n)) c.as_u64.ensures in
    let n : length (number_spelling c.len.result) ≡ length (number_spelling (length p.digests.items)) = ap (λ n. length (number_spelling n)) (c.len.ensures ∙ p.digests.ok.0) in
    let room : vec_len c.reserve.new.self + c.in-Some.size ≤ vec_capacity c.reserve.new.self = c.in_ok-reserve.ensures.ok in
    let first : vec_len c.write_number.new.out ≡ vec_len c.reserve.new.self + length (number_spelling c.as_u64.result) = c.in_ok-write_number.ensures.len in
    let second : vec_len c.write_number-2.new.out ≡ vec_len c.write_number.new.out + length (number_spelling p.inactive_peaks) = c.in_ok-write_number-2.ensures.len in
    let third : vec_len c.write_number-3.new.out ≡ vec_len c.write_number-2.new.out + length (number_spelling c.len.result) = c.in_ok-write_number-3.ensures.len in
    let r1 : vec_capacity c.reserve.new.self ≤ vec_capacity c.write_number.new.out = c.write_number.ensures.capacity in
    let r2 : vec_capacity c.write_number.new.out ≤ vec_capacity c.write_number-2.new.out = c.write_number-2.ensures.capacity in
    let r3 : vec_capacity c.write_number-2.new.out ≤ vec_capacity c.write_number-3.new.out = c.write_number-3.ensures.capacity in
    let size : c.in-Some.size ≡ length (proof_spelling bytes p) = c.in-Some.ensures.1 in
    absurd (omega (arith, whole))

pub returns-in_err-write_digests-clause-no_room : goal.returns-in_err-write_digests-clause-no_room
returns-in_err-write_digests-clause-no_room g c =
    let D = g.met.D.Digest in
    let bytes = g.D.Digest.bytes in
    let p = c.args.self.now in
    let whole = length-parts bytes g.D.Digest.SIZE (λ x. D.one_length (bytes x) (D.bytes_spell x)) p.leaves p.inactive_peaks p.digests.items in
    let few : vec_capacity c.write_number-3.new.out < vec_len c.write_number-3.new.out + length c.deref.result.now * g.D.Digest.SIZE = c.in_err-write_digests.ensures.no_room in
    let same : length c.deref.result.now * g.D.Digest.SIZE ≡ length p.digests.items * g.D.Digest.SIZE = ap (λ xs. length xs * g.D.Digest.SIZE) c.deref.ensures.value in
    let l : length (number_spelling c.as_u64.result) ≡ length (number_spelling p.leaves) = ap (λ n. length (number_spelling n)) c.as_u64.ensures in
    let n : length (number_spelling c.len.result) ≡ length (number_spelling (length p.digests.items)) = ap (λ n. length (number_spelling n)) (c.len.ensures ∙ p.digests.ok.0) in
    let room : vec_len c.reserve.new.self + c.in-Some.size ≤ vec_capacity c.reserve.new.self = c.in_ok-reserve.ensures.ok in
    let first : vec_len c.write_number.new.out ≡ vec_len c.reserve.new.self + length (number_spelling c.as_u64.result) = c.in_ok-write_number.ensures.len in
    let second : vec_len c.write_number-2.new.out ≡ vec_len c.write_number.new.out + length (number_spelling p.inactive_peaks) = c.in_ok-write_number-2.ensures.len in
    let third : vec_len c.write_number-3.new.out ≡ vec_len c.write_number-2.new.out + length (number_spelling c.len.result) = c.in_ok-write_number-3.ensures.len in
    let r1 : vec_capacity c.reserve.new.self ≤ vec_capacity c.write_number.new.out = c.write_number.ensures.capacity in
    let r2 : vec_capacity c.write_number.new.out ≤ vec_capacity c.write_number-2.new.out = c.write_number-2.ensures.capacity in
    let r3 : vec_capacity c.write_number-2.new.out ≤ vec_capacity c.write_number-3.new.out = c.write_number-3.ensures.capacity in
    let size : c.in-Some.size ≡ length (proof_spelling bytes p) = c.in-Some.ensures.1 in
    absurd (omega (arith, whole))
