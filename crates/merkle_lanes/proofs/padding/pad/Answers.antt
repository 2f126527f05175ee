use Rattle.std.proofs.Common.{◌≡◌, ◌+◌, ◌*◌, ◌/◌, ◌≤◌, ℕ, List, length, length-append, take, arith, ap, sym, ◌∙◌, refl}
use Rattle.std.proofs.lemmas.List.{take_all}
use Rattle.sha2.specs.Sha256.{padded_message}
use Rattle.merkle_lanes.specs.Lanes.{joined_parts}
use Rattle.merkle_lanes.proofs.Parts.{joined_parts_more}
use Rattle.merkle_lanes.proofs.PaddingLemmas.{written_part, written_padding}
use Rattle.merkle_lanes.proofs.padding.pad.Goals as goal

pub loop-part-preserved : goal.loop-part-preserved
loop-part-preserved c =
    let parts = c.args.parts.now in
    let i : ℕ = c.loop-part.part-index in
    let m : List ℕ = joined_parts (take i parts) in
    let held = c.loop-part.invariant in
    let more = joined_parts_more parts i _ c.loop-part-test.true in
    let long = sym (ap length more) ∙ length-append m _ in (
      omega (arith, long, held.0),
      omega (arith, c.if-part-most.false, held.1),
      written_part (length c.args.bytes.now) m _ c.loop-part.bytes _ c.copy_from_slice.new.self c.loop-part.used _ held.0 held.2 more c.copy_from_slice.ensures.after (omega arith),
    )

pub returns-clause-bytes : goal.returns-clause-bytes
returns-clause-bytes c =
    let parts = c.args.parts.now in
    let used : ℕ = c.loop-part.used in
    let all : take c.loop-part.part-index parts ≡ parts = take_all c.loop-part.part-index parts c.loop-part-test.false in
    let m : List ℕ = joined_parts (take c.loop-part.part-index parts) in
    let held = c.loop-part.invariant in
    let fits : 64 * ((used + 8) / 64 + 1) ≤ length c.args.bytes.now = omega (arith, held.1, c.requires.whole) in
    written_padding (length c.args.bytes.now) m c.loop-part.bytes c.copy_from_slice-2.new.self used _ _ held.0 refl fits c.requires.room.1 held.2
    (c.copy_from_slice-2.ensures.after ∙ c.to_be_bytes.ensures)
    ∙ ap (λ ps. padded_message (joined_parts ps)) all
