-- The schedule of the padding of 64 bytes, and its sums with the constants of the rounds.
use Rattle.std.proofs.Common.{◌≡◌, ℕ, zero, suc, ◌+◌, ◌-◌, ◌*◌, ◌<◌, ◌≤◌, Bool, true, false, ◌&&◌, List, [], ◌∷◌, slice_index, arith, refl, ap, sym, ◌∙◌, inl, inr}
use Rattle.std.proofs.lemmas.Bool.{cases_lt, eqb-true}
use Rattle.std.proofs.Math.Dec.{eqb}
use Rattle.std.specs.Simd.Lanes.{zip2}
use Rattle.sha2.specs.Sha256.{add32, next_word, padding, round_constants, schedule, word_at}
use Rattle.sha2.proofs.Schedule256.{slice_index-schedule_first, slice_index-schedule_next}
use Rattle.merkle_lanes.specs.Lanes.{IsSum}
use Rattle.merkle_lanes.proofs.LaneLemmas.{below_sixteen, zip2_lane}

-- each of the n words from place t on follows from those before it
follows : List ℕ → ℕ → ℕ → Bool
follows ws t zero = true
follows ws t (suc n) = eqb (slice_index ws t) (next_word ws t) && follows ws (suc t) n

both : (a b : Bool) → (a && b) ≡ true → (a ≡ true) × (b ≡ true)
both true b e = (refl, e)
both false b e = absurd (cc)

follows_at : (ws : List ℕ) (t n k : ℕ) → follows ws t n ≡ true → t ≤ k → k < t + n → slice_index ws k ≡ next_word ws k
unfolding follows
follows_at ws t zero k e low high = absurd (omega arith)
follows_at ws t (suc n) k e low high =
    let parts = both (eqb (slice_index ws t) (next_word ws t)) (follows ws (suc t) n) e in
    elim (cases_lt t k) [
      | inl more ↦ follows_at ws (suc t) n k parts.1 (omega arith) (omega arith)
      | inr less ↦
          let same : t ≡ k = omega arith in
          rw same at (eqb-true (slice_index ws t) (next_word ws t) parts.0)
    ]

-- words that begin with those of a block, and follow from one another, are its schedule
schedule_below : (b ws : List ℕ) → ((k : ℕ) → k < 16 → slice_index ws k ≡ word_at b (4 * k)) → follows ws 16 48 ≡ true
    → (n k : ℕ) → n ≤ 64 → k < n → slice_index ws k ≡ slice_index (schedule b 48) k
schedule_below b ws first next zero k fits h = absurd (omega arith)
schedule_below b ws first next (suc n) k fits h =
    let word : ℕ → ℕ = slice_index (schedule b 48) in
    let before : (i : ℕ) → i < n → slice_index ws i ≡ word i = λ i l. schedule_below b ws first next n i (omega arith) l in
    elim (cases_lt k n) [
      | inl low ↦ before k low
      | inr high ↦ elim (cases_lt k 16) [
        | inl early ↦ first k early ∙ sym (slice_index-schedule_first b 48 k early)
        | inr late ↦
            follows_at ws 16 48 k next late (omega arith)
            ∙ rw (before (k - 2) (omega arith), before (k - 7) (omega arith), before (k - 15) (omega arith), before (k - 16) (omega arith))
            (sym (slice_index-schedule_next b 48 k late (omega arith)))
      ]
    ]

-- the words of the schedule of the padding of 64 bytes
abbrev padding_schedule : List ℕ
padding_schedule =
    0x80000000 ∷ 0x00000000 ∷ 0x00000000 ∷ 0x00000000 ∷
    0x00000000 ∷ 0x00000000 ∷ 0x00000000 ∷ 0x00000000 ∷
    0x00000000 ∷ 0x00000000 ∷ 0x00000000 ∷ 0x00000000 ∷
    0x00000000 ∷ 0x00000000 ∷ 0x00000000 ∷ 0x00000200 ∷
    0x80000000 ∷ 0x01400000 ∷ 0x00205000 ∷ 0x00005088 ∷
    0x22000800 ∷ 0x22550014 ∷ 0x05089742 ∷ 0xA0000020 ∷
    0x5A880000 ∷ 0x005C9400 ∷ 0x0016D49D ∷ 0xFA801F00 ∷
    0xD33225D0 ∷ 0x11675959 ∷ 0xF6E6BFDA ∷ 0xB30C1549 ∷
    0x08B2B050 ∷ 0x9D7C4C27 ∷ 0x0CE2A393 ∷ 0x88E6E1EA ∷
    0xA52B4335 ∷ 0x67A16F49 ∷ 0xD732016F ∷ 0x4EEB2E91 ∷
    0x5DBF55E5 ∷ 0x8EEE2335 ∷ 0xE2BC5EC2 ∷ 0xA83F4394 ∷
    0x45AD78F7 ∷ 0x36F3D0CD ∷ 0xD99C05E8 ∷ 0xB0511DC7 ∷
    0x69BC7AC4 ∷ 0xBD11375B ∷ 0xE3BA71E5 ∷ 0x3B209FF2 ∷
    0x18FEEE17 ∷ 0xE25AD9E7 ∷ 0x13375046 ∷ 0x0515089D ∷
    0x4F0D0F04 ∷ 0x2627484E ∷ 0x310128D2 ∷ 0xC668B434 ∷
    0x420841CC ∷ 0x62D311B8 ∷ 0xE59BA771 ∷ 0x85A7A484 ∷ []

padding_begins : (k : ℕ) → k < 16 → slice_index padding_schedule k ≡ word_at (padding 64) (4 * k)
padding_begins = below_sixteen (λ k. slice_index padding_schedule k ≡ word_at (padding 64) (4 * k)) refl refl refl refl refl refl refl refl refl refl refl refl refl refl refl refl

padding_follows : follows padding_schedule 16 48 ≡ true
unfolding follows
padding_follows = refl

-- each of 64 sums is that of its round
abbrev pub AreSums : (sums words : List ℕ) → Type 0
AreSums sums words = (t : ℕ) → t < 64 → IsSum (slice_index sums t) words t

-- the sums, from the list of them
pub padding_sums : (sums : List ℕ) → sums ≡ zip2 add32 round_constants padding_schedule → AreSums sums (schedule (padding 64) 48)
padding_sums sums e k h =
    ap (λ (ns : List ℕ). slice_index ns k) e ∙ zip2_lane add32 64 round_constants padding_schedule k refl refl h
    ∙ ap (add32 (slice_index round_constants k)) (schedule_below (padding 64) padding_schedule padding_begins padding_follows 64 k (omega arith) h)
