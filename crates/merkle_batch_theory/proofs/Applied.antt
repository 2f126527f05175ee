-- What an answered Ok of apply means.
use Rattle.std.proofs.Common.{◌≡◌, ℕ, List, length, drop, Option, Some, None, Ok, Result, refl, subst}
use Rattle.std.specs.Option.{ok_or, option_map}
use Rattle.merkle_base.specs.Hashing.{Hashing, EqDecides}
use Rattle.merkle_batch_theory.specs.Contents.{Contents, Agrees, held_peaks}
use Rattle.merkle_batch_theory.specs.Records.{MerkleizedModel, records}
use Rattle.merkle_batch_theory.specs.Replay.{with_records, matched, apply_error, applied}
use Rattle.merkle_batch_theory.specs.History.{IsHistory, last_list}
use Rattle.merkle_batch_theory.specs.Applying.{IsAppliedTo}
use Rattle.merkle_batch_theory.proofs.Accepted.{accepted}

answered : {D E : Type 0} (o : Option ℕ) (f : ℕ → Contents D) (r : E) (d : Contents D) → ◌≡◌ {A = Result (Contents D) E} (ok_or (option_map f o) r) (Ok d) → (i : ℕ) × (o ≡ Some i) × (f i ≡ d)
answered None f r d e = absurd (cc)
answered (Some i) f r d e = (i, refl, cc)

pub applied_at : {F D : Type 0} (h : Hashing D) (rule : List ℕ → List ℕ) → EqDecides h
    → (k : MerkleizedModel D) (ls : List (List D)) (c d : Contents D) (X : List D) → IsHistory h rule (records k) ls → Agrees h rule c X
    → applied {F = F} h.same rule (length X) k c ≡ Ok d → IsAppliedTo h rule k ls X c d
applied_at {F = F} h rule law k ls c d X s a e =
    let m = answered (matched h.same c.size (held_peaks rule (length X) c) k) (λ i. with_records (drop i (records k)) c) (apply_error {F = F} c.size k) d e in
    let w = accepted h rule law k ls c X m.0 s a m.1 in
    record { place = m.0; list = w.0; found = m.1; listed = w.1; as_long = w.2; same_peaks = w.3; agrees = λ z. subst (λ x. Agrees h rule x (last_list ls)) m.2 (w.4 z); collides = w.5 }
