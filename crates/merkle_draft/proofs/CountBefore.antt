-- How many positions stand before another.
use Rattle.std.proofs.Common.{◌≡◌, ℕ, zero, suc, ◌<◌, ◌≤◌, List, [], ◌∷◌, length, drop, get_or, cond, arith, refl, ap}
use Rattle.std.proofs.lemmas.Bool.{lt-ltb, le-ltb}
use Rattle.merkle_draft.specs.DirtyLeaves.{are_before}

pub before_here : (u : ℕ) (us : List ℕ) (e : ℕ) → u < e → are_before (u ∷ us) e ≡ suc (are_before us e)
before_here u us e l = ap (λ b. cond b (suc (are_before us e)) 0) (lt-ltb u e l)

pub before_none : (u : ℕ) (us : List ℕ) (e : ℕ) → e ≤ u → are_before (u ∷ us) e ≡ 0
before_none u us e l = ap (λ b. cond b (suc (are_before us e)) 0) (le-ltb u e l)

pub before_within : (us : List ℕ) (e : ℕ) → are_before us e ≤ length us
before_within [] e = omega arith
before_within (u ∷ us) e = grind (arith, before_within us e)

-- from index i on, where position i is before the end
pub before_more : (us : List ℕ) (e i : ℕ) (d : ℕ) → i < length us → get_or us i d < e → are_before (drop i us) e ≡ suc (are_before (drop (suc i) us) e)
before_more [] e i d b l = absurd (omega arith)
before_more (u ∷ us) e zero d b l = before_here u us e l
before_more (u ∷ us) e (suc i) d b l = before_more us e i d (omega arith) l

-- where it is not
pub before_stops : (us : List ℕ) (e i : ℕ) (d : ℕ) → i < length us → e ≤ get_or us i d → are_before (drop i us) e ≡ 0
before_stops [] e i d b l = absurd (omega arith)
before_stops (u ∷ us) e zero d b l = before_none u us e l
before_stops (u ∷ us) e (suc i) d b l = before_stops us e i d (omega arith) l

pub before_end : (us : List ℕ) (e i : ℕ) → length us ≤ i → are_before (drop i us) e ≡ 0
before_end [] e zero l = refl
before_end [] e (suc i) l = refl
before_end (u ∷ us) e zero l = absurd (omega arith)
before_end (u ∷ us) e (suc i) l = before_end us e i (omega arith)
