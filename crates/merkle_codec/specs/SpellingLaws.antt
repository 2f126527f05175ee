-- A value has one spelling, no spelling begins another, and where bytes are refused they begin with none.
use Rattle.std.proofs.Common.{◌≡◌, ℕ, List, [], ◌∷◌, ◌++◌, length, take, refl, sym, ap, ◌∙◌, subst, inl, inr, rules, arith, length-append}
use Rattle.std.specs.Prelude.{Option, Some, None}
use Rattle.std.proofs.Math.Seq.{take-append_seam}
use Rattle.merkle_base.specs.declared.error.DecodeError.{DecodeError}
use Rattle.merkle_codec.specs.Spelling.{option_spelling, IsDigestRefusal, IsOptionRefusal}

-- lists that begin with parts of one length and are equal have equal parts
pub append_once : (a b r s : List ℕ) → length a ≡ length b → a ++ r ≡ b ++ s → (a ≡ b) × (r ≡ s)
append_once [] [] r s p e = (refl, e)
append_once [] (y ∷ b) r s p e = search (rules, p)
append_once (x ∷ a) [] r s p e = search (rules, p)
append_once (x ∷ a) (y ∷ b) r s p e = let t = append_once a b r s (grind (arith, p)) (grind (arith, e)) in (grind (arith, e, t.0), t.1)

-- an option of a digest has one spelling, and no spelling begins another
pub option_spelling_once : {D : Type 0} (bytes : D → List ℕ) (size : ℕ)
    → ((x : D) → length (bytes x) ≡ size) → ((x y : D) → bytes x ≡ bytes y → x ≡ y)
    → (x y : Option D) (r s : List ℕ) → option_spelling bytes x ++ r ≡ option_spelling bytes y ++ s → (x ≡ y) × (r ≡ s)
option_spelling_once bytes size sized decide None None r s e = (refl, grind (arith, e))
option_spelling_once bytes size sized decide None (Some y) r s e = grind (arith, e)
option_spelling_once bytes size sized decide (Some x) None r s e = grind (arith, e)
option_spelling_once bytes size sized decide (Some x) (Some y) r s e =
    let t = append_once (bytes x) (bytes y) r s (sized x ∙ sym (sized y)) (grind (arith, e)) in (ap Some (decide x y t.0), t.1)

-- bytes that are refused as a digest begin with none
pub IsDigestRefusal_spells_none : (size : ℕ) (Spells : List ℕ → Type 0) (b : List ℕ) (e : DecodeError) → IsDigestRefusal size Spells b e
    → (a rest : List ℕ) → length a ≡ size → Spells a → ¬ b ≡ a ++ rest
IsDigestRefusal_spells_none size Spells b e (inl few) a rest sized s k =
    omega (arith, few.0, ap length k, length-append a rest, sized)
IsDigestRefusal_spells_none size Spells b e (inr none) a rest sized s k =
    none.1 (subst Spells (sym (ap (take size) k ∙ ap (λ n. take n (a ++ rest)) (sym sized) ∙ take-append_seam a rest)) s)

-- bytes that are refused as an option of a digest begin with none
pub IsOptionRefusal_spells_none : {D : Type 0} (bytes : D → List ℕ) (size : ℕ) (Spells : List ℕ → Type 0)
    → ((x : D) → Spells (bytes x)) → ((b : List ℕ) → Spells b → length b ≡ size)
    → (b : List ℕ) (e : DecodeError) → IsOptionRefusal size Spells b e
    → (x : Option D) (rest : List ℕ) → ¬ b ≡ option_spelling bytes x ++ rest
IsOptionRefusal_spells_none bytes size Spells spell sized [] e h None rest k = grind (arith, k)
IsOptionRefusal_spells_none bytes size Spells spell sized [] e h (Some x) rest k = grind (arith, k)
IsOptionRefusal_spells_none bytes size Spells spell sized (first ∷ more) e (inl other) None rest k = grind (arith, k, other)
IsOptionRefusal_spells_none bytes size Spells spell sized (first ∷ more) e (inr one) None rest k = grind (arith, k, one.0)
IsOptionRefusal_spells_none bytes size Spells spell sized (first ∷ more) e (inl other) (Some x) rest k = grind (arith, k, other)
IsOptionRefusal_spells_none bytes size Spells spell sized (first ∷ more) e (inr one) (Some x) rest k =
    IsDigestRefusal_spells_none size Spells more e one.1 (bytes x) rest (sized (bytes x) (spell x)) (spell x) (grind (arith, k))

-- bytes are refused with one error
IsDigestRefusal_once : (size : ℕ) (Spells : List ℕ → Type 0) (b : List ℕ) (e f : DecodeError)
    → IsDigestRefusal size Spells b e → IsDigestRefusal size Spells b f → e ≡ f
IsDigestRefusal_once size Spells b e f h k = grind (arith, h, k)

pub IsOptionRefusal_once : (size : ℕ) (Spells : List ℕ → Type 0) (b : List ℕ) (e f : DecodeError)
    → IsOptionRefusal size Spells b e → IsOptionRefusal size Spells b f → e ≡ f
IsOptionRefusal_once size Spells [] e f h k = h ∙ sym k
IsOptionRefusal_once size Spells (first ∷ rest) e f (inl p) (inl q) = p.1 ∙ sym q.1
IsOptionRefusal_once size Spells (first ∷ rest) e f (inl p) (inr q) = absurd (omega (arith, p.0, q.0))
IsOptionRefusal_once size Spells (first ∷ rest) e f (inr p) (inl q) = absurd (omega (arith, p.0, q.0))
IsOptionRefusal_once size Spells (first ∷ rest) e f (inr p) (inr q) = IsDigestRefusal_once size Spells rest e f p.1 q.1
