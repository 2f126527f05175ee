-- Why a proof is refused.
use Rattle.std.proofs.Common.{inl, inr, ◌≡◌, ℕ, ◌<◌, ◌≤◌, ◌⊎◌, List, [], ◌∷◌, Option, Some, None, refl, arith}
use Rattle.std.specs.List.{AllZip}
use Rattle.merkle_base.specs.declared.error.Error.{Error}
use Rattle.merkle_base.specs.declared.error.Error.TheVariants.{NonLeaf, PositionOverflow, LocationOverflow, Empty, RangeOutOfBounds, InvalidSize}
use Rattle.merkle_base.specs.declared.error.Error.TheVariants.{LeafOutOfBounds, DuplicateLocation, UnsortedLocation, ElementPruned, CompressedDigest}
use Rattle.merkle_base.specs.declared.error.Error.TheVariants.{InvalidPinnedNodes, StaleBatch, AncestorDropped, InvalidProof, InvalidInactivePeaks}
use Rattle.merkle_base.specs.declared.error.Error.TheVariants.{RootMismatch, MissingNode, DataCorrupted, BitOutOfBounds, OutOfMemory}
use Rattle.merkle_base.specs.declared.family.Bagging.{Bagging}
use Rattle.merkle_proof.specs.RangePlans.{LeafRange, IsRefusal, IsBuildRefusal}

-- whether an error is want of memory
pub is_memory : {F : Type 0} (e : Error F) → (e ≡ OutOfMemory → ⊥) ⊎ (e ≡ OutOfMemory)
is_memory (NonLeaf a) = inl (λ e. cc)
is_memory (PositionOverflow a) = inl (λ e. cc)
is_memory (LocationOverflow a) = inl (λ e. cc)
is_memory Empty = inl (λ e. cc)
is_memory (RangeOutOfBounds a) = inl (λ e. cc)
is_memory (InvalidSize a) = inl (λ e. cc)
is_memory (LeafOutOfBounds a) = inl (λ e. cc)
is_memory (DuplicateLocation a) = inl (λ e. cc)
is_memory (UnsortedLocation a) = inl (λ e. cc)
is_memory (ElementPruned a) = inl (λ e. cc)
is_memory (CompressedDigest a) = inl (λ e. cc)
is_memory InvalidPinnedNodes = inl (λ e. cc)
is_memory (StaleBatch a b) = inl (λ e. cc)
is_memory (AncestorDropped a b) = inl (λ e. cc)
is_memory InvalidProof = inl (λ e. cc)
is_memory (InvalidInactivePeaks a b) = inl (λ e. cc)
is_memory RootMismatch = inl (λ e. cc)
is_memory (MissingNode a) = inl (λ e. cc)
is_memory (DataCorrupted a) = inl (λ e. cc)
is_memory (BitOutOfBounds a b) = inl (λ e. cc)
is_memory OutOfMemory = inr refl

-- a plan of leaves of a lawful count is not refused
pub range_planned : {F : Type 0} (m n a b : ℕ) (e : Error F) → a < b → b ≤ n → n ≤ m → IsRefusal m n a b e → ⊥
range_planned m n a b e some less within refused = elim refused [
  | inl x ↦ (let no : b ≤ a = x.0 in omega (arith, no, some))
  | inr x ↦ elim x [ inl y ↦ (let no : n < b = y.1 in omega (arith, no, less)) | inr y ↦ (let no : m < n = y.2 in omega (arith, no, within)) ]
]

zip_weaker : {A B : Type 0} (P Q : A → B → Type 0) → ((a : A) (b : B) → P a b → Q a b) → (xs : List A) (ys : List B) → AllZip P xs ys → AllZip Q xs ys
zip_weaker P Q weaker [] [] z = tt
zip_weaker P Q weaker [] (b ∷ ys) z = absurd z
zip_weaker P Q weaker (a ∷ xs) [] z = absurd z
zip_weaker P Q weaker (a ∷ xs) (b ∷ ys) z = (weaker a b z.0, zip_weaker P Q weaker xs ys z.1)

-- refusals over answers that say more
pub refused_by : {F D : Type 0} (bagging : Bagging) (rule : List ℕ → List ℕ) (r : LeafRange) (k : ℕ) (A B : ℕ → Option D → Type 0) → (e : Error F)
    → IsBuildRefusal bagging rule r k A e → ((p : ℕ) (o : Option D) → A p o → B p o) → IsBuildRefusal bagging rule r k B e
refused_by bagging rule r k A B e refused means = elim refused [
  | inl x ↦ inl x
  | inr x ↦ (let m = x.1.2 in inr (
    x.0,
    (
      x.1.0,
      x.1.1,
      record {
        before = m.before;
        after = m.after;
        digests = m.digests;
        split = m.split;
        read = zip_weaker (λ q d. A q (Some d)) (λ q d. B q (Some d)) (λ q d. means q (Some d)) m.before m.digests m.read;
        missing = means x.1.0 None m.missing;
      },
    ),
  ))
]
