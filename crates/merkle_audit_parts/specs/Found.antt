-- What audits hand out, and when.
use Rattle.std.specs.Prelude.{◌≡◌, ◌↔◌, ℕ, List, [], ◌∷◌, Bool, nat_lt, length, Option, Some, None, IfSome, Ok}
use Rattle.merkle_base.specs.Digests.{peak_digests}
use Rattle.merkle_base.specs.Hashing.{Hashing}
use Rattle.merkle_base.specs.Places.{peaks_of}
use Rattle.merkle_base.specs.Root.{list_root}
use Rattle.merkle_base.specs.Scheme.{Scheme}
use Rattle.merkle_base.specs.declared.error.Error.{Error}
use Rattle.merkle_base.specs.declared.error.Error.TheVariants.{LocationOverflow, InvalidInactivePeaks}
use Rattle.merkle_root_theory.specs.Expression as theory
use Rattle.merkle_root_theory.specs.Check.{RangeInput, range_inputs, SharesLeaves}
use Rattle.merkle_root_theory.specs.Collision.{Collision, Collides}
use Rattle.merkle_root_theory.specs.Range.{IsHonestRange, list_inputs}
use Rattle.merkle_root_theory.specs.Reconstruction.{reconstructed}
use Rattle.merkle_claim_theory.specs.FirstCollision.{IsFirstCollision}
use Rattle.merkle_claim_theory.specs.Multiproof.{MultiInput, AcceptsMulti, IsHonestMulti}
use Rattle.merkle_claim_theory.specs.Pinned.{AcceptsPinned, IsHonestPinned}
use Rattle.merkle_claim_theory.specs.Verdict.{multi_inputs, pinned_inputs}
use Rattle.merkle_audit_theory.specs.Located.{node_inputs}
use Rattle.merkle_walks.specs.Places.{collision_of}
use Rattle.merkle_audit_parts.specs.declared.verdict.Verdict.{Verdict}
use Rattle.merkle_audit_parts.specs.declared.verdict.Verdict.TheVariants as verdict
use Rattle.merkle_audit_parts.specs.declared.verdict.ApplyVerdict.{ApplyVerdict}
use Rattle.merkle_audit_parts.specs.declared.verdict.ApplyVerdict.TheVariants as applied
use Rattle.merkle_audit_parts.specs.declared.verdict.PairVerdict.{PairVerdict}
use Rattle.merkle_audit_parts.specs.declared.verdict.PairVerdict.TheVariants as paired

-- the collision of a verdict, if it is one
abbrev pub collision_in : {F D : Type 0} → Verdict F D → Option (Collision D)
collision_in (verdict.Collision p a b) = Some (collision_of p a b)
collision_in verdict.Rejected = None
collision_in verdict.Honest = None

-- the collision of a verdict on two lists, if it is one
abbrev pub collision_of_lists : {F D : Type 0} → ApplyVerdict F D → Option (Collision D)
collision_of_lists (applied.Collision p a b) = Some (collision_of p a b)
collision_of_lists applied.Refused = None
collision_of_lists applied.Same = None

-- the collision of a verdict on two inputs, if it is one
abbrev pub collision_of_pair : {F D : Type 0} → PairVerdict F D → Option (Collision D)
collision_of_pair (paired.Collision p a b) = Some (collision_of p a b)
collision_of_pair paired.Rejected = None
collision_of_pair paired.Consistent = None

-- why a list of n leaves is refused for k inactive peaks
abbrev pub list_refusals : {F : Type 0} → (List ℕ → List ℕ) → (max_leaves n k : ℕ) → List (Bool × Error F)
list_refusals rule max_leaves n k =
    (nat_lt max_leaves n, LocationOverflow n)
    ∷ (nat_lt (length (peaks_of rule n)) k, InvalidInactivePeaks k (length (peaks_of rule n))) ∷ []

-- why two lists are refused by their lengths
abbrev pub length_refusals : {F : Type 0} → (max_leaves listed claimed : ℕ) → List (Bool × Error F)
length_refusals max_leaves listed claimed =
    (nat_lt max_leaves listed, LocationOverflow listed) ∷ (nat_lt max_leaves claimed, LocationOverflow claimed) ∷ []

-- the lists have one length, and the same digests at their peaks
abbrev pub HaveSamePeaks : {D : Type 0} → Hashing D → (List ℕ → List ℕ) → List D → List D → Type 0
HaveSamePeaks h rule X Z = (length X ≡ length Z) × (peak_digests h rule X ≡ peak_digests h rule Z)

-- what an audit of an input says: that the check rejects it, exactly if so; that it is honest, exactly if so; and else the first collision of
-- what the check hashed, xs, with what is hashed for the list, ys
pub record IsVerdict {F D : Type 0} (Accepts Honest : Type 0) (h : Hashing D) (xs ys : List (theory.Input D)) (v : Verdict F D) : Type 0 where
  pub rejected : (v ≡ verdict.Rejected) ↔ ¬ Accepts
  pub honest : (v ≡ verdict.Honest) ↔ Honest
  pub collision : IfSome (collision_in v) (λ c. IsFirstCollision h xs ys c)

-- what an audit says of a range input, against the root of a list for k inactive peaks
abbrev pub IsRangeVerdict : {F D : Type 0} → Scheme D → List D → (k : ℕ) → RangeInput D → Verdict F D → Type 0
IsRangeVerdict s X k r v =
    IsVerdict (reconstructed s r ≡ Ok (list_root s X k)) (IsHonestRange s X k r) s.hashing (range_inputs s r) (list_inputs s X k) v

-- what an audit says of an input of scattered leaves, against the root of a list for k inactive peaks
abbrev pub IsMultiVerdict : {F D : Type 0} → Scheme D → List D → (k : ℕ) → MultiInput D → Verdict F D → Type 0
IsMultiVerdict s X k r v = IsVerdict (AcceptsMulti s r (list_root s X k)) (IsHonestMulti s X k r) s.hashing (multi_inputs s r) (list_inputs s X k) v

-- what an audit says of a range input with pins, against the root of a list for k inactive peaks
abbrev pub IsPinnedVerdict : {F D : Type 0} → Scheme D → List D → (k : ℕ) → RangeInput D → (pins : List D) → Verdict F D → Type 0
IsPinnedVerdict s X k r pins v =
    IsVerdict (AcceptsPinned s r pins (list_root s X k)) (IsHonestPinned s X k r pins) s.hashing (pinned_inputs s r pins) (list_inputs s X k) v

-- what an audit says of a list X that a batch was recorded at, and the list Z of a structure: that the batch is refused, exactly if so; that they
-- are equal, exactly if so; and else their first collision, which is at a node
pub record IsApplyVerdict {F D : Type 0} (h : Hashing D) (rule : List ℕ → List ℕ) (X Z : List D) (v : ApplyVerdict F D) : Type 0 where
  pub refused : (v ≡ applied.Refused) ↔ ¬ (HaveSamePeaks h rule X Z)
  pub same : (v ≡ applied.Same) ↔ (X ≡ Z)
  pub collision : IfSome (collision_of_lists v) (λ c. IsFirstCollision h (node_inputs h rule X) (node_inputs h rule Z) c)
  pub node : IfSome (collision_of_lists v) (λ c. (p : ℕ) × (c.place ≡ theory.Node p))

-- what an audit says of two inputs against one root: that one is rejected, exactly if so; their first collision; and else that they are
-- consistent, where nothing collides and each leaf that both prove has one digest
pub record IsPairVerdict {F D : Type 0} (s : Scheme D) (root : D) (r q : RangeInput D) (v : PairVerdict F D) : Type 0 where
  pub rejected : (v ≡ paired.Rejected) ↔ ¬ ((reconstructed s r ≡ Ok root) × (reconstructed s q ≡ Ok root))
  pub collision : IfSome (collision_of_pair v) (λ c. IsFirstCollision s.hashing (range_inputs s r) (range_inputs s q) c)
  pub clear : v ≡ paired.Consistent → (c : Collision D) → ¬ (Collides s.hashing (range_inputs s r) (range_inputs s q) c)
  pub consistent : v ≡ paired.Consistent → SharesLeaves s.hashing r q
