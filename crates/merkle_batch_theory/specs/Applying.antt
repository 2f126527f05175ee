-- What is known of an accepted batch: the list at which it was accepted.
use Rattle.std.specs.Prelude.{◌≡◌, ℕ, Bool, List, length, Some, slice_get}
use Rattle.merkle_base.specs.Hashing.{Hashing, EqDecides}
use Rattle.merkle_base.specs.Digests.{peak_digests}
use Rattle.merkle_batch_theory.specs.Contents.{Contents, Agrees, held_peaks}
use Rattle.merkle_batch_theory.specs.Records.{MerkleizedModel, records}
use Rattle.merkle_batch_theory.specs.Replay.{matched}
use Rattle.merkle_batch_theory.specs.History.{IsHistory, last_list}
use Rattle.merkle_base.specs.Collision.{Collide}

-- a batch with the lists ls as its history was applied to a structure that agreed with X, at one of these lists that has the length and the
-- peak digests of X
pub record IsAppliedTo {D : Type 0} (h : Hashing D) (rule : List ℕ → List ℕ)
    (batch : MerkleizedModel D) (ls : List (List D)) (X : List D) (old new : Contents D) : Type 0 where
  pub place : ℕ  -- the state that was matched, and its list
  pub list : List D
  pub found : matched h.same old.size (held_peaks rule (length X) old) batch ≡ Some place
  pub listed : slice_get ls place ≡ Some list
  pub as_long : length X ≡ length list  -- it has the length and the peak digests of X
  pub same_peaks : peak_digests h rule X ≡ peak_digests h rule list
  pub agrees : X ≡ list → Agrees h rule new (last_list ls)  -- if it is X, the structure agrees with the last list
  pub collides : (X ≡ list → ⊥) → Collide h rule X list  -- if it is not, the two collide at a node

-- the batch was applied as `IsAppliedTo` says, for each list that the structure agreed with and all lists that the batch has as its history
abbrev pub IsApplied : {D : Type 0} → (D → D → Bool) → (List ℕ → List ℕ) → MerkleizedModel D → (old new : Contents D) → Type 0
IsApplied {D} same rule batch old new =
    (h : Hashing D) (X : List D) (ls : List (List D)) → EqDecides h → h.same ≡ same → Agrees h rule old X → IsHistory h rule (records batch) ls
    → IsAppliedTo h rule batch ls X old new
