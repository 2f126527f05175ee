-- What a proof reads from a batch over a base.
use Rattle.std.proofs.Common.{◌≡◌, ℕ, ◌≤◌, List, [], ◌∷◌, length, Some, arith, sym, ◌∙◌}
use Rattle.merkle_base.specs.Forest.{size}
use Rattle.merkle_base.specs.Hashing.{Hashing}
use Rattle.merkle_base.specs.Digests.{digest_at}
use Rattle.merkle_base.proofs.Nodes.{size_inj}
use Rattle.merkle_proof.specs.RangePlans.{AnswersList}
use Rattle.merkle_batch_theory.specs.Contents.{Contents, AgreesWithOne}
use Rattle.merkle_batch_theory.specs.Read.{read_over}
use Rattle.merkle_batch_theory.specs.Records.{MerkleizedModel, RecordModel, records, after}
use Rattle.merkle_batch_theory.specs.History.{IsHistory, last_list}
use Rattle.merkle_batch_theory.proofs.Complete.{stands_longer}
use Rattle.merkle_batch_theory.proofs.Forking.{last_size}
use Rattle.merkle_batch_theory.proofs.Steps.{node_digest_at}
use Rattle.merkle_batch_theory.proofs.ReadThroughRecords.{read_right, read_kept}
use Rattle.merkle_batch.proofs.KeptReads.{IsAnsweredWhereKept}

module _ {D : Type 0} (h : Hashing D) (rule : List ℕ → List ℕ) (rs : List (RecordModel D)) (base : Contents D) where
  -- over a base that agrees with one of its lists, what is read at a node is the last list's digest there
  pub read_answers : (ls : List (List D)) → IsHistory h rule rs ls → AgreesWithOne h rule base ls → AnswersList h rule (last_list ls) (λ p r. r ≡ read_over rs base p)
  read_answers [] stands agrees = absurd stands
  read_answers (X ∷ ls) stands agrees = λ p t d at is.
      (let same : Some d ≡ Some (digest_at h (last_list (X ∷ ls)) t) =
      sym (read_right h rule rs X ls base agrees.0 agrees.1 stands agrees.2 agrees.3 p d (sym is)) ∙ node_digest_at h rule (last_list (X ∷ ls)) p t at in cc)

  -- the base's boundary is no later than the last list's end
  pub boundary_within : (ls : List (List D)) → IsHistory h rule rs ls → AgreesWithOne h rule base ls → base.boundary ≤ length (last_list ls)
  boundary_within [] stands agrees = absurd stands
  boundary_within (X ∷ ls) stands agrees = omega (arith, agrees.3.bounded, stands_longer h rule rs X ls agrees.0 agrees.1 stands agrees.2)

  -- and each node that it keeps is read
  pub read_where_kept : (ls : List (List D)) → IsHistory h rule rs ls → AgreesWithOne h rule base ls → IsAnsweredWhereKept rule base.boundary (length (last_list ls)) (read_over rs base)
  read_where_kept [] stands agrees = absurd stands
  read_where_kept (X ∷ ls) stands agrees = λ p t at kept.
      (digest_at h (last_list (X ∷ ls)) t, read_kept h rule rs X ls base agrees.0 agrees.1 stands agrees.2 agrees.3 p kept ∙ node_digest_at h rule (last_list (X ∷ ls)) p t at)

-- a batch that stands on lists has the leaves of the last one
pub leaves_of_last : {D : Type 0} (h : Hashing D) (rule : List ℕ → List ℕ) (c : MerkleizedModel D) (ls : List (List D))
    → IsHistory h rule (records c) ls → (n : ℕ) → size rule n ≡ after c.own → n ≡ length (last_list ls)
leaves_of_last h rule c ls stands n sized = size_inj rule n (length (last_list ls)) (sized ∙ (last_size h rule c ls stands).0)
