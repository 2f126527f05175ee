-- Small cases, with the exclusive or in the place of a hash.
use Rattle.std.specs.Prelude.{ℕ, [], ◌∷◌, Option, Some, None, cond, nat_eq, bit_xor, fold, slice_get, ◌==◌, ◌||◌, ◌^◌}
use Rattle.std.specs.FinMap.{empty, from_entries}
use Rattle.merkle_base.specs.declared.family.Bagging.{Bagging}
use Rattle.merkle_base.specs.Hashing.{Hashing}
use Rattle.merkle_base.specs.Scheme.{Scheme, scheme_of}
use Rattle.merkle_forest_theory.specs.Mmr.{mmr_merges}
use Rattle.merkle_batch_theory.specs.Contents.{Contents, pruned}
use Rattle.merkle_batch_theory.specs.Records.{RecordModel, MerkleizedModel}
use Rattle.merkle_batch_theory.specs.Unmerkleized.{UnmerkleizedModel, forked}
use Rattle.merkle_batch_theory.specs.Roots.{root_batch}

-- the exclusive or as leaf, node and fold digest and as the hash of bytes
abbrev pub xor : Hashing ℕ
xor = record {
  leaf = λ p element. bit_xor p (fold bit_xor 0 element);
  node = λ p a b. bit_xor p (bit_xor a b);
  fold = bit_xor;
  hash = fold bit_xor 0;
  bytes = λ d. d ∷ [];
  same = nat_eq;
  empty = 0;
}

-- a Mountain Range with the exclusive or as its hash
abbrev pub xor_scheme : Bagging → Scheme ℕ
xor_scheme bagging = scheme_of xor bagging mmr_merges (2 ^ 62) 0

-- the record of two leaves over nothing
abbrev pub first_record : RecordModel ℕ
first_record = record { before = 0; peaks_before = []; appended = 1 ∷ 3 ∷ 0 ∷ []; overwritten = empty; peaks_after = 0 ∷ [] }

-- the record that changes leaf 0 and adds a third leaf
abbrev pub second_record : RecordModel ℕ
second_record = record { before = 3; peaks_before = 0 ∷ []; appended = 7 ∷ []; overwritten = from_entries ((0, 17) ∷ (2, 16) ∷ []); peaks_after = 16 ∷ 7 ∷ [] }

-- the batch of the second record, which keeps the first one
abbrev pub second_batch : MerkleizedModel ℕ
second_batch = record { base_size = 0; boundary = 0; ancestors = first_record ∷ []; own = second_record; leaves = 3 }

-- the structure of no leaves
abbrev pub nothing : Contents ℕ
nothing = record { boundary = 0; size = 0; node = λ p. None }

-- the structure of one leaf
abbrev pub one : Contents ℕ
one = record { boundary = 0; size = 1; node = slice_get (1 ∷ []) }

-- the structure of two leaves
abbrev pub two : Contents ℕ
two = record { boundary = 0; size = 3; node = slice_get (1 ∷ 3 ∷ 0 ∷ []) }

-- a digest for the positions a and b
abbrev pub at_two : ℕ → ℕ → ℕ → Option ℕ
at_two a b p = cond (p == a || p == b) (Some 0) None

-- the structure of five leaves
abbrev pub five : Contents ℕ
five = record { boundary = 0; size = 8; node = slice_get (1 ∷ 3 ∷ 0 ∷ 0 ∷ 0 ∷ 5 ∷ 3 ∷ 2 ∷ []) }

-- the record that changes the first of five leaves
abbrev pub change : RecordModel ℕ
change = record {
  before = 8;
  peaks_before = 3 ∷ 2 ∷ [];
  appended = [];
  overwritten = from_entries ((0, 17) ∷ (2, 16) ∷ (6, 19) ∷ []);
  peaks_after = 19 ∷ 2 ∷ [];
}

-- the record that exchanges two leaves, which their peak does not tell
abbrev pub exchange : RecordModel ℕ
exchange = record { before = 3; peaks_before = 0 ∷ []; appended = []; overwritten = from_entries ((0, 3) ∷ (1, 1) ∷ (2, 0) ∷ []); peaks_after = 0 ∷ [] }

-- a batch of the exchanging record alone
abbrev pub exchanging : MerkleizedModel ℕ
exchanging = record { base_size = 3; boundary = 0; ancestors = []; own = exchange; leaves = 2 }

-- the structure of the two leaves after their exchange
abbrev pub two_exchanged : Contents ℕ
two_exchanged = record { boundary = 0; size = 3; node = slice_get (3 ∷ 1 ∷ 0 ∷ []) }

-- the record that adds a third leaf
abbrev pub addition : RecordModel ℕ
addition = record { before = 3; peaks_before = 0 ∷ []; appended = 7 ∷ []; overwritten = empty; peaks_after = 0 ∷ 7 ∷ [] }

-- the batch that adds a third leaf and keeps the records of the first two and of their exchange
abbrev pub exchanged_batch : MerkleizedModel ℕ
exchanged_batch = record { base_size = 0; boundary = 0; ancestors = first_record ∷ exchange ∷ []; own = addition; leaves = 3 }

-- a fourth leaf, over that batch without its oldest record
abbrev pub fourth : UnmerkleizedModel ℕ
fourth = record { parent = exchanged_batch; leaves_before = 3; added = 9 ∷ []; overwritten = empty; forgotten = 1 }

-- no changes, over a batch whose own record exchanges the leaves
abbrev pub over_exchange : UnmerkleizedModel ℕ
over_exchange = forked (record { base_size = 0; boundary = 0; ancestors = first_record ∷ []; own = exchange; leaves = 2 })

-- forked from five leaves of which four are pruned, taken for n leaves
abbrev pub over_pruned : ℕ → UnmerkleizedModel ℕ
over_pruned n = forked (root_batch mmr_merges n (pruned mmr_merges 4 five))
