-- What is answered to the requests of a structure, in terms of the elements that it was given.
use Rattle.std.specs.Prelude.{◌≡◌, ◌≢◌, ◌⊎◌, ℕ, ◌-◌, ◌*◌, ◌^◌, ◌<◌, ◌≤◌, List, [], ◌++◌, length, map, Option, None, Ok, Err, cond, min, nat_le, nat_lt, slice_get, codes, false}
use Rattle.std.specs.Fmt.{decimal}
use Rattle.hex.specs.Hex.{decode_of, encode_lower}
use Rattle.merkle_base.specs.Digests.{node_digests}
use Rattle.merkle_base.specs.Forest.{size}
use Rattle.merkle_base.specs.Places.{peaks_of}
use Rattle.merkle_base.specs.Root.{list_root}
use Rattle.merkle_base.specs.Scheme.{Scheme}
use Rattle.merkle_base.specs.Tree.{Tree, position}
use Rattle.merkle_base.specs.declared.error.DecodeError.{DecodeError}
use Rattle.merkle_base.specs.declared.error.DecodeError.TheVariants.{OutOfMemory}
use Rattle.merkle_batch_theory.specs.Contents.{is_kept}
use Rattle.merkle_batch_theory.specs.Needed.{IsNeeded}
use Rattle.merkle_codec.specs.ProofSpelling.{parts_spelling, IsProofReadRefusal}
use Rattle.merkle_commands.specs.Commands.{optional_words}
use Rattle.merkle_commands.specs.declared.command.Request.{Request}
use Rattle.merkle_commands.specs.declared.command.Request.TheVariants.{Add, Update, Commit, Prune, Root, Prove, Check, Audit}
use Rattle.merkle_audit_theory.specs.PlainHash.{string_at}
use Rattle.merkle_claim_theory.specs.FirstCollision.{IsFirstCollision}
use Rattle.merkle_hasher.specs.LeafDigests.{leaf_digests}
use Rattle.merkle_core.specs.LeafDigests.{range_input}
use Rattle.merkle_proof.specs.RangePlans.{IsFirstMissing}
use Rattle.merkle_root_theory.specs.Check.{RangeInput, range_inputs}
use Rattle.merkle_root_theory.specs.Collision.{Collision}
use Rattle.merkle_root_theory.specs.Expression as theory
use Rattle.merkle_root_theory.specs.Range.{range_digests, list_inputs, IsHonestRange}
use Rattle.merkle_root_theory.specs.Reads.{reading_order}
use Rattle.merkle_root_theory.specs.Reconstruction.{reconstructed}
use Rattle.merkle_lines.specs.ErrorNames.{decode_error_name}
use Rattle.merkle_lines.specs.StructureState.{StructureState, all_committed, at_updated, changes, count, pruned_to, with_changes, with_element, with_changed_element, without_changes}

-- the bytes that a word of digits spells; "-" spells none
abbrev pub word_bytes : List ℕ → List ℕ
word_bytes word = elim (decode_of word) [ Ok bytes ↦ bytes | Err e ↦ [] ]

-- the line of a refusal
abbrev pub error_line : List ℕ → List ℕ
error_line name = codes "error " ++ name

-- the leaf digests of the committed elements
abbrev pub committed_list : {D : Type 0} → Scheme D → StructureState → List D
committed_list s g = leaf_digests s.hashing s.rule 0 g.committed

-- what adding an element leaves, and the line that answers it
abbrev pub added : {D : Type 0} → Scheme D → StructureState → List ℕ → StructureState × List ℕ
added s g element =
    let c = changes g in
    cond (nat_lt (length c.elements) s.max_leaves) (with_changes g (with_element c element), codes "ok " ++ decimal (length c.elements))
    (without_changes g, error_line (codes "LocationOverflow"))

-- what updating an element leaves, and the line that answers it
abbrev pub updated : StructureState → ℕ → List ℕ → StructureState × List ℕ
updated g location element =
    let c = changes g in
    cond (nat_le (length c.elements) location) (without_changes g, error_line (codes "LeafOutOfBounds"))
    (cond (nat_lt location c.boundary) (without_changes g, error_line (codes "ElementPruned"))
    (with_changes g (with_changed_element (count g) c location element), codes "ok"))

-- what pruning leaves, and the line that answers it
abbrev pub prune_answer : StructureState → ℕ → StructureState × List ℕ
prune_answer g location =
    let p = pruned_to g location in
    cond (nat_lt (count g) location) (g, error_line (codes "LeafOutOfBounds")) (p, codes "ok " ++ decimal p.boundary ++ codes " " ++ decimal (count g))

-- the bytes of a root
abbrev pub root_bytes : {D : Type 0} → Scheme D → StructureState → ℕ → List ℕ
root_bytes s g inactive = s.hashing.bytes (list_root s (committed_list s g) inactive)

-- the line that answers a root
abbrev pub root_line : {D : Type 0} → Scheme D → StructureState → ℕ → List ℕ
root_line s g inactive =
    cond (nat_le inactive (length (peaks_of s.rule (count g)))) (encode_lower (root_bytes s g inactive))
    (error_line (codes "InvalidInactivePeaks"))

-- the changes need the node t, which was pruned
abbrev pub IsLost : (List ℕ → List ℕ) → StructureState → Tree → Type 0
IsLost rule g t =
    let c = changes g in
    IsNeeded rule (at_updated rule c.updated) (count g) (length c.elements) t × (is_kept rule g.boundary (position t) ≡ false)

-- what committing leaves, and the line that answers it: it is refused where a node is lost that it needs
abbrev pub IsCommitted : (List ℕ → List ℕ) → StructureState → StructureState → List ℕ → Type 0
IsCommitted rule g u text =
    let n = length (changes g).elements in
    (((t : Tree) → ¬ (IsLost rule g t)) × (u ≡ all_committed g) × (text ≡ codes "ok " ++ decimal n ++ codes " " ++ decimal (size rule n)))
    ⊎ ((t : Tree) × IsLost rule g t × (u ≡ without_changes g) × (text ≡ error_line (codes "MissingNode")))

-- the committed list's node at a position, where it isn't pruned
abbrev pub kept_node : {D : Type 0} → Scheme D → StructureState → ℕ → Option D
kept_node s g p = cond (is_kept s.rule g.boundary p) (slice_get (node_digests s.hashing s.rule (committed_list s g)) p) None

-- a node that a proof of the leaves from a on, before b, reads was pruned
abbrev pub IsRangePruned : {D : Type 0} → Scheme D → StructureState → (a b inactive : ℕ) → Type 0
IsRangePruned s g a b inactive = (p : ℕ)
    × IsFirstMissing (λ q node. node ≡ kept_node s g q) (map position (reading_order s.bagging inactive s.rule (count g) a b)) p

-- the bytes that spell the honest proof of the leaves from a on, before b
abbrev pub proof_bytes : {D : Type 0} → Scheme D → StructureState → (a b inactive : ℕ) → List ℕ
proof_bytes s g a b inactive = parts_spelling s.hashing.bytes (count g) inactive (range_digests s (committed_list s g) inactive a b)

-- the line that answers a proof: the first refusal that applies, or the proof
abbrev pub IsProved : {D : Type 0} → Scheme D → StructureState → (a b inactive : ℕ) → List ℕ → Type 0
IsProved s g a b inactive text =
    ((b ≤ a) × (text ≡ error_line (codes "Empty")))
    ⊎ ((a < b) × (count g < b) × (text ≡ error_line (codes "RangeOutOfBounds")))
    ⊎ ((a < b) × (b ≤ count g) × (length (peaks_of s.rule (count g)) < inactive) × (text ≡ error_line (codes "InvalidProof")))
    ⊎ ((a < b) × (b ≤ count g) × (inactive ≤ length (peaks_of s.rule (count g)))
    × ((IsRangePruned s g a b inactive × (text ≡ error_line (codes "ElementPruned")))
    ⊎ ((¬ (IsRangePruned s g a b inactive)) × (text ≡ encode_lower (proof_bytes s g a b inactive)))))

-- the greatest number of digests that are read of a proof of `elements` elements, as far as 64 bits count
abbrev pub most_digests : ℕ → ℕ
most_digests elements = min (122 * elements) (2 ^ 64 - 1)

-- the line says whether P holds
abbrev pub Says : Type 0 → List ℕ → Type 0
Says P text = (P × (text ≡ codes "yes")) ⊎ ((¬ P) × (text ≡ codes "no"))

-- the line on bytes that begin with the spelling of a proof: whether nothing follows it, and it has that number of inactive peaks, and the elements
-- from a on lead to the root with it
abbrev pub IsVerdict : {D : Type 0} → Scheme D → (a inactive : ℕ) → (root : D) → (proof : List ℕ) → List (List ℕ) → List ℕ → Type 0
IsVerdict {D} s a inactive root proof elements text =
    (leaves peaks : ℕ) × (digests : List D) × (rest : List ℕ) × (leaves ≤ s.max_leaves) × (peaks < 2 ^ 64) × (length digests ≤ most_digests (length elements))
    × (proof ≡ parts_spelling s.hashing.bytes leaves peaks digests ++ rest)
    × (((rest ≢ []) × (text ≡ error_line (codes "Trailing")))
    ⊎ ((rest ≡ []) × Says ((peaks ≡ inactive) × (reconstructed s (range_input s leaves peaks digests a elements) ≡ Ok root)) text))

-- the line on the bytes of a proof: they begin with no proof, or else the verdict
abbrev pub IsRead : {D : Type 0} → Scheme D → (size : ℕ) → (Spells : List ℕ → Type 0) → (a inactive : ℕ) → (root : D) → (proof : List ℕ)
    → List (List ℕ) → List ℕ → Type 0
IsRead s size Spells a inactive root proof elements text =
    ((e : DecodeError) × (e ≢ OutOfMemory) × IsProofReadRefusal size Spells s.max_leaves (most_digests (length elements)) proof e
    × (text ≡ error_line (decode_error_name e)))
    ⊎ IsVerdict s a inactive root proof elements text

-- the line that answers a check: the bytes of the root are no digest's, or else what the proof is against it
abbrev pub IsChecked : {D : Type 0} → Scheme D → (size : ℕ) → (Spells : List ℕ → Type 0) → (a inactive : ℕ) → (root proof : List ℕ)
    → List (List ℕ) → List ℕ → Type 0
IsChecked {D} s size Spells a inactive root proof elements text =
    ((¬ (Spells root)) × (text ≡ error_line (codes "Syntax")))
    ⊎ ((d : D) × (s.hashing.bytes d ≡ root) × IsRead s size Spells a inactive d proof elements text)

-- the words of a place
abbrev pub place_words : theory.Place → List ℕ
place_words theory.Root = codes "root"
place_words theory.Join = codes "join"
place_words (theory.PrefixFold i) = codes "prefix " ++ decimal i
place_words (theory.SuffixFold i) = codes "suffix " ++ decimal i
place_words (theory.Node p) = codes "node " ++ decimal p

-- the line of a collision: its place, and the bytes that the plain hash hashed on both sides
abbrev pub collision_line : {D : Type 0} → (D → List ℕ) → Collision D → List ℕ
collision_line bytes c =
    codes "collision " ++ place_words c.place ++ codes " " ++ encode_lower (string_at bytes c.place c.claimed)
    ++ codes " " ++ encode_lower (string_at bytes c.place c.listed)

-- the line says what a range input is against a list: it isn't accepted, it is honest, or else it collides, at first there
abbrev pub SaysOfInput : {D : Type 0} → Scheme D → List D → ℕ → RangeInput D → List ℕ → Type 0
SaysOfInput {D} s X inactive r text =
    ((¬ (reconstructed s r ≡ Ok (list_root s X inactive))) × (text ≡ codes "rejected"))
    ⊎ (IsHonestRange s X inactive r × (text ≡ codes "honest"))
    ⊎ ((reconstructed s r ≡ Ok (list_root s X inactive)) × (¬ (IsHonestRange s X inactive r))
    × (c : Collision D) × IsFirstCollision s.hashing (range_inputs s r) (list_inputs s X inactive) c × (text ≡ collision_line s.hashing.bytes c))

-- the line on a proof of the elements from a on that was read, against the committed elements
abbrev pub IsAuditedInput : {D : Type 0} → Scheme D → StructureState → (inactive : ℕ) → RangeInput D → List ℕ → Type 0
IsAuditedInput s g inactive r text =
    ((length (peaks_of s.rule (count g)) < inactive) × (text ≡ error_line (codes "InvalidInactivePeaks")))
    ⊎ ((inactive ≤ length (peaks_of s.rule (count g))) × SaysOfInput s (committed_list s g) inactive r text)

-- the line that answers an audit: the bytes begin with no proof, or something follows it, or else what the proof is
abbrev pub IsAudited : {D : Type 0} → Scheme D → (size : ℕ) → (Spells : List ℕ → Type 0) → StructureState → (a inactive : ℕ) → (proof : List ℕ)
    → List (List ℕ) → List ℕ → Type 0
IsAudited {D} s size Spells g a inactive proof elements text =
    ((e : DecodeError) × (e ≢ OutOfMemory) × IsProofReadRefusal size Spells s.max_leaves (most_digests (length elements)) proof e
    × (text ≡ error_line (decode_error_name e)))
    ⊎ ((leaves peaks : ℕ) × (digests : List D) × (rest : List ℕ) × (leaves ≤ s.max_leaves) × (peaks < 2 ^ 64)
    × (length digests ≤ most_digests (length elements)) × (proof ≡ parts_spelling s.hashing.bytes leaves peaks digests ++ rest)
    × (((rest ≢ []) × (text ≡ error_line (codes "Trailing")))
    ⊎ ((rest ≡ []) × IsAuditedInput s g inactive (range_input s leaves peaks digests a elements) text)))

-- what a request leaves, and the line that answers it; digests are read from `size` bytes, of which each that spells one is a digest's
abbrev pub IsDone : {D : Type 0} → Scheme D → (size : ℕ) → (Spells : List ℕ → Type 0) → StructureState → Request → StructureState → List ℕ → Type 0
IsDone s size Spells g (Add digits) u text = (u, text) ≡ added s g (word_bytes digits.now)
IsDone s size Spells g (Update location digits) u text = (u, text) ≡ updated g location (word_bytes digits.now)
IsDone s size Spells g Commit u text = IsCommitted s.rule g u text
IsDone s size Spells g (Prune location) u text = (u, text) ≡ prune_answer g location
IsDone s size Spells g (Root inactive) u text = (u ≡ g) × (text ≡ root_line s g inactive)
IsDone s size Spells g (Prove start end inactive) u text = (u ≡ g) × IsProved s g start end inactive text
IsDone s size Spells g (Check start inactive root proof elements) u text =
    (u ≡ g) × IsChecked s size Spells start inactive (word_bytes root.now) (word_bytes proof.now) (map word_bytes (optional_words elements)) text
IsDone s size Spells g (Audit start inactive proof elements) u text =
    (u ≡ g) × IsAudited s size Spells g start inactive (word_bytes proof.now) (map word_bytes (optional_words elements)) text

-- what is left where memory was wanting
abbrev pub left : StructureState → Request → StructureState
left g (Add digits) = without_changes g
left g (Update location digits) = without_changes g
left g Commit = without_changes g
left g (Prune location) = g
left g (Root inactive) = g
left g (Prove start end inactive) = g
left g (Check start inactive root proof elements) = g
left g (Audit start inactive proof elements) = g

-- a request leaves u, and the text answers it
abbrev pub IsRequestAnswered : {D : Type 0} → Scheme D → (size : ℕ) → (Spells : List ℕ → Type 0) → StructureState → Request → StructureState → List ℕ → Type 0
IsRequestAnswered s size Spells g request u text =
    IsDone s size Spells g request u text ⊎ ((u ≡ left g request) × (text ≡ error_line (codes "OutOfMemory")))
