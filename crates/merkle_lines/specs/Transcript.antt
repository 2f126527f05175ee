-- What is written for the lines that are read.
use Rattle.std.specs.Prelude.{◌≡◌, ◌≢◌, ◌⊎◌, ◌+◌, ◌^◌, ◌==◌, ℕ, List, [], ◌∷◌, ◌++◌, length, Option, Some, None, cond, codes}
use Rattle.merkle_base.specs.declared.family.Bagging.{Bagging}
use Rattle.merkle_forest_theory.specs.Mmb.{mmb_merges}
use Rattle.merkle_forest_theory.specs.Mmr.{mmr_merges}
use Rattle.merkle_commands.specs.declared.command.Command.{Command}
use Rattle.merkle_commands.specs.declared.command.Command.TheVariants.{New, Ask}
use Rattle.merkle_commands.specs.declared.command.FamilyName.{FamilyName}
use Rattle.merkle_commands.specs.declared.command.FamilyName.TheVariants.{Mmr, Mmb}
use Rattle.merkle_commands.specs.declared.command.HashName.{HashName}
use Rattle.merkle_commands.specs.declared.command.HashName.TheVariants.{Sha256, Xor8}
use Rattle.merkle_commands.specs.declared.command.Request.{Request}
use Rattle.merkle_lines.specs.Answers.{error_line, IsRequestAnswered}
use Rattle.merkle_lines.specs.StructureState.{StructureState, empty_structure}
use Rattle.merkle_base.specs.Scheme.{scheme_of}
use Rattle.merkle_commands.specs.Commands.{words_of, joined, IsCommand}
use Rattle.merkle_core.specs.PlainHashings.{sha256_hashing, xor8_hashing}

-- a structure that was begun, and what it was given
pub record SessionState : Type 0 where
  pub family : FamilyName
  pub bagging : Bagging
  pub hash : HashName
  pub structure : StructureState

-- a request of a structure of some kind leaves u, and the text answers it; the Range has at most 2^62 leaves, the Belt 30 more, and their
-- bytes are 0 and 1; a digest of SHA-256 has 32 bytes, one of the exclusive or has one
abbrev pub IsNamedAnswered : FamilyName → Bagging → HashName → StructureState → Request → StructureState → List ℕ → Type 0
IsNamedAnswered Mmr bagging Sha256 = IsRequestAnswered (scheme_of sha256_hashing bagging mmr_merges (2 ^ 62) 0) 32 (λ b. length b ≡ 32)
IsNamedAnswered Mmr bagging Xor8 = IsRequestAnswered (scheme_of xor8_hashing bagging mmr_merges (2 ^ 62) 0) 1 (λ b. length b ≡ 1)
IsNamedAnswered Mmb bagging Sha256 = IsRequestAnswered (scheme_of sha256_hashing bagging mmb_merges (2 ^ 62 + 30) 1) 32 (λ b. length b ≡ 32)
IsNamedAnswered Mmb bagging Xor8 = IsRequestAnswered (scheme_of xor8_hashing bagging mmb_merges (2 ^ 62 + 30) 1) 1 (λ b. length b ≡ 1)

-- a command leaves u, and the text answers it; before the first `new` nothing was told
abbrev pub IsCommandAnswered : Option SessionState → Command → Option SessionState → List ℕ → Type 0
IsCommandAnswered told (New family bagging hash) u text =
    (u ≡ Some (record { family = family; bagging = bagging; hash = hash; structure = empty_structure })) × (text ≡ codes "ok")
IsCommandAnswered None (Ask request) u text = (u ≡ None) × (text ≡ error_line (codes "NoStructure"))
IsCommandAnswered (Some t) (Ask request) u text =
    (g : StructureState) × (u ≡ Some (record { family = t.family; bagging = t.bagging; hash = t.hash; structure = g }))
    × IsNamedAnswered t.family t.bagging t.hash t.structure request g text

-- a line leaves u, and the text answers it
abbrev pub IsLineAnswered : Option SessionState → List ℕ → Option SessionState → List ℕ → Type 0
IsLineAnswered told line u text =
    ((command : Command) × IsCommand command × (line ≡ joined (words_of command)) × IsCommandAnswered told command u text)
    ⊎ (((command : Command) → IsCommand command → line ≢ joined (words_of command)) × (u ≡ told) × (text ≡ error_line (codes "Syntax")))

-- the output has an answer for each of the lines, in their order, each ended by the byte 10
abbrev pub IsTranscript : Option SessionState → List (List ℕ) → List ℕ → Type 0
IsTranscript told [] output = output ≡ []
IsTranscript told (line ∷ lines) output =
    (u : Option SessionState) × (text rest : List ℕ) × IsLineAnswered told line u text × (output ≡ text ++ 10 ∷ rest) × IsTranscript u lines rest

-- the lines of bytes, where `begun` stands before them on the first line; each byte 10 ends one, and the last may lack it
abbrev pub lines_after : (bytes begun : List ℕ) → List (List ℕ)
lines_after [] begun = cond (length begun == 0) [] (begun ∷ [])
lines_after (b ∷ bytes) begun = cond (b == 10) (begun ∷ lines_after bytes []) (lines_after bytes (begun ++ b ∷ []))

-- the lines of bytes; each byte 10 ends one, and the last may lack it
abbrev pub lines_of : List ℕ → List (List ℕ)
lines_of bytes = lines_after bytes []

-- bytes are answered by the output, which leaves v and what is begun of the next line, whatever comes after them
abbrev pub ContinuesTo : (told : Option SessionState) → (begun bytes output : List ℕ) → (v : Option SessionState) → (next : List ℕ) → Type 0
ContinuesTo told begun bytes output v next =
    (more rest : List ℕ) → IsTranscript v (lines_after more next) rest → IsTranscript told (lines_after (bytes ++ more) begun) (output ++ rest)
