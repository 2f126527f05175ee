-- The words of a line that is a command.
use Rattle.std.specs.Prelude.{◌≡◌, ◌≢◌, ◌⊎◌, ℕ, ◌<◌, ◌^◌, ◌==◌, List, [], ◌∷◌, Option, None, Some, ⊤, codes}
use Rattle.std.specs.Borrow.{Bor}
use Rattle.std.specs.Fmt.{decimal}
use Rattle.std.specs.List.{AllByRecursion, join_with_byte, slice_split}
use Rattle.merkle_base.specs.declared.family.Bagging.{Bagging}
use Rattle.merkle_base.specs.declared.family.Bagging.TheVariants.{ForwardFold, BackwardFold}
use Rattle.merkle_commands.specs.declared.command.Command.{Command}
use Rattle.merkle_commands.specs.declared.command.Command.TheVariants.{New, Ask}
use Rattle.merkle_commands.specs.declared.command.FamilyName.{FamilyName}
use Rattle.merkle_commands.specs.declared.command.FamilyName.TheVariants.{Mmr, Mmb}
use Rattle.merkle_commands.specs.declared.command.HashName.{HashName}
use Rattle.merkle_commands.specs.declared.command.HashName.TheVariants.{Sha256, Xor8}
use Rattle.merkle_commands.specs.declared.command.Request.TheVariants.{Add, Update, Commit, Prune, Root, Prove, Check, Audit}
use Rattle.merkle_commands.specs.Words.{IsHexWord}

-- the word of a family
abbrev pub family_word : FamilyName → List ℕ
family_word Mmr = codes "mmr"
family_word Mmb = codes "mmb"

-- the word of a bagging
abbrev pub bagging_word : Bagging → List ℕ
bagging_word ForwardFold = codes "forward"
bagging_word BackwardFold = codes "backward"

-- the words of a hash; SHA-256 is the hash where no word names one
abbrev pub hash_words : HashName → List (List ℕ)
hash_words Sha256 = []
hash_words Xor8 = codes "xor8" ∷ []

-- the digits of an element, and "-" where it has none
abbrev pub element_word : List ℕ → List ℕ
element_word [] = codes "-"
element_word (digit ∷ digits) = digit ∷ digits

-- the words that stand in a row, with one space between each two
abbrev pub words_in : List ℕ → List (List ℕ)
words_in row = slice_split (λ b. b == 32) row

-- the words that stand in a row, if there is a row, and else none
abbrev pub optional_words : Option (Bor (List ℕ)) → List (List ℕ)
optional_words None = []
optional_words (Some row) = words_in row.now

-- the words of a command
abbrev pub words_of : Command → List (List ℕ)
words_of (New family bagging hash) = codes "new" ∷ family_word family ∷ bagging_word bagging ∷ hash_words hash
words_of (Ask (Add digits)) = codes "add" ∷ element_word digits.now ∷ []
words_of (Ask (Update location digits)) = codes "update" ∷ decimal location ∷ element_word digits.now ∷ []
words_of (Ask Commit) = codes "commit" ∷ []
words_of (Ask (Prune location)) = codes "prune" ∷ decimal location ∷ []
words_of (Ask (Root inactive)) = codes "root" ∷ decimal inactive ∷ []
words_of (Ask (Prove start end inactive)) = codes "prove" ∷ decimal start ∷ decimal end ∷ decimal inactive ∷ []
words_of (Ask (Check start inactive root proof elements)) = codes "check" ∷ decimal start ∷ decimal inactive ∷ root.now ∷ proof.now ∷ optional_words elements
words_of (Ask (Audit start inactive proof elements)) = codes "audit" ∷ decimal start ∷ decimal inactive ∷ proof.now ∷ optional_words elements

-- a row of words, with one space between each two
abbrev pub joined : List (List ℕ) → List ℕ
joined words = join_with_byte 32 words

-- digits, of which there are some
abbrev pub IsDigitsWord : List ℕ → Type 0
IsDigitsWord word = IsHexWord word × (word ≢ [])

-- the digits of an element, or "-"
abbrev pub IsElementWord : List ℕ → Type 0
IsElementWord word = (word ≡ codes "-") ⊎ IsDigitsWord word

-- a command that can stand in a line: the digits of elements, of the root and of the proof are hexadecimal words, and numbers are below
-- 2^64
abbrev pub IsCommand : Command → Type 0
IsCommand (New family bagging hash) = ⊤
IsCommand (Ask (Add digits)) = IsHexWord digits.now
IsCommand (Ask (Update location digits)) = (location < 2 ^ 64) × IsHexWord digits.now
IsCommand (Ask Commit) = ⊤
IsCommand (Ask (Prune location)) = location < 2 ^ 64
IsCommand (Ask (Root inactive)) = inactive < 2 ^ 64
IsCommand (Ask (Prove start end inactive)) = (start < 2 ^ 64) × (end < 2 ^ 64) × (inactive < 2 ^ 64)
IsCommand (Ask (Check start inactive root proof elements)) =
    (start < 2 ^ 64) × (inactive < 2 ^ 64) × IsDigitsWord root.now × IsDigitsWord proof.now × AllByRecursion IsElementWord (optional_words elements)
IsCommand (Ask (Audit start inactive proof elements)) =
    (start < 2 ^ 64) × (inactive < 2 ^ 64) × IsDigitsWord proof.now × AllByRecursion IsElementWord (optional_words elements)
