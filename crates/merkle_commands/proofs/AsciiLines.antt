-- A line that is a command is ASCII, and so it is UTF-8.
use Rattle.std.proofs.Common.{◌≡◌, ℕ, ◌<◌, List, [], ◌∷◌, ◌++◌, true, arith, refl, sym, subst, ltb, inl, inr}
use Rattle.std.specs.Prelude.{codes}
use Rattle.std.specs.Fmt.{decimal}
use Rattle.std.specs.List.{AllByRecursion, list_all}
use Rattle.std.specs.Str.{IsAscii, IsUtf8}
use Rattle.std.proofs.lemmas.Bool.{ltb-true, and_parts}
use Rattle.std.proofs.lemmas.Fmt.{IsAscii-decimal}
use Rattle.std.proofs.lemmas.Str.{IsAscii-append, IsUtf8-from_ascii}
use Rattle.std.proofs.lemmas.Str.Ascii.{IsAscii-nil, IsAscii-cons, IsAscii-from_all}
use Rattle.hex.specs.Hex.{is_hex_digit}
use Rattle.merkle_base.specs.declared.family.Bagging.TheVariants.{ForwardFold, BackwardFold}
use Rattle.merkle_commands.specs.declared.command.Command.{Command}
use Rattle.merkle_commands.specs.declared.command.Command.TheVariants.{New, Ask}
use Rattle.merkle_commands.specs.declared.command.FamilyName.TheVariants.{Mmr, Mmb}
use Rattle.merkle_commands.specs.declared.command.HashName.TheVariants.{Sha256, Xor8}
use Rattle.merkle_commands.specs.declared.command.Request.TheVariants.{Add, Update, Commit, Prune, Root, Prove, Check, Audit}
use Rattle.merkle_commands.specs.Commands.{element_word, optional_words, words_of, joined, IsCommand, IsElementWord}
use Rattle.merkle_commands.specs.Words.{IsHexWord}

-- bytes below 128, by computing
ascii_of : (bs : List ℕ) → list_all (λ b. ltb b 128) bs ≡ true → IsAscii bs
ascii_of [] e = IsAscii-nil
ascii_of (b ∷ bs) e = let w = and_parts (ltb b 128) (list_all (λ b. ltb b 128) bs) e in IsAscii-cons b bs (ltb-true b 128 w.0) (ascii_of bs w.1)

hex_below : (c : ℕ) → is_hex_digit c ≡ true → c < 128
hex_below c e = grind (arith, e)

two_words : (a b : List ℕ) → IsAscii a → IsAscii b → IsAscii (a ++ 32 ∷ b)
two_words a b p q = IsAscii-append a (32 ∷ b) p (IsAscii-cons 32 b (omega arith) q)

digits_ascii : (ds : List ℕ) → IsHexWord ds → IsAscii ds
digits_ascii ds h = IsAscii-from_all ds (λ k e l. hex_below _ (h.1 k e l))

element_ascii : (ds : List ℕ) → IsHexWord ds → IsAscii (element_word ds)
element_ascii [] h = ascii_of (codes "-") refl
element_ascii (d ∷ ds) h = digits_ascii (d ∷ ds) h

elements_ascii : (words : List (List ℕ)) → AllByRecursion IsElementWord words → AllByRecursion IsAscii words
elements_ascii [] h = tt
elements_ascii (word ∷ words) (inl dash, h) = (subst IsAscii (sym dash) (ascii_of (codes "-") refl), elements_ascii words h)
elements_ascii (word ∷ words) (inr digits, h) = (digits_ascii word digits.0, elements_ascii words h)

joined_ascii : (words : List (List ℕ)) → AllByRecursion IsAscii words → IsAscii (joined words)
joined_ascii [] h = IsAscii-nil
joined_ascii (word ∷ []) h = h.0
joined_ascii (word ∷ next ∷ words) h = two_words word (joined (next ∷ words)) h.0 (joined_ascii (next ∷ words) h.1)

command_ascii : (command : Command) → IsCommand command → IsAscii (joined (words_of command))
command_ascii (New Mmr ForwardFold Sha256) i = ascii_of (codes "new mmr forward") refl
command_ascii (New Mmr ForwardFold Xor8) i = ascii_of (codes "new mmr forward xor8") refl
command_ascii (New Mmr BackwardFold Sha256) i = ascii_of (codes "new mmr backward") refl
command_ascii (New Mmr BackwardFold Xor8) i = ascii_of (codes "new mmr backward xor8") refl
command_ascii (New Mmb ForwardFold Sha256) i = ascii_of (codes "new mmb forward") refl
command_ascii (New Mmb ForwardFold Xor8) i = ascii_of (codes "new mmb forward xor8") refl
command_ascii (New Mmb BackwardFold Sha256) i = ascii_of (codes "new mmb backward") refl
command_ascii (New Mmb BackwardFold Xor8) i = ascii_of (codes "new mmb backward xor8") refl
command_ascii (Ask (Add digits)) i = two_words (codes "add") (element_word digits.now) (ascii_of (codes "add") refl) (element_ascii digits.now i)
command_ascii (Ask (Update k digits)) i =
    two_words (codes "update") (decimal k ++ 32 ∷ element_word digits.now) (ascii_of (codes "update") refl)
    (two_words (decimal k) (element_word digits.now) (IsAscii-decimal k i.0) (element_ascii digits.now i.1))
command_ascii (Ask Commit) i = ascii_of (codes "commit") refl
command_ascii (Ask (Prune k)) i = two_words (codes "prune") (decimal k) (ascii_of (codes "prune") refl) (IsAscii-decimal k i)
command_ascii (Ask (Root count)) i = two_words (codes "root") (decimal count) (ascii_of (codes "root") refl) (IsAscii-decimal count i)
command_ascii (Ask (Prove a b k)) i =
    two_words (codes "prove") (decimal a ++ 32 ∷ (decimal b ++ 32 ∷ decimal k)) (ascii_of (codes "prove") refl)
    (two_words (decimal a) (decimal b ++ 32 ∷ decimal k) (IsAscii-decimal a i.0) (two_words (decimal b) (decimal k) (IsAscii-decimal b i.1) (IsAscii-decimal k i.2)))
command_ascii (Ask (Check a k root proof elements)) i =
    two_words (codes "check") (decimal a ++ 32 ∷ (decimal k ++ 32 ∷ (root.now ++ 32 ∷ joined (proof.now ∷ optional_words elements)))) (ascii_of (codes "check") refl)
    (two_words (decimal a) (decimal k ++ 32 ∷ (root.now ++ 32 ∷ joined (proof.now ∷ optional_words elements))) (IsAscii-decimal a i.0)
    (two_words (decimal k) (root.now ++ 32 ∷ joined (proof.now ∷ optional_words elements)) (IsAscii-decimal k i.1)
    (two_words root.now (joined (proof.now ∷ optional_words elements)) (digits_ascii root.now i.2.0)
    (joined_ascii (proof.now ∷ optional_words elements) (digits_ascii proof.now i.3.0, elements_ascii (optional_words elements) i.4)))))
command_ascii (Ask (Audit a k proof elements)) i =
    two_words (codes "audit") (decimal a ++ 32 ∷ (decimal k ++ 32 ∷ joined (proof.now ∷ optional_words elements))) (ascii_of (codes "audit") refl)
    (two_words (decimal a) (decimal k ++ 32 ∷ joined (proof.now ∷ optional_words elements)) (IsAscii-decimal a i.0)
    (two_words (decimal k) (joined (proof.now ∷ optional_words elements)) (IsAscii-decimal k i.1)
    (joined_ascii (proof.now ∷ optional_words elements) (digits_ascii proof.now i.2.0, elements_ascii (optional_words elements) i.3))))

-- bytes that are no UTF-8 are no command's line
pub no_command : (line : List ℕ) → ¬ (IsUtf8 line) → (command : Command) → IsCommand command → ¬ (line ≡ joined (words_of command))
no_command line n command i e = n (subst IsUtf8 (sym e) (IsUtf8-from_ascii (joined (words_of command)) (command_ascii command i)))
