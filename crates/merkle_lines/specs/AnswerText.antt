-- The lines that answers are printed as.
use Rattle.std.specs.Prelude.{ℕ, List, ◌++◌, cond, codes}
use Rattle.std.specs.Fmt.{decimal}
use Rattle.std.specs.String.{string_bytes}
use Rattle.merkle_lines.specs.declared.answer.Answer.{Answer}
use Rattle.merkle_lines.specs.declared.answer.Answer.TheVariants.{Done, Added, Committed, Pruned, Digits, Verdict, Rejected, Honest, Collision, Fault}
use Rattle.merkle_lines.specs.declared.answer.Spot.{Spot}
use Rattle.merkle_lines.specs.declared.answer.Spot.TheVariants as spot
use Rattle.merkle_lines.specs.Answers.{error_line}

-- the bytes of a place's words
abbrev pub spot_text : Spot → List ℕ
spot_text spot.Root = codes "root"
spot_text spot.Join = codes "join"
spot_text (spot.Prefix number) = codes "prefix " ++ decimal number
spot_text (spot.Suffix number) = codes "suffix " ++ decimal number
spot_text (spot.Node position) = codes "node " ++ decimal position

-- the bytes of an answer, without the one that ends its line
abbrev pub answer_text : Answer → List ℕ
answer_text Done = codes "ok"
answer_text (Added location) = codes "ok " ++ decimal location
answer_text (Committed leaves size) = codes "ok " ++ decimal leaves ++ codes " " ++ decimal size
answer_text (Pruned start end) = codes "ok " ++ decimal start ++ codes " " ++ decimal end
answer_text (Digits digits) = string_bytes digits
answer_text (Verdict accepted) = cond accepted (codes "yes") (codes "no")
answer_text Rejected = codes "rejected"
answer_text Honest = codes "honest"
answer_text (Collision place claimed listed) =
    codes "collision " ++ spot_text place ++ codes " " ++ string_bytes claimed ++ codes " " ++ string_bytes listed
answer_text (Fault name) = error_line name.now
