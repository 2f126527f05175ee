-- Bytes in parts, one part more.
use Rattle.std.proofs.Common.{◌≡◌, ℕ, ◌+◌, ◌<◌, List, [], ◌++◌, length, take, get_or, fold, bit_xor, sym, ◌∙◌, ap}
use Rattle.std.specs.Borrow.{Bor}
use Rattle.std.proofs.lemmas.List.{take_more, flat_map_more}
use Rattle.std.proofs.lemmas.List.Sums.{fold-append}
use Rattle.merkle_digest.specs.Bytes.{joined_parts}
use Rattle.merkle_digest.specs.DigestLaws.{xor_of}

pub joined_parts_more : (parts : List (Bor (List ℕ))) (i : ℕ) (d : Bor (List ℕ)) → i < length parts → joined_parts (take i parts) ++ (get_or parts i d).now ≡ joined_parts (take (i + 1) parts)
joined_parts_more parts i d below =
    flat_map_more (λ part. part.now) [] (take i parts) (get_or parts i d) ∙ ap joined_parts (sym (take_more parts i d below))

pub xor_more : (parts : List (Bor (List ℕ))) (i : ℕ) (d : Bor (List ℕ)) → i < length parts
    → fold bit_xor (xor_of (joined_parts (take i parts))) (get_or parts i d).now ≡ xor_of (joined_parts (take (i + 1) parts))
xor_more parts i d below =
    sym (fold-append bit_xor 0 (joined_parts (take i parts)) (get_or parts i d).now) ∙ ap xor_of (joined_parts_more parts i d below)
