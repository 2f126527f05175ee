-- Bytes that are cut by lengths, part by part.
use Rattle.std.proofs.Common.{◌≡◌, ℕ, ◌<◌, ◌≤◌, List, [], ◌∷◌, ◌++◌, length, map, take, drop, arith, rules, refl, sym, ap, subst, ◌∙◌, append-nil, append_assoc, length-append}
use Rattle.std.specs.List.{flat_map, IsSplitAt}
use Rattle.std.proofs.lemmas.List.{take-append-drop}
use Rattle.std.proofs.Math.Seq.{take-append_seam, drop-append_seam}
use Rattle.merkle_base.proofs.Lists.{cons_head, cons_tail}
use Rattle.merkle_verifier.specs.Inputs.{IsCut}

-- the first part is as long as the first length says, and the others are cut from the bytes after it
pub cut_first : (n : ℕ) (ns bytes : List ℕ) (parts : List (List ℕ)) → IsCut (n ∷ ns) bytes parts
    → (n ≤ length bytes) × ((front back : List ℕ) → IsSplitAt bytes n front back → (more : List (List ℕ)) × (parts ≡ front ∷ more) × IsCut ns back more)
cut_first n ns bytes [] c = absurd (search (rules, c.0))
cut_first n ns bytes (p ∷ ps) c =
    let whole : bytes ≡ p ++ flat_map (λ q. q) ps = sym c.1 in
    let long : length p ≡ n = cons_head (length p) n (map length ps) ns c.0 in
    let others : map length ps ≡ ns = cons_tail (length p) n (map length ps) ns c.0 in (
      omega (arith, long, ap length whole, length-append p (flat_map (λ q. q) ps)),
      λ front back split.
          let first : front ≡ p = split.1 ∙ ap (λ m. take m bytes) (sym long) ∙ ap (take (length p)) whole ∙ take-append_seam p (flat_map (λ q. q) ps) in
          let after : back ≡ flat_map (λ q. q) ps = split.2 ∙ ap (λ m. drop m bytes) (sym long) ∙ ap (drop (length p)) whole ∙ drop-append_seam p (flat_map (λ q. q) ps) in
          (ps, ap (λ q. q ∷ ps) (sym first), (others, sym after)),
    )

-- a part of the first length, and those that are cut from the bytes after it
pub cut_next : (n : ℕ) (ns bytes front back : List ℕ) (more : List (List ℕ)) → IsSplitAt bytes n front back → IsCut ns back more → IsCut (n ∷ ns) bytes (front ∷ more)
cut_next n ns bytes front back more split c = (
  ap (λ m. m ∷ map length more) split.3 ∙ ap (λ ms. n ∷ ms) c.0,
  ap (λ b. front ++ b) (c.1 ∙ split.2) ∙ ap (λ b. b ++ drop n bytes) split.1 ∙ take-append-drop n bytes,
)

-- some parts are cut, and the other lengths cut the rest
pub record CutSoFar (lengths bytes left rest : List ℕ) (parts : List (List ℕ)) : Type 0 where
  pub forward : (more : List (List ℕ)) → IsCut left rest more → IsCut lengths bytes (parts ++ more)
  pub back : (all : List (List ℕ)) → IsCut lengths bytes all → (more : List (List ℕ)) × (all ≡ parts ++ more) × IsCut left rest more

pub cut_begins : (lengths bytes : List ℕ) → CutSoFar lengths bytes lengths bytes []
cut_begins lengths bytes = record { forward = λ more c. c; back = λ all c. (all, refl, c) }

pub cut_goes : (lengths bytes ns rest front after : List ℕ) (n : ℕ) (parts : List (List ℕ)) → CutSoFar lengths bytes (n ∷ ns) rest parts
    → IsSplitAt rest n front after → CutSoFar lengths bytes ns after (parts ++ front ∷ [])
cut_goes lengths bytes ns rest front after n parts w split = record {
  forward = λ more c. subst (IsCut lengths bytes) (sym (append_assoc parts (front ∷ []) more)) (w.forward (front ∷ more) (cut_next n ns rest front after more split c));
  back = λ all c.
      let (one, is, cut) = w.back all c in
      let (more, begins, left) = (cut_first n ns rest one cut).1 front after split in
      (more, is ∙ ap (λ q. parts ++ q) begins ∙ sym (append_assoc parts (front ∷ []) more), left);
}

-- nothing is left
pub cut_ends : (lengths bytes : List ℕ) (parts : List (List ℕ)) → CutSoFar lengths bytes [] [] parts → IsCut lengths bytes parts
cut_ends lengths bytes parts w = subst (IsCut lengths bytes) (append-nil parts) (w.forward [] (refl, refl))

-- bytes are left and no length
pub cut_of_more : (lengths bytes rest : List ℕ) (parts : List (List ℕ)) → CutSoFar lengths bytes [] rest parts → ¬ (length rest ≡ 0) → (all : List (List ℕ)) → ¬ (IsCut lengths bytes all)
cut_of_more lengths bytes rest parts w some all c = let (more, is, left) = w.back all c in none more left
  where
    none : (more : List (List ℕ)) → ¬ (IsCut [] rest more)
    none [] e = some (ap length (sym e.1))
    none (p ∷ ps) e = search (rules, e.0)

-- the next length exceeds what is left
pub cut_of_fewer : (lengths bytes ns rest : List ℕ) (n : ℕ) (parts : List (List ℕ)) → CutSoFar lengths bytes (n ∷ ns) rest parts → length rest < n → (all : List (List ℕ)) → ¬ (IsCut lengths bytes all)
cut_of_fewer lengths bytes ns rest n parts w few all c =
    let (more, is, left) = w.back all c in
    absurd (omega (arith, few, (cut_first n ns rest more left).0))
