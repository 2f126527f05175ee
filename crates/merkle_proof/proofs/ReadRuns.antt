-- Runs of nodes that are read one after another, and their folds.
use Rattle.std.proofs.Common.{◌≡◌, ℕ, suc, ◌-◌, ◌<◌, ◌≤◌, List, [], ◌∷◌, ◌++◌, length, take, drop, get_or, reverse, append_assoc, Option, Some, None, arith, refl, ap, sym, ◌∙◌, subst}
use Rattle.std.specs.List.{AllZip}
use Rattle.std.specs.Option.{option_map_or}
use Rattle.std.proofs.Math.Seq.{drop-cons}
use Rattle.std.proofs.lemmas.List.{reverse-append, take-append-drop}
use Rattle.std.proofs.lemmas.List.Sums.{fold_push}
use Rattle.merkle_base.specs.Root.{right_fold, folded}
use Rattle.merkle_base.specs.declared.family.Bagging.TheVariants.{ForwardFold}
use Rattle.merkle_proof.specs.RangePlans.{AreAnswered, IsFirstMissing}
use Rattle.merkle_root_theory.proofs.PeakValues.{zip_push}

zip_append : {A B : Type 0} (R : A → B → Type 0) (xs us : List A) (ys vs : List B) → AllZip R xs ys → AllZip R us vs → AllZip R (xs ++ us) (ys ++ vs)
zip_append R [] us [] vs z w = w
zip_append R [] us (y ∷ ys) vs z w = absurd z
zip_append R (x ∷ xs) us [] vs z w = absurd z
zip_append R (x ∷ xs) us (y ∷ ys) vs z w = (z.0, zip_append R xs us ys vs z.1 w)

pub zip_reverse : {A B : Type 0} (R : A → B → Type 0) (xs : List A) (ys : List B) → AllZip R xs ys → AllZip R (reverse xs) (reverse ys)
zip_reverse R [] [] z = tt
zip_reverse R [] (y ∷ ys) z = absurd z
zip_reverse R (x ∷ xs) [] z = absurd z
zip_reverse R (x ∷ xs) (y ∷ ys) z =
    subst (λ w. AllZip R w (reverse (y ∷ ys))) (sym (reverse-append (x ∷ []) xs))
    (subst (λ w. AllZip R (reverse xs ++ x ∷ []) w) (sym (reverse-append (y ∷ []) ys)) (zip_push R (reverse xs) (reverse ys) x y (zip_reverse R xs ys z.1) z.0))

-- four lists, each appended to what the ones before it made
pub appended_four : {X : Type 0} (xs ys zs us one two three four : List X) → one ≡ xs → two ≡ one ++ ys → three ≡ two ++ zs → four ≡ three ++ us → four ≡ xs ++ (ys ++ (zs ++ us))
appended_four xs ys zs us one two three four p q r s =
    s ∙ ap (λ w. w ++ us) (r ∙ ap (λ w. w ++ zs) (q ∙ ap (λ w. w ++ ys) p)) ∙ append_assoc (xs ++ ys) zs us ∙ append_assoc xs ys (zs ++ us)

-- item i - 1 stands before those from i on
pub drop_back : {X : Type 0} (xs : List X) (i : ℕ) (x : X) → 0 < i → i ≤ length xs → x ≡ get_or xs (i - 1) x → drop (i - 1) xs ≡ x ∷ drop i xs
drop_back xs i x some fits is =
    let back : suc (i - 1) ≡ i = omega (arith, some) in
    drop-cons xs (i - 1) x (omega (arith, some, fits)) ∙ ap (λ y. y ∷ drop (suc (i - 1)) xs) (sym is) ∙ ap (λ j. x ∷ drop j xs) back

module _ {D : Type 0} (answered : ℕ → Option D → Type 0) where
  -- the first missing one of some positions is the first of these and more
  pub missing_before : (ps qs : List ℕ) (p : ℕ) → IsFirstMissing answered ps p → IsFirstMissing answered (ps ++ qs) p
  missing_before ps qs p m = record {
    before = m.before;
    after = m.after ++ qs;
    digests = m.digests;
    split = ap (λ z. z ++ qs) m.split ∙ append_assoc m.before (p ∷ m.after) qs;
    read = m.read;
    missing = m.missing;
  }

  -- and of these after others that are all answered
  pub missing_after : (ps qs : List ℕ) (ds : List D) (p : ℕ) → AreAnswered answered ps ds → IsFirstMissing answered qs p → IsFirstMissing answered (ps ++ qs) p
  missing_after ps qs ds p r m = record {
    before = ps ++ m.before;
    after = m.after;
    digests = ds ++ m.digests;
    split = ap (λ z. ps ++ z) m.split ∙ sym (append_assoc ps m.before (p ∷ m.after));
    read = zip_append (λ q d. answered q (Some d)) ps m.before ds m.digests r m.read;
    missing = m.missing;
  }

  -- where those after it are answered, it is the first missing one from the end
  pub missing_reversed : (ps later : List ℕ) (i p : ℕ) (ds : List D) → drop i ps ≡ p ∷ later → AreAnswered answered later ds → answered p None → IsFirstMissing answered (reverse ps) p
  missing_reversed ps later i p ds e r none = record {
    before = reverse later;
    after = reverse (take i ps);
    digests = reverse ds;
    split = ap reverse (sym (take-append-drop i ps) ∙ ap (λ z. take i ps ++ z) e) ∙ reverse-append (take i ps) (p ∷ later)
        ∙ ap (λ z. z ++ reverse (take i ps)) (reverse-append (p ∷ []) later) ∙ append_assoc (reverse later) (p ∷ []) (reverse (take i ps));
    read = zip_reverse (λ q d. answered q (Some d)) later ds r;
    missing = none;
  }

module _ {D : Type 0} (f : D → D → D) where
  pub folded_push : (ds : List D) (d : D) → folded f ForwardFold 0 (ds ++ d ∷ []) ≡ option_map_or (λ a. Some (f a d)) (folded f ForwardFold 0 ds) (Some d)
  folded_push [] d = refl
  folded_push (x ∷ xs) d = ap Some (fold_push f x xs d)

  -- there is a bag where there is something to fold
  pub right_fold_some : (ds : List D) (d : D) → right_fold f ds ≡ Some d → 0 < length ds
  right_fold_some [] d e = absurd (cc)
  right_fold_some (x ∷ xs) d e = omega arith

  pub right_fold_none : (ds : List D) → right_fold f ds ≡ None → length ds ≡ 0
  right_fold_none [] e = refl
  right_fold_none (x ∷ xs) e = some (right_fold f xs) e
    where
      some : (o : Option D) → option_map_or (λ b. Some (f x b)) o (Some x) ≡ None → suc (length xs) ≡ 0
      some None e = absurd (cc)
      some (Some b) e = absurd (cc)
