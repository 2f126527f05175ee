-- The digests of peaks, one peak more.
use Rattle.std.proofs.Common.{◌≡◌, ℕ, zero, suc, ◌+◌, ◌<◌, ◌≤◌, take, List, [], ◌∷◌, ◌++◌, Bool, length, drop, arith, refl, ap, ap₂, sym, ◌∙◌, subst, append_assoc, length-append, drop-drop}
use Rattle.std.proofs.lemmas.List.{length-drop}
use Rattle.std.specs.List.{flat_map, AllZip, IsSplitAt}
use Rattle.merkle_base.specs.Tree.{Tree}
use Rattle.merkle_base.specs.Hashing.{Hashing}
use Rattle.merkle_root_theory.specs.Expression.{value}
use Rattle.merkle_root_theory.specs.Plan.{siblings}
use Rattle.merkle_root_theory.specs.Claim.{tree_claim}
use Rattle.merkle_root_theory.specs.Walk.{IsWalked}
use Rattle.merkle_root_theory.specs.Walk.{peak_values}
use Rattle.merkle_root_theory.specs.Walk.{ArePeaksWalked, ArePeakDigests}
use Rattle.merkle_root_theory.proofs.Walks.{flat_push}

module _ {D : Type 0} (h : Hashing D) (c : ℕ → Bool) (X : ℕ → D) where
  values_push : (ts : List Tree) (t : Tree) (ds : List D) → peak_values h c X (ts ++ t ∷ []) ds ≡ peak_values h c X ts ds
      ++ value h (tree_claim h c X t (drop (length (flat_map (siblings c) ts)) ds)) ∷ []
  values_push [] t ds = refl
  values_push (u ∷ ts) t ds =
      ap (λ z. value h (tree_claim h c X u ds) ∷ z) (values_push ts t (drop (length (siblings c u)) ds)
      ∙ ap (λ z. peak_values h c X ts (drop (length (siblings c u)) ds) ++ value h (tree_claim h c X t z) ∷ [])
      (drop-drop (length (flat_map (siblings c) ts)) (length (siblings c u)) ds ∙ ap (λ n. drop n ds) (sym (length-append (siblings c u) (flat_map (siblings c) ts)))))

  pub walk_more : (ts us : List Tree) (t : Tree) (before out new after : List D) (d : D) (new' after' : List D) → us ≡ ts ++ t ∷ []
      → ArePeaksWalked h c X ts before out new after → IsWalked h c X t after d after' → new' ≡ new ++ d ∷ [] → ArePeaksWalked h c X us before out new' after'
  walk_more ts us t before out new after d new' after' u w v e = subst (λ z. ArePeaksWalked h c X z before out new' after') (sym u) (record {
    digests = e ∙ ap₂ (λ x y. x ++ y ∷ []) w.digests (v.digest ∙ ap (λ z. value h (tree_claim h c X t z)) w.rest)
        ∙ append_assoc out (peak_values h c X ts before) _ ∙ ap (λ z. out ++ z) (sym (values_push ts t before));
    enough = omega (
      arith,
      ap length (flat_push c ts t),
      length-append (flat_map (siblings c) ts) (siblings c t),
      ap length w.rest,
      length-drop (length (flat_map (siblings c) ts)) before,
      w.enough,
      v.enough,
    );
    rest = v.rest ∙ ap (drop (length (siblings c t))) w.rest ∙ drop-drop (length (siblings c t)) (length (flat_map (siblings c) ts)) before
        ∙ ap (λ n. drop n before) (sym (ap length (flat_push c ts t) ∙ length-append (flat_map (siblings c) ts) (siblings c t)));
  })

flat_bound : (f : Tree → List Tree) (n : ℕ) (ts : List Tree) → length (flat_map f (take n ts)) ≤ length (flat_map f ts)
flat_bound f zero ts = omega arith
flat_bound f (suc n) [] = omega arith
flat_bound f (suc n) (t ∷ ts) = omega (arith, length-append (f t) (flat_map f (take n ts)), length-append (f t) (flat_map f ts), flat_bound f n ts)

module _ {D : Type 0} (h : Hashing D) (c : ℕ → Bool) (X : ℕ → D) where
  -- too few digests for a peak are too few for all
  pub short_peaks : (ts us : List Tree) (i : ℕ) (t : Tree) (before out new after : List D) → us ≡ take i ts ++ t ∷ [] → us ≡ take (i + 1) ts → ArePeaksWalked h c X (take i ts) before out new after
      → length after < length (siblings c t) → length before < length (flat_map (siblings c) ts)
  short_peaks ts us i t before out new after u v w l =
      omega (
        arith,
        flat_bound (siblings c) (i + 1) ts,
        ap (λ z. length (flat_map (siblings c) z)) (sym v ∙ u),
        ap length (flat_push c (take i ts) t),
        length-append (flat_map (siblings c) (take i ts)) (siblings c t),
        ap length w.rest,
        length-drop (length (flat_map (siblings c) (take i ts))) before,
        w.enough,
        l,
      )

  pub all_digests : (ts : List Tree) (b a : ℕ) (given front others mid back new after all : List D) → IsSplitAt given b front others → IsSplitAt others a mid back
      → ArePeaksWalked h c X ts back front new after → length after ≡ 0 → all ≡ new ++ mid → ArePeakDigests h c X ts b a given all
  all_digests ts b a given front others mid back new after all s r w none e =
      let back_is : back ≡ drop (b + a) given = r.2 ∙ ap (drop a) s.2 ∙ drop-drop a b given in
      record {
        digests = e ∙ ap₂ (λ x y. x ++ y) w.digests r.1 ∙ append_assoc front (peak_values h c X ts back) (take a others)
            ∙ ap₂ (λ x y. x ++ (peak_values h c X ts y ++ take a others)) s.1 back_is ∙ ap (λ z. take b given ++ (peak_values h c X ts (drop (b + a) given) ++ take a z)) s.2;
        count = omega (arith, ap length w.rest, length-drop (length (flat_map (siblings c) ts)) back, w.enough, none, s.4, r.4);
      }

pub zip_push : {A B : Type 0} (R : A → B → Type 0) (xs : List A) (ys : List B) (x : A) (y : B) → AllZip R xs ys → R x y → AllZip R (xs ++ x ∷ []) (ys ++ y ∷ [])
zip_push R [] [] x y z r = (r, tt)
zip_push R [] (b ∷ ys) x y z r = absurd z
zip_push R (a ∷ xs) [] x y z r = absurd z
zip_push R (a ∷ xs) (b ∷ ys) x y z r = (z.0, zip_push R xs ys x y z.1 r)
