-- What a store reads, by the groups of peaks.
use Rattle.std.proofs.Common.{◌≡◌, ℕ, true, cond, ◌-◌, ◌≤◌, nat_eq, List, [], ◌∷◌, ◌++◌, refl, ap, ap₂, ◌∙◌, arith, length, map, reverse, take, drop, Some}
use Rattle.std.proofs.Common.{None, slice_get, append-nil, length-append, le-leb, le-ltb}
use Rattle.std.specs.Option.{option_to_list}
use Rattle.std.specs.Cmp.Lexicographic.{pointwise}
use Rattle.std.proofs.lemmas.Bool.{and_from, eq-eqb}
use Rattle.std.proofs.lemmas.List.{map-append, length-map}
use Rattle.std.proofs.Math.Seq.{drop-append_seam, take-append_seam}
use Rattle.merkle_base.specs.Tree.{Tree, position}
use Rattle.merkle_base.specs.Hashing.{Hashing}
use Rattle.merkle_base.specs.Root as root
use Rattle.merkle_base.specs.declared.family.Bagging.TheVariants.{ForwardFold}
use Rattle.merkle_root_theory.specs.Outside.{fold_all, bag_all}
use Rattle.merkle_store_theory.specs.StoreValue.{StoreValue}
use Rattle.merkle_store_theory.specs.StoreProof.{found_at, read_nodes, prefix_part, suffix_part, suffix_front, first_lacking, prefix_refusal, ends_with, suffix_lacking, suffix_refusal, first_reaching}

-- the first of at most one
pub first_of : {D : Type 0} (xs : List D) → length xs ≤ 1 → option_to_list (slice_get xs 0) ≡ xs
first_of [] l = refl
first_of (x ∷ []) l = refl
first_of (x ∷ y ∷ xs) l = absurd (omega (arith, l))

module _ {D : Type 0} (h : Hashing D) (v : StoreValue D) where
  -- the asked prefix is the store's and further peaks
  pub prefix_is : (us ts : List Tree) (es : List D) → option_to_list v.prefix ≡ es → length es ≡ length (fold_all us)
      → prefix_part h v (length us) (us ++ ts) ≡ option_to_list (root.folded h.fold ForwardFold 0 (es ++ read_nodes h v ts))
  prefix_is [] [] [] e l = refl
  prefix_is [] [] (x ∷ es) e l = absurd (omega (arith, l))
  prefix_is [] (t ∷ ts) es e l = ap (λ z. option_to_list (root.folded h.fold ForwardFold 0 (z ++ read_nodes h v (t ∷ ts)))) e
  prefix_is (u ∷ us) ts es e l = ap₂ (λ y z. option_to_list (root.folded h.fold ForwardFold 0 (y ++ read_nodes h v z))) e (drop-append_seam (u ∷ us) ts)

  front_is : (ts us : List Tree) → v.suffix_peaks ≡ map position us → suffix_front v (ts ++ us) ≡ ts
  front_is ts us e = let n : length (ts ++ us) - length v.suffix_peaks ≡ length ts =
      omega (arith, length-append ts us, ap length e, length-map us position) in ap (λ n. take n (ts ++ us)) n ∙ take-append_seam ts us

  -- the asked suffix is further peaks and the store's
  pub suffix_is : (ts us : List Tree) (es : List D) → v.suffix_peaks ≡ map position us → option_to_list v.suffix ≡ es → length es ≡ length (bag_all 0 us)
      → suffix_part h v (ts ++ us) ≡ option_to_list (root.right_fold h.fold (read_nodes h v ts ++ es))
  suffix_is [] [] [] p e l = refl
  suffix_is [] [] (x ∷ es) p e l = absurd (omega (arith, l))
  suffix_is [] (u ∷ us) es p e l = ap₂ (λ y z. option_to_list (root.right_fold h.fold (read_nodes h v y ++ z))) (front_is [] (u ∷ us) p) e
  suffix_is (t ∷ ts) us es p e l = ap₂ (λ y z. option_to_list (root.right_fold h.fold (read_nodes h v y ++ z))) (front_is (t ∷ ts) us p) e

  -- ---- nothing is refused
  pub no_prefix_refusal : (a : ℕ) (us ts : List Tree) → prefix_refusal a us (us ++ ts) ≡ None
  no_prefix_refusal a [] [] = refl
  no_prefix_refusal a [] (t ∷ ts) = ap (λ b. cond b None None) (le-ltb (length (t ∷ ts)) 0 (omega arith))
  no_prefix_refusal a (u ∷ us) ts = ap (λ b. cond b (first_reaching a (u ∷ us)) None) (le-ltb (length (u ∷ us ++ ts)) (length (u ∷ us)) (omega (arith, length-append us ts)))

  same_all : (ps : List ℕ) → pointwise nat_eq ps ps ≡ true
  same_all [] = refl
  same_all (p ∷ ps) = and_from _ _ (eq-eqb p p refl) (same_all ps)

  ends_so : (ts us : List Tree) → ends_with (map position (ts ++ us)) (map position us) ≡ true
  ends_so ts us =
      let e : map position (ts ++ us) ≡ map position ts ++ map position us = map-append position ts us in
      let n : length (map position (ts ++ us)) - length (map position us) ≡ length (map position ts) = omega (arith, ap length e, length-append (map position ts) (map position us)) in
      and_from _ _ (le-leb (length (map position us)) (length (map position (ts ++ us))) (omega (arith, ap length e, length-append (map position ts) (map position us))))
      (ap (λ z. pointwise nat_eq z (map position us)) (ap₂ drop n e ∙ drop-append_seam (map position ts) (map position us)) ∙ same_all (map position us))

  no_lacking : (ts us : List Tree) (ps : List ℕ) → v.suffix_peaks ≡ map position us → ps ≡ map position us
      → first_lacking (found_at v.pairs) (map position (reverse ts)) ≡ None → suffix_lacking v ps (ts ++ us) ≡ None
  no_lacking ts [] [] e f w = ap (λ z. first_lacking (found_at v.pairs) (map position (reverse z))) (append-nil ts) ∙ w
  no_lacking ts [] (p ∷ ps) e f w = cc
  no_lacking ts (u ∷ us) [] e f w = cc
  no_lacking ts (u ∷ us) (p ∷ ps) e f w =
      ap (λ b. cond b (first_lacking (found_at v.pairs) (map position (reverse (suffix_front v (ts ++ u ∷ us))))) (Some p)) (ap (ends_with (map position (ts ++ u ∷ us))) f ∙ ends_so ts (u ∷ us))
      ∙ ap (λ z. first_lacking (found_at v.pairs) (map position (reverse z))) (front_is ts (u ∷ us) e) ∙ w

  pub no_suffix_refusal : (ts us : List Tree) → v.suffix_peaks ≡ map position us → first_lacking (found_at v.pairs) (map position (reverse ts)) ≡ None → suffix_refusal v (ts ++ us) ≡ None
  no_suffix_refusal [] [] e w = refl
  no_suffix_refusal [] (u ∷ us) e w = no_lacking [] (u ∷ us) v.suffix_peaks e e w
  no_suffix_refusal (t ∷ ts) us e w = no_lacking (t ∷ ts) us v.suffix_peaks e e w
