-- A proof is built only if each node that it reads is there.
use Rattle.std.proofs.Common.{◌≡◌, ℕ, true, List, [], ◌∷◌, ◌++◌, map, Option, Some, None, is_some, fold, refl, ap, sym, ◌∙◌, subst}
use Rattle.std.specs.List.{AllByRecursion}
use Rattle.std.specs.Option.{option_map_or, option_to_list}
use Rattle.std.proofs.lemmas.Bool.{false≢true}
use Rattle.merkle_base.specs.Tree.{Tree, position}
use Rattle.merkle_base.specs.Places.{peaks_of, wholly_before}
use Rattle.merkle_base.specs.Root.{folded, right_fold}
use Rattle.merkle_base.specs.Scheme.{Scheme}
use Rattle.merkle_base.specs.declared.family.Bagging.TheVariants.{ForwardFold}
use Rattle.merkle_base.proofs.Nodes.{all_append}
use Rattle.merkle_root_theory.specs.Outside.{folded_prefix, single_before, single_after, folded_suffix}
use Rattle.merkle_root_theory.specs.Range.{wholly_after, range_siblings, range_laid_out}
use Rattle.merkle_root_theory.specs.Reads.{both_read, nodes_read, reading_order}
use Rattle.merkle_root_theory.proofs.BuiltLayouts.{folded_prefix_rest, single_after_rest}
use Rattle.merkle_proof.specs.RangePlans.{LeafRange, IsBuiltProof, IsFirstMissing}
use Rattle.merkle_proof.specs.declared.proof.Proof.{Proof}
use Rattle.merkle_proof.proofs.ReadingOrder.{all_parts, all_reading_order, met_count}

-- something is there
abbrev IsThere : {D : Type 0} → Option D → Type 0
IsThere o = is_some o ≡ true

some_there : {D : Type 0} (ds : List D) → AllByRecursion IsThere (map Some ds)
some_there [] = tt
some_there (d ∷ ds) = (refl, some_there ds)

-- ---- what two, or some, are folded to is there only if each of them is
module _ {D : Type 0} (f : D → D → D) where
  both_there : (x y : Option D) → IsThere (both_read f x y) → IsThere x × IsThere y
  both_there None y e = absurd (false≢true e)
  both_there (Some a) None e = absurd (false≢true e)
  both_there (Some a) (Some b) e = (refl, refl)

  fold_there : (x : Option D) (xs : List (Option D)) → IsThere (fold (both_read f) x xs) → IsThere x × AllByRecursion IsThere xs
  fold_there x [] e = (e, tt)
  fold_there x (y ∷ ys) e =
      let w = fold_there (both_read f x y) ys e in
      let v = both_there x y w.0 in
      (v.0, (v.1, w.1))

  prefix_there : (xs : List (Option D)) → AllByRecursion IsThere (option_to_list (folded (both_read f) ForwardFold 0 xs)) → AllByRecursion IsThere xs
  prefix_there [] w = tt
  prefix_there (x ∷ xs) w = fold_there x xs w.0

  no_bag : (xs : List (Option D)) → right_fold (both_read f) xs ≡ None → xs ≡ []
  no_bag [] e = refl
  no_bag (x ∷ xs) e = absurd (some (right_fold (both_read f) xs) e)
    where
      some : (o : Option (Option D)) → option_map_or (λ b. Some (both_read f x b)) o (Some x) ≡ None → ⊥
      some None e = cc
      some (Some b) e = cc

  bag_there : (x : Option D) (xs : List (Option D)) (o : Option (Option D)) → (o ≡ None → xs ≡ []) → (AllByRecursion IsThere (option_to_list o) → AllByRecursion IsThere xs)
      → AllByRecursion IsThere (option_to_list (option_map_or (λ b. Some (both_read f x b)) o (Some x))) → AllByRecursion IsThere (x ∷ xs)
  bag_there x xs None none rest w = (w.0, subst (AllByRecursion IsThere) (sym (none refl)) tt)
  bag_there x xs (Some b) none rest w = let v = both_there x b w.0 in (v.0, rest (v.1, tt))

  suffix_there : (xs : List (Option D)) → AllByRecursion IsThere (option_to_list (right_fold (both_read f) xs)) → AllByRecursion IsThere xs
  suffix_there [] w = tt
  suffix_there (x ∷ xs) w = bag_there x xs (right_fold (both_read f) xs) (no_bag xs) (suffix_there xs) w

-- ---- the nodes of a built proof
module _ {D : Type 0} (s : Scheme D) (node : ℕ → Option D) where
  abbrev IsHeld : Tree → Type 0
  IsHeld t = IsThere (node (position t))

  all_at : (ts : List Tree) → AllByRecursion IsThere (map (λ t. node (position t)) ts) → AllByRecursion IsHeld ts
  all_at [] w = tt
  all_at (t ∷ ts) w = (w.0, all_at ts w.1)

  at_positions : (ts : List Tree) → AllByRecursion IsHeld ts → AllByRecursion (λ p. IsThere (node p)) (map position ts)
  at_positions [] w = tt
  at_positions (t ∷ ts) w = (w.0, at_positions ts w.1)

  laid_out_held : (n k a b : ℕ) (ds : List D) → map Some ds ≡ range_laid_out s (both_read s.hashing.fold) (λ t. node (position t)) n k a b
      → AllByRecursion IsHeld (nodes_read s.rule n a b)
  laid_out_held n k a b ds laid =
      let at : Tree → Option D = λ t. node (position t) in
      let f = both_read s.hashing.fold in
      let before = wholly_before a (peaks_of s.rule n) in let after = wholly_after b (peaks_of s.rule n) in let inside = range_siblings a b (peaks_of s.rule n) in
      let met = met_count s.rule n a b in
      let prefix = folded_prefix s.bagging k before in let olds = single_before s.bagging k before in
      let news = single_after s.bagging k met after in let suffix = folded_suffix s.bagging k met after in
      let first = option_to_list (folded f ForwardFold 0 (map at prefix)) in let last = option_to_list (right_fold f (map at suffix)) in
      let all : AllByRecursion IsThere (first ++ (map at (olds ++ news) ++ (last ++ map at inside))) = subst (AllByRecursion IsThere) laid (some_there ds) in
      let one = all_parts IsThere first (map at (olds ++ news) ++ (last ++ map at inside)) all in
      let two = all_parts IsThere (map at (olds ++ news)) (last ++ map at inside) one.1 in
      let three = all_parts IsThere last (map at inside) two.1 in
      let singles = all_parts IsHeld olds news (all_at (olds ++ news) two.0) in
      let old = subst (AllByRecursion IsHeld) (folded_prefix_rest s.bagging k before) (all_append IsHeld prefix olds (all_at prefix (prefix_there s.hashing.fold (map at prefix) one.0)) singles.0) in
      let new = subst (AllByRecursion IsHeld) (single_after_rest s.bagging k met after)
      (all_append IsHeld news suffix singles.1 (all_at suffix (suffix_there s.hashing.fold (map at suffix) three.0))) in
      all_append IsHeld before (after ++ inside) old (all_append IsHeld after inside new (all_at inside three.1))

  pub built_reads_all : {F Peaks Heights : Type 0} (k : ℕ) (r : LeafRange) (p : Proof F D Peaks Heights) → IsBuiltProof s node k r p
      → (q : ℕ) → IsFirstMissing (λ i o. o ≡ node i) (map position (reading_order s.bagging k s.rule r.leaves r.start r.end)) q → ⊥
  built_reads_all k r p built q gap =
      let held = all_reading_order IsHeld s.bagging k s.rule r.leaves r.start r.end (laid_out_held r.leaves k r.start r.end p.digests.items built.digests) in
      let order = subst (AllByRecursion (λ i. IsThere (node i))) gap.split (at_positions (reading_order s.bagging k s.rule r.leaves r.start r.end) held) in
      false≢true (ap is_some gap.missing ∙ (all_parts (λ i. IsThere (node i)) gap.before (q ∷ gap.after) order).1.0)
