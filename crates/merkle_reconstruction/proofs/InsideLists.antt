-- Lists of nodes that have all their leaves among those whose digests are given.
use Rattle.std.proofs.Common.{◌≡◌, ℕ, zero, suc, ◌+◌, ◌<◌, ◌≤◌, Bool, true, false, cond, nat_eq, List, [], ◌∷◌, ◌++◌, length, map, drop, get_or, slice_get, ◌⊎◌}
use Rattle.std.proofs.Common.{inl, inr, Option, Some, None, arith, refl, ap, sym, ◌∙◌, subst, append_assoc, rules, Result, Ok, Err, OnOk, IfSome}
use Rattle.std.specs.Borrow.{Bor}
use Rattle.std.specs.List.{AllByRecursion}
use Rattle.std.specs.Option.{option_copied}
use Rattle.std.specs.Slice.{IsItemAt}
use Rattle.std.proofs.lemmas.Option.{slice_get_read}
use Rattle.std.proofs.Math.ListN.{drop_of_length-le}
use Rattle.std.proofs.lemmas.List.{map-append, drop_more}
use Rattle.merkle_base.specs.Forest.{forest}
use Rattle.merkle_base.specs.Hashing.{Hashing}
use Rattle.merkle_hasher.specs.declared.subtree.Subtree.{Subtree}
use Rattle.merkle_reconstruction.specs.Inside.{IsDigestAt, AreParents, AreChildDigests, AreKnown, AreListed}

module _ {X : Type 0} (P : X → Type 0) where
  pub all_more : (xs : List X) (x : X) → AllByRecursion P xs → P x → AllByRecursion P (xs ++ x ∷ [])
  all_more [] x all one = (one, tt)
  all_more (y ∷ xs) x all one = (all.0, all_more xs x all.1 one)

  pub all_pushed : (xs ys : List X) (x : X) → ys ≡ xs ++ x ∷ [] → AllByRecursion P xs → P x → AllByRecursion P ys
  all_pushed xs ys x e all one = subst (AllByRecursion P) (sym e) (all_more xs x all one)

  pub all_item : (xs : List X) → AllByRecursion P xs → (i : ℕ) → i < length xs → (x : X) → x ≡ get_or xs i x → P x
  all_item xs all i l x e = subst P (sym e) (step xs all i l x)
    where
      step : (xs : List X) → AllByRecursion P xs → (i : ℕ) → i < length xs → (d : X) → P (get_or xs i d)
      step [] all i l d = absurd (omega (arith, l))
      step (x ∷ xs) all zero l d = all.0
      step (x ∷ xs) all (suc i) l d = step xs all.1 i (omega (arith, l)) d

-- what is left of a list begins with its i-th element
left_from : {X : Type 0} (xs : List X) (i : ℕ) (x : X) → i < length xs → x ≡ get_or xs i x → drop i xs ≡ x ∷ drop (i + 1) xs
left_from xs i x l e = drop_more xs i x l ∙ ap (λ z. z ∷ drop (i + 1) xs) (sym e)

module _ {F D : Type 0} (h : Hashing D) (rule : List ℕ → List ℕ) (n : ℕ) (leaf : ℕ → D) where
  -- the nodes from the i-th on have two digests for each, of which the first two are those of the i-th node's children
  pub first_two : (ss : List (Subtree F)) (i : ℕ) (s : Subtree F) → i < length ss → s ≡ get_or ss i s → (x y : D) (ds es : List D) → es ≡ x ∷ y ∷ ds → AreChildDigests h rule n leaf (drop i ss) es
      → IsDigestAt h rule n leaf s.position (h.node s.position x y) × AreChildDigests h rule n leaf (drop (i + 1) ss) ds
  first_two ss i s l is x y ds es e w = subst (λ z. AreChildDigests h rule n leaf z (x ∷ y ∷ ds)) (left_from ss i s l is) (subst (AreChildDigests h rule n leaf (drop i ss)) e w)

  -- the digests of the i-th node's children are the next two
  pub children_more : (ss : List (Subtree F)) (i : ℕ) (s : Subtree F) → i < length ss → s ≡ get_or ss i s → (es fs : List (ℕ × D × D)) (a b : ℕ × D × D) → fs ≡ (es ++ a ∷ []) ++ b ∷ []
      → IsDigestAt h rule n leaf s.position (h.node s.position (h.node a.0 a.1 a.2) (h.node b.0 b.1 b.2))
      → ((ds : List D) → AreChildDigests h rule n leaf (drop i ss) ds → AreChildDigests h rule n leaf ss (map (λ e. h.node e.0 e.1 e.2) es ++ ds))
      → (ds : List D) → AreChildDigests h rule n leaf (drop (i + 1) ss) ds → AreChildDigests h rule n leaf ss (map (λ e. h.node e.0 e.1 e.2) fs ++ ds)
  children_more ss i s l is es fs a b e one all ds others =
      let f : ℕ × D × D → D = λ e. h.node e.0 e.1 e.2 in
      let same : map f fs ++ ds ≡ map f es ++ f a ∷ f b ∷ ds = ap (λ z. map f z ++ ds) e ∙ ap (λ z. z ++ ds) (map-append f (es ++ a ∷ []) (b ∷ []) ∙ ap (λ z. z ++ f b ∷ []) (map-append f es (a ∷ [])))
      ∙ append_assoc (map f es ++ f a ∷ []) (f b ∷ []) ds ∙ append_assoc (map f es) (f a ∷ []) (f b ∷ ds) in
      subst (AreChildDigests h rule n leaf ss) (sym same) (all (f a ∷ f b ∷ ds) (subst (λ z. AreChildDigests h rule n leaf z (f a ∷ f b ∷ ds)) (sym (left_from ss i s l is)) (one, others)))

  pub children_end : (ss : List (Subtree F)) (i : ℕ) → length ss ≤ i → AreChildDigests h rule n leaf (drop i ss) []
  children_end ss i l = subst (λ z. AreChildDigests h rule n leaf z []) (sym (drop_of_length-le ss l)) tt

module _ {D : Type 0} (h : Hashing D) (rule : List ℕ → List ℕ) (n : ℕ) (leaf : ℕ → D) where
  one_digest : (x d : D) → ◌≡◌ {A = Option D} (Some x) (Some d) → d ≡ x
  one_digest x d e = cc

  one_position : (q p : ℕ) → ◌≡◌ {A = Option ℕ} (Some q) (Some p) → q ≡ p
  one_position q p e = cc

  no_digest : (d : D) → ◌≡◌ {A = Option D} None (Some d) → ⊥
  no_digest d e = cc

  same_place : (q p : ℕ) → nat_eq q p ≡ true → q ≡ p
  same_place q p e = search rules

  listed_one : (b : Bool) (x d : D) (o : Option D) → cond b (Some x) o ≡ Some d → ((b ≡ true) × (d ≡ x)) ⊎ (o ≡ Some d)
  listed_one true x d o e = inl (refl, one_digest x d e)
  listed_one false x d o e = inr e

  -- nodes over children with these digests are known by their digests
  pub parents_known : (es : List (ℕ × D × D)) → AreParents h rule n leaf es → AreKnown h rule n leaf (map (λ e. e.0) es) (map (λ e. h.node e.0 e.1 e.2) es)
  parents_known [] all p d e t at = absurd (no_digest d e)
  parents_known (x ∷ es) all p d e t at = elim (listed_one (nat_eq x.0 p) (h.node x.0 x.1 x.2) d _ e) [
    | inl w ↦ w.1 ∙ all.0 t (ap (λ q. slice_get (forest rule n).nodes q) (same_place x.0 p w.0) ∙ at)
    | inr w ↦ parents_known es all.1 p d w t at
  ]

  pub none_known : (ps : List ℕ) (ds : List D) → ps ≡ [] → ds ≡ [] → AreKnown h rule n leaf ps ds
  none_known ps ds x y = subst (λ z. AreKnown h rule n leaf z ds) (sym x) (subst (AreKnown h rule n leaf []) (sym y) (parents_known [] tt))

  pub are_known : (es : List (ℕ × D × D)) (ps : List ℕ) (ds : List D) → AreParents h rule n leaf es → ps ≡ map (λ e. e.0) es → ds ≡ map (λ e. h.node e.0 e.1 e.2) es → AreKnown h rule n leaf ps ds
  are_known es ps ds all x y = subst (λ z. AreKnown h rule n leaf z ds) (sym x) (subst (AreKnown h rule n leaf (map (λ e. e.0) es)) (sym y) (parents_known es all))

  -- nodes over children with these digests are listed after those that are
  pub parents_listed : (ps : List ℕ) (ds : List D) (es : List (ℕ × D × D)) → AreListed h rule n leaf ps ds → AreParents h rule n leaf es
      → AreListed h rule n leaf (ps ++ map (λ e. e.0) es) (ds ++ map (λ e. h.node e.0 e.1 e.2) es)
  parents_listed [] [] [] all more = tt
  parents_listed [] [] (e ∷ es) all more = (more.0, parents_listed [] [] es tt more.1)
  parents_listed [] (d ∷ ds) es all more = absurd all
  parents_listed (p ∷ ps) [] es all more = absurd all
  parents_listed (p ∷ ps) (d ∷ ds) es all more = (all.0, parents_listed ps ds es all.1 more)

  pub are_listed : (ps qs : List ℕ) (ds xs : List D) (es : List (ℕ × D × D)) → qs ≡ ps ++ map (λ e. e.0) es → xs ≡ ds ++ map (λ e. h.node e.0 e.1 e.2) es
      → AreListed h rule n leaf ps ds → AreParents h rule n leaf es → AreListed h rule n leaf qs xs
  are_listed ps qs ds xs es u v all more = subst (λ z. AreListed h rule n leaf z xs) (sym u) (subst (AreListed h rule n leaf (ps ++ map (λ e. e.0) es)) (sym v) (parents_listed ps ds es all more))

  pub none_listed : (ps : List ℕ) (ds : List D) → ps ≡ [] → ds ≡ [] → AreListed h rule n leaf ps ds
  none_listed ps ds x y = subst (λ z. AreListed h rule n leaf z ds) (sym x) (subst (AreListed h rule n leaf []) (sym y) tt)

  -- the digest at the index of a position
  pub listed_at : (ps : List ℕ) (ds : List D) → AreListed h rule n leaf ps ds → (i p : ℕ) (d : D) → slice_get ps i ≡ Some p → slice_get ds i ≡ Some d → IsDigestAt h rule n leaf p d
  listed_at [] [] all i p d u v = absurd (no_digest d v)
  listed_at [] (x ∷ ds) all i p d u v = absurd all
  listed_at (q ∷ ps) [] all i p d u v = absurd all
  listed_at (q ∷ ps) (x ∷ ds) all zero p d u v = subst (λ z. IsDigestAt h rule n leaf z d) (one_position q p u) (subst (IsDigestAt h rule n leaf q) (sym (one_digest x d v)) all.0)
  listed_at (q ∷ ps) (x ∷ ds) all (suc i) p d u v = listed_at ps ds all.1 i p d u v

  -- what a look-up reads at an index where a position stands
  pub found_at : (ps : List ℕ) (ds : List D) → AreListed h rule n leaf ps ds → (i p : ℕ) (q : Bor ℕ) → IsItemAt ps i (Some q) → q.now ≡ p → (r : Option (Bor D)) → IsItemAt ds i r
      → (o : Option D) → o ≡ option_copied r → IfSome o (IsDigestAt h rule n leaf p)
  found_at ps ds all i p q u e None v o is = subst (λ z. IfSome z (IsDigestAt h rule n leaf p)) (sym is) tt
  found_at ps ds all i p q u e (Some x) v o is = subst (λ z. IfSome z (IsDigestAt h rule n leaf p)) (sym is)
      (listed_at ps ds all i p x.now (slice_get_read ps (length ps) i q.now refl u.3.0 u.1 ∙ ap Some e) (slice_get_read ds (length ds) i x.now refl v.3.0 v.1))

pub on_ok_both : {T E P Q R : Type 0} (r : Result T E) → (P → Q → R) → OnOk r P → OnOk r Q → OnOk r R
on_ok_both (Ok x) f p q = f p q
on_ok_both (Err e) f p q = tt
