-- No place stands twice among a list's inputs.
use Rattle.std.proofs.Common.{◌≡◌, ℕ, suc, zero, pred, Bool, true, false, cond, nat_lt, ◌-◌, ◌≤◌, List, [], ◌∷◌, ◌++◌, inl, inr, refl, ap, sym, ◌∙◌, subst, ⊎_elim, arith, length, map, flat_map}
use Rattle.std.proofs.lemmas.Bool.{true≢false}
use Rattle.merkle_root_theory.specs.Expression.{Place, Join, PrefixFold, SuffixFold, Input, is_node}
use Rattle.merkle_root_theory.specs.Collision.{Member}
use Rattle.merkle_base.specs.Tree.{Tree, leaf, join}
use Rattle.merkle_base.specs.declared.family.Bagging.{Bagging}
use Rattle.merkle_base.specs.declared.family.Bagging.TheVariants.{ForwardFold, BackwardFold}
use Rattle.merkle_claim_theory.specs.Order.{down, up, fold_places, node_places, Distinct, PlacesOnce}
use Rattle.merkle_claim_theory.proofs.PlaceOrder.{places_in_order}
use Rattle.merkle_claim_theory.proofs.HonestClaims.{member_split}

pub member_map : {A B : Type 0} (f : A → B) (xs : List A) (x : A) → Member xs x → Member (map f xs) (f x)
member_map f [] x m = elim m [ ]
member_map f (y ∷ xs) x (inl e) = inl (ap f e)
member_map f (y ∷ xs) x (inr m) = inr (member_map f xs x m)

distinct_map : {A B : Type 0} (f : A → B) (xs : List A) → Distinct (map f xs) → (x y : A) → Member xs x → Member xs y → f x ≡ f y → x ≡ y
distinct_map f [] d x y m n e = elim m [ ]
distinct_map f (z ∷ xs) d x y (inl p) (inl q) e = sym p ∙ q
distinct_map f (z ∷ xs) d x y (inl p) (inr n) e = absurd (d.0 (subst (λ v. Member (map f xs) v) (sym (ap f p ∙ e)) (member_map f xs y n)))
distinct_map f (z ∷ xs) d x y (inr m) (inl q) e = absurd (d.0 (subst (λ v. Member (map f xs) v) (e ∙ sym (ap f q)) (member_map f xs x m)))
distinct_map f (z ∷ xs) d x y (inr m) (inr n) e = distinct_map f xs d.1 x y m n e

pub distinct_append : {A : Type 0} (xs ys : List A) → Distinct xs → Distinct ys → ((x : A) → Member xs x → Member ys x → ⊥) → Distinct (xs ++ ys)
distinct_append [] ys d e f = e
distinct_append (x ∷ xs) ys d e f = ((λ m. ⊎_elim (λ w. d.0 w) (λ w. f x (inl refl) w) (member_split xs ys x m)), distinct_append xs ys d.1 e (λ z m n. f z (inr m) n))

-- the number of a prefix fold, and of a suffix fold
prefix_number : Place → ℕ
prefix_number (PrefixFold i) = i
prefix_number _ = 0

suffix_number : Place → ℕ
suffix_number (SuffixFold i) = i
suffix_number _ = 0

data Kind : Type 0 where
  folded suffixed other : Kind

kind : Place → Kind
kind (PrefixFold i) = folded
kind (SuffixFold i) = suffixed
kind _ = other

in_down : (n : ℕ) (p : Place) → Member (down n) p → (kind p ≡ folded) × (prefix_number p ≤ n)
unfolding kind prefix_number
in_down zero p m = elim m [ ]
in_down (suc n) p (inl e) = (sym (ap kind e), omega (arith, ap prefix_number e))
in_down (suc n) p (inr m) = let w = in_down n p m in (w.0, omega (arith, w.1))

in_up : (i n : ℕ) (p : Place) → Member (up i n) p → (kind p ≡ suffixed) × (i ≤ suffix_number p)
unfolding kind suffix_number
in_up i zero p m = elim m [ ]
in_up i (suc n) p (inl e) = (sym (ap kind e), omega (arith, ap suffix_number e))
in_up i (suc n) p (inr m) = let w = in_up (suc i) n p m in (w.0, omega (arith, w.1))

distinct_down : (n : ℕ) → Distinct (down n)
unfolding prefix_number
distinct_down zero = tt
distinct_down (suc n) = ((λ m. let w = in_down n (PrefixFold (suc n)) m in absurd (omega (arith, w.1))), distinct_down n)

distinct_up : (i n : ℕ) → Distinct (up i n)
unfolding suffix_number
distinct_up i zero = tt
distinct_up i (suc n) = ((λ m. let w = in_up (suc i) n (SuffixFold i) m in absurd (omega (arith, w.1))), distinct_up (suc i) n)

folded≢suffixed : folded ≡ suffixed → ⊥
folded≢suffixed e = cc

other≢folded : other ≡ folded → ⊥
other≢folded e = cc

other≢suffixed : other ≡ suffixed → ⊥
other≢suffixed e = cc

distinct_joined : (a i n : ℕ) → Distinct (Join ∷ (down a ++ up i n))
unfolding kind
distinct_joined a i n = (
  (λ m. ⊎_elim (λ w. other≢folded (in_down a Join w).0) (λ w. other≢suffixed (in_up i n Join w).0) (member_split (down a) (up i n) Join m)),
  distinct_append (down a) (up i n) (distinct_down a) (distinct_up i n) (λ p m w. folded≢suffixed (sym (in_down a p m).0 ∙ (in_up i n p w).0)),
)

pub distinct_folds : (bagging : Bagging) (k m : ℕ) → Distinct (fold_places bagging k m)
distinct_folds ForwardFold k m = distinct_down (pred m)
distinct_folds BackwardFold k m = at_test (nat_lt (suc (pred k)) m)
  where
    at_test : (b : Bool) → Distinct (cond b (Join ∷ (down (pred k) ++ up (suc (pred k)) (pred (m - suc (pred k))))) (down (pred m)))
    at_test true = distinct_joined (pred k) (suc (pred k)) (pred (m - suc (pred k)))
    at_test false = distinct_down (pred m)

down_no_node : (n : ℕ) (p : Place) → Member (down n) p → is_node p ≡ false
down_no_node zero p m = elim m [ ]
down_no_node (suc n) p (inl e) = sym (ap is_node e)
down_no_node (suc n) p (inr m) = down_no_node n p m

up_no_node : (i n : ℕ) (p : Place) → Member (up i n) p → is_node p ≡ false
up_no_node i zero p m = elim m [ ]
up_no_node i (suc n) p (inl e) = sym (ap is_node e)
up_no_node i (suc n) p (inr m) = up_no_node (suc i) n p m

pub folds_no_node : (bagging : Bagging) (k m : ℕ) (p : Place) → Member (fold_places bagging k m) p → is_node p ≡ false
folds_no_node ForwardFold k m p w = down_no_node (pred m) p w
folds_no_node BackwardFold k m p w = at_test (nat_lt (suc (pred k)) m) w
  where
    at_test : (b : Bool) → Member (cond b (Join ∷ (down (pred k) ++ up (suc (pred k)) (pred (m - suc (pred k))))) (down (pred m))) p → is_node p ≡ false
    at_test true (inl e) = sym (ap is_node e)
    at_test true (inr w) = ⊎_elim (λ v. down_no_node (pred k) p v) (λ v. up_no_node (suc (pred k)) (pred (m - suc (pred k))) p v) (member_split (down (pred k)) _ p w)
    at_test false w = down_no_node (pred m) p w

all_nodes : (t : Tree) (p : Place) → Member (node_places t) p → is_node p ≡ true
all_nodes (leaf q i) p m = elim m [ ]
all_nodes (join q l r) p (inl e) = sym (ap is_node e)
all_nodes (join q l r) p (inr m) = ⊎_elim (λ w. all_nodes l p w) (λ w. all_nodes r p w) (member_split (node_places l) _ p m)

pub all_nodes_in : (ts : List Tree) (p : Place) → Member (flat_map node_places ts) p → is_node p ≡ true
all_nodes_in [] p m = elim m [ ]
all_nodes_in (t ∷ ts) p m = ⊎_elim (λ w. all_nodes t p w) (λ w. all_nodes_in ts p w) (member_split (node_places t) _ p m)

pub places_once : {D : Type 0} → PlacesOnce D
places_once h X bagging k t ts d x y m n e = distinct_map (λ (i : Input _). i.place) _
    (subst (λ z. Distinct z) (sym (places_in_order h X bagging k t ts))
    (distinct_append (fold_places bagging k (suc (length ts))) (flat_map node_places (t ∷ ts)) (distinct_folds bagging k (suc (length ts))) d
    (λ p u v. true≢false (sym (all_nodes_in (t ∷ ts) p v) ∙ folds_no_node bagging k (suc (length ts)) p u)))) x y m n e
