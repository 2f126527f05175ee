-- An honest range input has no collision.
use Rattle.std.proofs.Common.{◌≡◌, ℕ, suc, zero, pred, Bool, true, false, cond, nat_lt, ◌-◌, List, [], ◌∷◌, ◌++◌, ◌⊎◌, inl, inr, refl, ap, ap₂, sym, ◌∙◌, subst}
use Rattle.std.proofs.Common.{⊎_elim, flat_map, Option, Some, None, option_map, MatchOption, length}
use Rattle.merkle_root_theory.specs.Expression.{Place, Root, Join, Argument, Bytes, Input, Expression, value, inputs}
use Rattle.merkle_base.specs.Hashing.{Hashing}
use Rattle.merkle_root_theory.specs.Collision.{Member, Collision, Collides}
use Rattle.merkle_claim_theory.specs.FirstCollision.{first_collision, IsFirstCollision}
use Rattle.merkle_base.specs.Tree.{Tree}
use Rattle.merkle_root_theory.specs.Plan.{Plan, root_plan, plan_expression}
use Rattle.merkle_base.specs.declared.family.Bagging.{Bagging}
use Rattle.merkle_base.specs.declared.family.Bagging.TheVariants.{ForwardFold, BackwardFold}
use Rattle.merkle_root_theory.specs.Claim.{claim_of}
use Rattle.merkle_root_theory.specs.Check.{string_of, inputs_of, all_inputs, list_expression, RangeInput, chosen, leaf_given, range_expression, HasHonestDigests}
use Rattle.merkle_base.specs.Scheme.{Scheme}
use Rattle.merkle_base.specs.Places.{peaks_of}
use Rattle.merkle_base.specs.Root.{root_string}
use Rattle.merkle_claim_theory.specs.Exact.{IsMap}
use Rattle.merkle_claim_theory.specs.Order.{down, up, fold_places, node_places, Distinct}
use Rattle.merkle_claim_theory.specs.Audit.{HonestHasNoCollision}
use Rattle.merkle_root_theory.proofs.ListChecks.{honest_value, honest_leaf}
use Rattle.merkle_claim_theory.proofs.HonestClaims.{honest_inputs, member_split}
use Rattle.merkle_claim_theory.proofs.FirstCollisions.{finds_first}
use Rattle.merkle_claim_theory.proofs.PlaceOrder.{places_in_order}
use Rattle.merkle_claim_theory.proofs.PlacesOnce.{places_once, member_map, all_nodes_in}

is_root : Place → Bool
is_root Root = true
is_root _ = false

down_no_root : (n : ℕ) (p : Place) → Member (down n) p → is_root p ≡ false
unfolding is_root
down_no_root zero p m = elim m [ ]
down_no_root (suc n) p (inl e) = sym (ap is_root e)
down_no_root (suc n) p (inr m) = down_no_root n p m

up_no_root : (i n : ℕ) (p : Place) → Member (up i n) p → is_root p ≡ false
unfolding is_root
up_no_root i zero p m = elim m [ ]
up_no_root i (suc n) p (inl e) = sym (ap is_root e)
up_no_root i (suc n) p (inr m) = up_no_root (suc i) n p m

folds_no_root : (bagging : Bagging) (k m : ℕ) (p : Place) → Member (fold_places bagging k m) p → is_root p ≡ false
unfolding is_root
folds_no_root ForwardFold k m p w = down_no_root (pred m) p w
folds_no_root BackwardFold k m p w = at_test (nat_lt (suc (pred k)) m) w
  where
    at_test : (b : Bool) → Member (cond b (Join ∷ (down (pred k) ++ up (suc (pred k)) (pred (m - suc (pred k))))) (down (pred m))) p → is_root p ≡ false
    at_test true (inl e) = sym (ap is_root e)
    at_test true (inr w) = ⊎_elim (λ v. down_no_root (pred k) p v) (λ v. up_no_root (suc (pred k)) (pred (m - suc (pred k))) p v) (member_split (down (pred k)) _ p w)
    at_test false w = down_no_root (pred m) p w

pub root_no_fold : (bagging : Bagging) (k m : ℕ) → Member (fold_places bagging k m) Root → ⊥
unfolding is_root
root_no_fold bagging k m w = let e : true ≡ false = folds_no_root bagging k m Root w in cc

pub root_no_node : (ts : List Tree) → Member (flat_map node_places ts) Root → ⊥
root_no_node ts m = let e : false ≡ true = all_nodes_in ts Root m in cc

pub no_root : {D : Type 0} (h : Hashing D) (X : ℕ → D) (bagging : Bagging) (k : ℕ) (ts : List Tree) (a : Argument D)
    → Member (inputs_of h (option_map (plan_expression X) (root_plan bagging k ts))) (record { place = Root; argument = a }) → ⊥
no_root h X ForwardFold k [] a m = m
no_root h X BackwardFold k [] a m = m
no_root h X bagging k (t ∷ ts) a m =
    let w = subst (λ z. Member z Root) (places_in_order h X bagging k t ts) (member_map (λ (i : Input _). i.place) _ _ m) in
    ⊎_elim (root_no_fold bagging k (suc (length ts))) (λ v. root_no_node (t ∷ ts) v) (member_split (fold_places bagging k (suc (length ts))) _ Root w)

pub once_in : {D : Type 0} (h : Hashing D) (X : ℕ → D) (bagging : Bagging) (k : ℕ) (ts : List Tree) → Distinct (flat_map node_places ts)
    → IsMap (inputs_of h (option_map (plan_expression X) (root_plan bagging k ts)))
once_in h X ForwardFold k [] d x y m n e = elim m [ ]
once_in h X BackwardFold k [] d x y m n e = elim m [ ]
once_in h X bagging k (t ∷ ts) d x y m n e = places_once h X bagging k t ts d x y m n e

pub found_none : {D : Type 0} (h : Hashing D) (xs ys : List (Input D)) (o : Option (Collision D))
    → MatchOption o ((c : Collision D) → Collides h xs ys c → ⊥) (λ c. IsFirstCollision h xs ys c) → ((c : Collision D) → Collides h xs ys c → ⊥) → o ≡ None
found_none h xs ys None m f = refl
found_none h xs ys (Some c) m f = absurd (f c m.collides)

module _ {D : Type 0} (s : Scheme D) (X : ℕ → D) (r : RangeInput D) (same : (i : ℕ) → chosen r i ≡ true → leaf_given s.hashing r i ≡ X i) where
  claim_for : Option Plan → Option (Expression D)
  claim_for o = option_map (λ p. claim_of s.hashing (chosen r) (leaf_given s.hashing r) p r.digests) o

  inputs_in : (o : Option Plan) → HasHonestDigests s X r o → (i : Input D) → Member (inputs_of s.hashing (claim_for o)) i → Member (inputs_of s.hashing (option_map (plan_expression X) o)) i
  unfolding claim_for
  inputs_in None w i m = elim w [ ]
  inputs_in (Some p) w i m = honest_inputs s.hashing (chosen r) X (leaf_given s.hashing r) p same i
      (subst (λ ds. Member (inputs s.hashing (claim_of s.hashing (chosen r) (leaf_given s.hashing r) p ds)) i) w m)

-- a root and inputs below it against the same root string and a list's inputs
pub no_collision : {D : Type 0} (h : Hashing D) (a b : List ℕ) (xs ys : List (Input D)) → a ≡ b → ((i : Input D) → Member xs i → Member ys i)
    → IsMap ys → ((z : Argument D) → Member ys (record { place = Root; argument = z }) → ⊥)
    → (c : Collision D) → Collides h (record { place = Root; argument = Bytes a } ∷ xs) (record { place = Root; argument = Bytes b } ∷ ys) c → ⊥
no_collision {D = D} h a b xs ys e sub once none c w = at_members w.claimed w.listed
  where
    at_members : (◌≡◌ {A = Input D} (record { place = Root; argument = Bytes a }) (record { place = c.place; argument = c.claimed }) ⊎ Member xs (record { place = c.place; argument = c.claimed }))
        → (◌≡◌ {A = Input D} (record { place = Root; argument = Bytes b }) (record { place = c.place; argument = c.listed }) ⊎ Member ys (record { place = c.place; argument = c.listed })) → ⊥
    at_members (inl p) (inl q) = w.differ (sym (ap (λ (i : Input D). i.argument) p) ∙ ap Bytes e ∙ ap (λ (i : Input D). i.argument) q)
    at_members (inl p) (inr n) = none c.listed (subst (λ z. Member ys (record { place = z; argument = c.listed })) (sym (ap (λ (i : Input D). i.place) p)) n)
    at_members (inr m) (inl q) = none c.claimed (subst (λ z. Member ys (record { place = z; argument = c.claimed })) (sym (ap (λ (i : Input D). i.place) q)) (sub _ m))
    at_members (inr m) (inr n) = w.differ (ap (λ (i : Input D). i.argument) (once _ _ (sub _ m) n refl))

pub honest_has_no_collision : {D : Type 0} → HonestHasNoCollision D
unfolding claim_for
honest_has_no_collision s laws X n k once r honest =
    let same : (i : ℕ) → chosen r i ≡ true → leaf_given s.hashing r i ≡ X i = honest_leaf s X n k r honest in
    let e : root_plan s.bagging r.inactive (peaks_of s.rule r.leaves) ≡ root_plan s.bagging k (peaks_of s.rule n) =
    ap₂ (λ x y. root_plan s.bagging x (peaks_of s.rule y)) honest.inactive honest.leaves in
    let text : string_of s r.leaves r.inactive (range_expression s r) ≡ string_of s n k (list_expression s X n k) =
    ap (λ z. string_of s r.leaves r.inactive (claim_for s X r same z)) e
    ∙ ap (root_string s.hashing s.domain s.bagging r.leaves r.inactive) (honest_value s X r (root_plan s.bagging k (peaks_of s.rule n)) same honest.digests)
    ∙ ap₂ (λ x y. root_string s.hashing s.domain s.bagging x y (option_map (value s.hashing) (list_expression s X n k))) honest.leaves honest.inactive in
    let xs = all_inputs s r.leaves r.inactive (range_expression s r) in
    let ys = all_inputs s n k (list_expression s X n k) in
    found_none s.hashing xs ys (first_collision s.hashing xs ys) (finds_first s.hashing laws xs ys)
    (no_collision s.hashing _ _ (inputs_of s.hashing (range_expression s r)) (inputs_of s.hashing (list_expression s X n k)) text
    (λ i m. inputs_in s X r same (root_plan s.bagging k (peaks_of s.rule n)) honest.digests i (subst (λ z. Member (inputs_of s.hashing (claim_for s X r same z)) i) e m))
    (once_in s.hashing X s.bagging k (peaks_of s.rule n) once) (λ a m. no_root s.hashing X s.bagging k (peaks_of s.rule n) a m))
