-- A leaf that is appended to a structure, from what the calls say of which a batch is made and applied.
use Rattle.std.proofs.Common.{◌≡◌, ◌↔◌, ℕ, zero, suc, ◌+◌, List, [], ◌∷◌, ◌++◌, length, length-append, take, Option, Some, None, slice_get, Bool}
use Rattle.std.proofs.Common.{IsTrue, Decides, cond, not, arith, refl, sym, ap, ◌∙◌, subst}
use Rattle.std.specs.Prelude.{Result, Ok, ◌==◌, ◌&&◌}
use Rattle.std.specs.FinMap.{empty, get, get-empty, len-empty}
use Rattle.std.specs.Option.{unwrap_or}
use Rattle.std.specs.Ordering.{nat_cmp}
use Rattle.merkle_core.specs.Applying.{IsApplied}
use Rattle.merkle_core.specs.Changes.{GoesOn}
use Rattle.merkle_core.specs.Contents.{Contents, Agrees}
use Rattle.merkle_core.specs.ForLists.{BeginsAt}
use Rattle.merkle_core.specs.Forest.{size}
use Rattle.merkle_core.specs.Hashing.{Hashing, EqDecides}
use Rattle.merkle_core.specs.History.{IsHistory, replaced}
use Rattle.merkle_core.specs.Records.{MerkleizedModel, RecordModel, records}
use Rattle.merkle_core.specs.Roots.{root_batch}
use Rattle.merkle_core.specs.Unmerkleized.{UnmerkleizedModel, forked, kept, kept_lists, pending_list, with_leaves}
use Rattle.example.specs.Appended.{ExtendsBy}

-- a value that is answered is the one that is said
pub ok_is : {T E : Type 0} (x y : T) (r : Result T E) → r ≡ Ok x → r ≡ Ok y → x ≡ y
ok_is x y r e f = let both : Ok x ≡ Ok y = sym e ∙ f in cc

-- a list without new digests is as it was
unreplaced : {D : Type 0} (rule : List ℕ → List ℕ) (m : ℕ → Option D) → ((q : ℕ) → m q ≡ None) → (n : ℕ) (X : List D) → replaced rule m n X ≡ X
unreplaced rule m none n [] = refl
unreplaced rule m none n (d ∷ ds) = (λ i. unwrap_or (none (size rule n) i) d ∷ unreplaced rule m none (suc n) ds i)

-- of a list and a longer one that is the list as long as it
first_is : {D : Type 0} (X Y L : List D) (place : ℕ) → length Y ≡ suc (length X) → slice_get (X ∷ Y ∷ []) place ≡ Some L → length X ≡ length L → X ≡ L
first_is X Y L zero longer at same = cc
first_is X Y L (suc zero) longer at same = let other : Y ≡ L = cc in absurd (omega (arith, longer, same, ap length other))
first_is X Y L (suc (suc k)) longer at same = absurd (cc)

module _ {D : Type 0} (h : Hashing D) (rule : List ℕ → List ℕ) (c : Contents D) (n : ℕ) (d : D) where
  -- a batch that begins at the structure, with one leaf
  abbrev one : UnmerkleizedModel D
  one = with_leaves (forked (root_batch rule n c)) (d ∷ [])

  none_kept : kept one ≡ []
  none_kept = ap (λ k. cond (not ((0 == 0) && (k == 0))) ((root_batch rule n c).own ∷ []) []) (len-empty nat_cmp D)

  kept_is : (X : List D) → kept_lists one (X ∷ X ∷ []) ≡ X ∷ []
  kept_is X = ap (λ (rs : List (RecordModel D)). take (suc (length rs)) (X ∷ X ∷ [])) none_kept

  pending_is : (X : List D) → pending_list rule one X ≡ X ++ d ∷ []
  pending_is X = ap (λ xs. xs ++ d ∷ []) (unreplaced rule (get (empty {X = D} {R = nat_cmp})) (get-empty nat_cmp) 0 X)

  -- it is the step to the list with the leaf
  pub extends_by : (fork draft : UnmerkleizedModel D) (b : MerkleizedModel D) → fork ≡ forked (root_batch rule n c) → BeginsAt rule c fork.parent → draft ≡ with_leaves fork (d ∷ [])
      → GoesOn h rule draft c b → ExtendsBy h rule c d b
  extends_by fork draft b is begins added goes = λ X agrees.
      let same : draft ≡ one = added ∙ ap (λ p. with_leaves p (d ∷ [])) is in
      let begun : IsHistory h rule (records (root_batch rule n c)) (X ∷ X ∷ []) = subst (λ (p : UnmerkleizedModel D). IsHistory h rule (records p.parent) (X ∷ X ∷ [])) is (begins h X agrees) in
      let gone : GoesOn h rule one c b = subst (λ p. GoesOn h rule p c b) same goes in
      subst (IsHistory h rule (records b)) (λ i. kept_is X i ++ pending_is X i ∷ [])
      (gone (X ∷ X ∷ []) begun (0, X, ap (λ ls. slice_get ls 0) (kept_is X), agrees))

-- the structure that it is applied to agrees with the list with the leaf
pub agrees_with_leaf : {D : Type 0} (h : Hashing D) (rule : List ℕ → List ℕ) (same : D → D → Bool) → EqDecides h → h.same ≡ same → (old new : Contents D) (d : D) (b : MerkleizedModel D)
    → ExtendsBy h rule old d b → IsApplied same rule b old new → (X : List D) → Agrees h rule old X → Agrees h rule new (X ++ d ∷ [])
agrees_with_leaf h rule same decides equal old new d b extends applied X agrees =
    let at = applied h X (X ∷ (X ++ d ∷ []) ∷ []) decides equal agrees (extends X agrees) in
    let longer : length (X ++ d ∷ []) ≡ suc (length X) = omega (arith, length-append X (d ∷ [])) in
    at.agrees (first_is X (X ++ d ∷ []) at.list at.place longer at.listed at.as_long)

-- a hashing's equality decides, where that of its digests does
pub decides_of : {D : Type 0} (h : Hashing D) (equal : D → D → Bool) → h.same ≡ equal → ((x y : D) → IsTrue (equal x y) ↔ (x ≡ y)) → EqDecides h
decides_of {D} h equal same decides = λ a b. subst (λ (f : D → D → Bool). Decides (f a b) (a ≡ b)) (sym same) (decides a b)
