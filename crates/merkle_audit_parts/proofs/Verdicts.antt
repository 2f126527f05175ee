-- What audits say, by what their search finds.
use Rattle.std.proofs.Common.{◌≡◌, ◌≢◌, ◌↔◌, ℕ, ◌≤◌, Bool, true, false, List, length, Option, Some, None, IfSome, IfNone, Result, Ok, Err, IfOk, Decides, refl, sym, ◌∙◌, subst}
use Rattle.std.proofs.lemmas.Bool.{false≢true}
use Rattle.std.specs.Cmp.Lexicographic.{pointwise, pointwise_decides}
use Rattle.merkle_base.specs.Hashing.{Hashing, EqDecides}
use Rattle.merkle_base.specs.Places.{peaks_of}
use Rattle.merkle_base.specs.Root.{list_root}
use Rattle.merkle_base.specs.Scheme.{Scheme}
use Rattle.merkle_root_theory.specs.Check.{RangeInput, range_inputs, SharesLeaves}
use Rattle.merkle_root_theory.specs.Collision.{Collision}
use Rattle.merkle_root_theory.specs.Expression.{Node, Input}
use Rattle.merkle_root_theory.specs.Range.{IsHonestRange, IsLawfulScheme, list_inputs}
use Rattle.merkle_root_theory.specs.Reconstruction.{reconstructed}
use Rattle.merkle_claim_theory.specs.FirstCollision.{first_collision, IsFirstCollision}
use Rattle.merkle_claim_theory.specs.Multiproof.{MultiInput, AcceptsMulti, IsHonestMulti}
use Rattle.merkle_claim_theory.specs.Verdict.{multi_inputs}
use Rattle.merkle_audit_theory.specs.Located.{node_inputs}
use Rattle.merkle_audit_theory.specs.Outcomes.{outcome_of, IsOutcome, IsPairOutcome}
use Rattle.merkle_audit_theory.proofs.Audited.{audits_ranges, audits_multis, audits_pairs, audits_lists, lists_collide_at_nodes}
use Rattle.merkle_audit_parts.specs.declared.verdict.Verdict.{Verdict}
use Rattle.merkle_audit_parts.specs.declared.verdict.Verdict.TheVariants as verdict
use Rattle.merkle_audit_parts.specs.declared.verdict.ApplyVerdict.{ApplyVerdict}
use Rattle.merkle_audit_parts.specs.declared.verdict.ApplyVerdict.TheVariants as applied
use Rattle.merkle_audit_parts.specs.declared.verdict.PairVerdict.{PairVerdict}
use Rattle.merkle_audit_parts.specs.declared.verdict.PairVerdict.TheVariants as paired
use Rattle.merkle_audit_parts.specs.Found.{HaveSamePeaks, collision_in, collision_of_lists, collision_of_pair, IsVerdict, IsApplyVerdict, IsPairVerdict}

-- two facts of one result
pub if_both : {A E : Type 0} (r : Result A E) (P Q R : A → Type 0) → ((a : A) → P a → Q a → R a) → IfOk r P → IfOk r Q → IfOk r R
if_both (Ok a) P Q R f p q = f a p q
if_both (Err e) P Q R f p q = tt

-- whether two lists are one, by a test of two that are equal to these
pub alike : {D : Type 0} (same : D → D → Bool) → ((x y : D) → Decides (same x y) (x ≡ y)) → (r : Bool) (ps qs xs zs : List D) → r ≡ pointwise same ps qs → ps ≡ xs → qs ≡ zs → Decides r (zs ≡ xs)
alike same decides r ps qs xs zs e a b = (
  λ t. sym b ∙ sym ((pointwise_decides decides ps qs).0 (sym e ∙ t)) ∙ a,
  λ z. e ∙ (pointwise_decides decides ps qs).1 (a ∙ sym z ∙ sym b),
)

-- the value of a result
pub one_ok : {A E : Type 0} (a b : A) → ◌≡◌ {A = Result A E} (Ok a) (Ok b) → a ≡ b
one_ok a b e = cc

-- of an answer that is there, and of one that is not
pub at_some : {A : Type 0} (o : Option A) (P : A → Type 0) (a : A) → o ≡ Some a → IfSome o P → P a
at_some o P a e w = subst (λ x. IfSome x P) e w

pub at_none : {A : Type 0} (o : Option A) (P : Type 0) → o ≡ None → IfNone o P → P
at_none o P e w = subst (λ x. IfNone x P) e w

some_none : {A : Type 0} (c : A) → Some c ≡ None → ⊥
some_none c e = cc

rejected≢honest : {F D : Type 0} → ◌≡◌ {A = Verdict F D} verdict.Rejected verdict.Honest → ⊥
rejected≢honest e = cc

-- an input (A: it is accepted, P: it is honest) that is rejected, and one of which a search said what it found
module _ {F D : Type 0} (A P : Type 0) (h : Hashing D) (xs ys : List (Input D)) (v : Verdict F D) where
  pub no_verdict : v ≡ verdict.Rejected → (A → ⊥) × (P → ⊥) → IsVerdict A P h xs ys v
  no_verdict e neither = record {
    rejected = ((λ _. neither.0), (λ _. e));
    honest = ((λ q. absurd (rejected≢honest (sym e ∙ q))), (λ p. absurd (neither.1 p)));
    collision = subst (λ w. IfSome (collision_in w) (λ c. IsFirstCollision h xs ys c)) (sym e) tt;
  }

  pub found_verdict : (o : Option (Collision D)) → IsOutcome A P h xs ys (outcome_of true o) → v ≢ verdict.Rejected → (v ≡ verdict.Honest) ↔ (o ≡ None) → collision_in v ≡ o → IsVerdict A P h xs ys v
  found_verdict None w n honest e = record {
    rejected = ((λ r. absurd (n r)), (λ f. absurd (f w.0)));
    honest = ((λ _. w.1), (λ _. honest.1 refl));
    collision = subst (λ o. IfSome o (λ c. IsFirstCollision h xs ys c)) (sym e) tt;
  }
  found_verdict (Some c) w n honest e = record {
    rejected = ((λ r. absurd (n r)), (λ f. absurd (f w.0)));
    honest = ((λ q. absurd (some_none c (honest.0 q))), (λ p. absurd (w.1 p)));
    collision = subst (λ o. IfSome o (λ c. IsFirstCollision h xs ys c)) (sym e) w.2;
  }

-- ---- a range input against a list
module _ {D : Type 0} (s : Scheme D) (size max_nodes : ℕ) (sound : IsLawfulScheme s size max_nodes) (X : List D) (k : ℕ)
    (few : length X ≤ s.max_leaves) (low : k ≤ length (peaks_of s.rule (length X))) (r : RangeInput D) where
  abbrev Leads : Type 0
  Leads = reconstructed s r ≡ Ok (list_root s X k)

  pub range_no : (Leads → ⊥) → (Leads → ⊥) × (IsHonestRange s X k r → ⊥)
  range_no n = audits_ranges s size max_nodes sound X k few low r false ((λ f. absurd (false≢true f)), (λ a. absurd (n a)))

  pub range_yes : Leads → (o : Option (Collision D)) → o ≡ first_collision s.hashing (range_inputs s r) (list_inputs s X k)
      → IsOutcome (reconstructed s r ≡ Ok (list_root s X k)) (IsHonestRange s X k r) s.hashing (range_inputs s r) (list_inputs s X k) (outcome_of true o)
  range_yes a o e = subst (λ z. IsOutcome Leads (IsHonestRange s X k r) s.hashing (range_inputs s r) (list_inputs s X k) (outcome_of true z)) (sym e)
      (audits_ranges s size max_nodes sound X k few low r true ((λ _. a), (λ _. refl)))

-- ---- scattered leaves against a list
module _ {D : Type 0} (s : Scheme D) (size max_nodes : ℕ) (sound : IsLawfulScheme s size max_nodes) (X : List D) (k : ℕ)
    (few : length X ≤ s.max_leaves) (low : k ≤ length (peaks_of s.rule (length X))) (r : MultiInput D) where
  abbrev Accepted : Type 0
  Accepted = AcceptsMulti s r (list_root s X k)

  pub multi_no : (Accepted → ⊥) → (Accepted → ⊥) × (IsHonestMulti s X k r → ⊥)
  multi_no n = audits_multis s size max_nodes sound X k few low r false ((λ f. absurd (false≢true f)), (λ a. absurd (n a)))

  pub multi_yes : Accepted → (o : Option (Collision D)) → o ≡ first_collision s.hashing (multi_inputs s r) (list_inputs s X k)
      → IsOutcome (AcceptsMulti s r (list_root s X k)) (IsHonestMulti s X k r) s.hashing (multi_inputs s r) (list_inputs s X k) (outcome_of true o)
  multi_yes a o e = subst (λ z. IsOutcome Accepted (IsHonestMulti s X k r) s.hashing (multi_inputs s r) (list_inputs s X k) (outcome_of true z)) (sym e)
      (audits_multis s size max_nodes sound X k few low r true ((λ _. a), (λ _. refl)))

-- ---- two lists
refused≢same : {F D : Type 0} → ◌≡◌ {A = ApplyVerdict F D} applied.Refused applied.Same → ⊥
refused≢same e = cc

module _ {F D : Type 0} (h : Hashing D) (laws : EqDecides h) (rule : List ℕ → List ℕ) (X Z : List D) (v : ApplyVerdict F D) where
  abbrev first : Collision D → Type 0
  first c = IsFirstCollision h (node_inputs h rule X) (node_inputs h rule Z) c

  pub no_lists : v ≡ applied.Refused → (HaveSamePeaks h rule X Z → ⊥) → IsApplyVerdict h rule X Z v
  no_lists e n = record {
    refused = ((λ _. n), (λ _. e));
    same = ((λ q. absurd (refused≢same (sym e ∙ q))), (λ q. absurd (n (subst (HaveSamePeaks h rule X) q (refl, refl)))));
    collision = subst (λ w. IfSome (collision_of_lists w) first) (sym e) tt;
    node = subst (λ w. IfSome (collision_of_lists w) (λ c. (p : ℕ) × (c.place ≡ Node p))) (sym e) tt;
  }

  -- at a node
  at_node : (o : Option (Collision D)) → IfSome o first → IfSome o (λ c. (p : ℕ) × (c.place ≡ Node p))
  at_node None w = tt
  at_node (Some c) w = lists_collide_at_nodes h rule X Z c w.collides

  found : HaveSamePeaks h rule X Z → (o : Option (Collision D)) → IsOutcome (HaveSamePeaks h rule X Z) (X ≡ Z) h (node_inputs h rule X) (node_inputs h rule Z) (outcome_of true o)
      → v ≢ applied.Refused → (v ≡ applied.Same) ↔ (o ≡ None) → collision_of_lists v ≡ o → IsApplyVerdict h rule X Z v
  found a None w n same e = record {
    refused = ((λ r. absurd (n r)), (λ f. absurd (f a)));
    same = ((λ _. w.1), (λ _. same.1 refl));
    collision = subst (λ o. IfSome o first) (sym e) tt;
    node = subst (λ o. IfSome o (λ c. (p : ℕ) × (c.place ≡ Node p))) (sym e) tt;
  }
  found a (Some c) w n same e = record {
    refused = ((λ r. absurd (n r)), (λ f. absurd (f a)));
    same = ((λ q. absurd (some_none c (same.0 q))), (λ p. absurd (w.1 p)));
    collision = subst (λ o. IfSome o first) (sym e) w.2;
    node = subst (λ o. IfSome o (λ c. (p : ℕ) × (c.place ≡ Node p))) (sym e) (at_node (Some c) w.2);
  }

  pub found_lists : HaveSamePeaks h rule X Z → (o : Option (Collision D)) → o ≡ first_collision h (node_inputs h rule X) (node_inputs h rule Z)
      → v ≢ applied.Refused → (v ≡ applied.Same) ↔ (o ≡ None) → collision_of_lists v ≡ o → IsApplyVerdict h rule X Z v
  found_lists a o is = found a o
      (subst (λ z. IsOutcome (HaveSamePeaks h rule X Z) (X ≡ Z) h (node_inputs h rule X) (node_inputs h rule Z) (outcome_of true z)) (sym is)
      (audits_lists h laws rule X Z true ((λ _. a), (λ _. refl))))

-- ---- two range inputs against one root
rejected≢consistent : {F D : Type 0} → ◌≡◌ {A = PairVerdict F D} paired.Rejected paired.Consistent → ⊥
rejected≢consistent e = cc

module _ {F D : Type 0} (s : Scheme D) (root : D) (r q : RangeInput D) (v : PairVerdict F D) where
  abbrev Both : Type 0
  Both = (reconstructed s r ≡ Ok root) × (reconstructed s q ≡ Ok root)

  abbrev first_of : Collision D → Type 0
  first_of c = IsFirstCollision s.hashing (range_inputs s r) (range_inputs s q) c

  pub no_pair : v ≡ paired.Rejected → (Both → ⊥) → IsPairVerdict s root r q v
  no_pair e n = record {
    rejected = ((λ _. n), (λ _. e));
    collision = subst (λ w. IfSome (collision_of_pair w) first_of) (sym e) tt;
    clear = λ f. absurd (rejected≢consistent (sym e ∙ f));
    consistent = λ f. absurd (rejected≢consistent (sym e ∙ f));
  }

  found_of : (o : Option (Collision D)) → IsPairOutcome Both (SharesLeaves s.hashing r q) s.hashing (range_inputs s r) (range_inputs s q) (outcome_of true o)
      → v ≢ paired.Rejected → (v ≡ paired.Consistent) ↔ (o ≡ None) → collision_of_pair v ≡ o → IsPairVerdict s root r q v
  found_of None w n none e = record {
    rejected = ((λ f. absurd (n f)), (λ f. absurd (f w.0)));
    collision = subst (λ o. IfSome o first_of) (sym e) tt;
    clear = λ _. w.2;
    consistent = λ _. w.1;
  }
  found_of (Some c) w n none e = record {
    rejected = ((λ f. absurd (n f)), (λ f. absurd (f w.0)));
    collision = subst (λ o. IfSome o first_of) (sym e) w.1;
    clear = λ f. absurd (some_none c (none.0 f));
    consistent = λ f. absurd (some_none c (none.0 f));
  }

  pub found_pair : (size max_nodes : ℕ) → IsLawfulScheme s size max_nodes → Both → (o : Option (Collision D)) → o ≡ first_collision s.hashing (range_inputs s r) (range_inputs s q)
      → v ≢ paired.Rejected → (v ≡ paired.Consistent) ↔ (o ≡ None) → collision_of_pair v ≡ o → IsPairVerdict s root r q v
  found_pair size max_nodes sound a o is = found_of o
      (subst (λ y. IsPairOutcome Both (SharesLeaves s.hashing r q) s.hashing (range_inputs s r) (range_inputs s q) (outcome_of true y)) (sym is)
      (audits_pairs s size max_nodes sound root r q true ((λ _. a), (λ _. refl))))
