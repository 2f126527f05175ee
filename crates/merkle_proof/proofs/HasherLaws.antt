-- The laws of what a hasher computes, from those of its digests.
use Rattle.std.proofs.Common.{◌≡◌, ◌↔◌, ℕ, ◌≤◌, List, length, IsTrue, Bool, Decides, ap, sym, ◌∙◌, subst, arith}
use Rattle.merkle_base.specs.Hashing.{Hashing, IsOver, EqDecides}
use Rattle.merkle_base.specs.Heights.{IsLawful}
use Rattle.merkle_base.specs.declared.family.Bagging.{Bagging}
use Rattle.merkle_root_theory.specs.RootString.{ByteLaws}
use Rattle.merkle_root_theory.specs.Range.{IsLawfulScheme}
use Rattle.merkle_base.specs.Scheme.{Scheme, scheme_of}

module _ {D : Type 0} (h : Hashing D) (spelled : D → List ℕ) (equal : D → D → Bool) (none : D) (over : IsOver h spelled equal none) where
  laws : ((x y : D) → IsTrue (equal x y) ↔ (x ≡ y)) → EqDecides h
  laws decides = λ a b. subst (λ (f : D → D → Bool). Decides (f a b) (a ≡ b)) (sym over.same) (decides a b)

  byte_laws : (size : ℕ) (Spells : List ℕ → Type 0) → 1 ≤ size → ((x : D) → Spells (spelled x)) → ((b : List ℕ) → Spells b → length b ≡ size)
      → ((x y : D) → spelled x ≡ spelled y → x ≡ y) → ByteLaws h size
  byte_laws size Spells some spell long decide = record {
    length = λ d. ap (λ f. length (f d)) over.bytes ∙ long (spelled d) (spell d);
    nonempty = omega (arith, some);
    differ = λ a b e. decide a b (sym (ap (λ f. f a) over.bytes) ∙ e ∙ ap (λ f. f b) over.bytes);
  }

  pub sound : (s : Scheme D) (bagging : Bagging) (rule : List ℕ → List ℕ) (max_leaves max_nodes domain size : ℕ)
      → s ≡ scheme_of h bagging rule max_leaves domain → ((x y : D) → IsTrue (equal x y) ↔ (x ≡ y)) → (Spells : List ℕ → Type 0) → 1 ≤ size
      → ((x : D) → Spells (spelled x)) → ((b : List ℕ) → Spells b → length b ≡ size) → ((x y : D) → spelled x ≡ spelled y → x ≡ y)
      → IsLawful rule max_leaves max_nodes → IsLawfulScheme s size max_nodes
  sound s bagging rule max_leaves max_nodes domain size is decides Spells some spell long decide lawful =
      rw is (record { laws = laws decides; bytes = byte_laws size Spells some spell long decide; lawful = lawful })
