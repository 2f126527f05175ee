-- What a hasher's functions keep, from the laws of its digests.
use Rattle.std.proofs.Common.{◌≡◌, ◌↔◌, ℕ, List, Bool, IsTrue, Decides, Option, sym, ap, subst}
use Rattle.merkle_base.specs.Hashing.{Hashing, IsOver, EqDecides}
use Rattle.merkle_restore.specs.HeldParents.{is_other}

module _ {D : Type 0} (h : Hashing D) (spelled : D → List ℕ) (equal : D → D → Bool) (none : D) (over : IsOver h spelled equal none) where
  pub decides : ((x y : D) → IsTrue (equal x y) ↔ (x ≡ y)) → EqDecides h
  decides laws a b = subst (λ (f : D → D → Bool). Decides (f a b) (a ≡ b)) (sym over.same) (laws a b)

  pub same_test : (o : Option D) (d : D) → is_other equal o d ≡ is_other h.same o d
  same_test o d = ap (λ f. is_other f o d) (sym over.same)
