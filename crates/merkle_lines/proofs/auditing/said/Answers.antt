use Rattle.std.proofs.Common.{◌≡◌, Bool, Ok, Decides, refl, sym, ap, subst, ◌∙◌, inl, inr}
use Rattle.merkle_base.specs.Root.{list_root}
use Rattle.merkle_root_theory.specs.Check.{range_inputs}
use Rattle.merkle_root_theory.specs.Range.{IsHonestRange, list_inputs}
use Rattle.merkle_root_theory.specs.Reconstruction.{reconstructed}
use Rattle.merkle_walks.specs.Places.{collision_of}
use Rattle.merkle_audit_parts.specs.Found.{IsVerdict}
use Rattle.merkle_lines.specs.Answers.{collision_line}
use Rattle.merkle_lines.proofs.Audits.{says_collision, says_honest, says_rejected}
use Rattle.merkle_lines.proofs.auditing.said.Goals as goal

pub returns-in-Rejected : goal.returns-in-Rejected
returns-in-Rejected g c = λ s X k r over told. inl (says_rejected s X k r _ _ told c.in-Rejected.is refl)

pub returns-in-Honest : goal.returns-in-Honest
returns-in-Honest g c = λ s X k r over told. inl (says_honest s X k r _ _ told c.in-Honest.is refl)

pub returns-in-Collision : goal.returns-in-Collision
returns-in-Collision g c = λ s X k r over told.
    let p = c.in-Collision.place in
    let a = c.in-Collision.claimed in
    let b = c.in-Collision.listed in
    let decides = subst (λ (same : g.row.D.Denot → g.row.D.Denot → Bool). (x y : g.row.D.Denot) → Decides (same x y) (x ≡ y)) (sym over.same) g.met.D.Digest.eq_decides in
    elim c.collision.ensures [
      | inl is ↦
          inl (says_collision s decides X k r _ p a b
          (subst (λ v. IsVerdict (reconstructed s r ≡ Ok (list_root s X k)) (IsHonestRange s X k r) s.hashing (range_inputs s r) (list_inputs s X k) v) c.in-Collision.is told)
          (is ∙ ap (λ bytes. collision_line bytes (collision_of p a b)) (sym over.bytes)))
      | inr memory ↦ inr memory
    ]
