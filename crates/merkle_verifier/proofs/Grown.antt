-- Lists that begin with the leaves behind an older root.
use Rattle.std.proofs.Common.{◌≡◌, ℕ, ◌≤◌, List, length, take, arith, rules, refl, sym, ap, ◌∙◌, inl, inr}
use Rattle.std.proofs.lemmas.List.{length-map, length-take-le}
use Rattle.merkle_claim_theory.proofs.RebuiltPins.{pins_give_old_root}
use Rattle.merkle_root_theory.specs.Check.{RangeInput}
use Rattle.merkle_claim_theory.specs.Pinned.{AcceptsPinned, IsHonestPinned, PinnedCollides}
use Rattle.merkle_base.specs.Places.{peaks_of}
use Rattle.merkle_base.specs.Scheme.{Scheme}
use Rattle.merkle_claim_theory.specs.CheckAnswers.{GivesRoot}
use Rattle.merkle_verifier.specs.Answers.{accepted, rejected, BeginsWith, Judges, JudgesGrowth}

module _ {D : Type 0} (s : Scheme D) (xs : List D) (k : ℕ) (r : RangeInput D) (pins : List D) (honest : IsHonestPinned s xs k r pins) (j : ℕ) (old : D) where
  there : r.start ≤ length xs
  there = omega (arith, honest.0.0)

  -- as many honest pins as peaks
  count : length pins ≡ length (peaks_of s.rule r.start)
  count = ap length honest.1 ∙ length-map (peaks_of s.rule (length (take r.start xs))) _ ∙ ap (λ m. length (peaks_of s.rule m)) (length-take-le r.start xs there)

  -- if the pins give the old root, the list's first leaves have it
  pub begins : GivesRoot s old r.start j pins → BeginsWith s xs r.start j old
  begins given = record {
    long = there;
    enough = omega (arith, given.enough, count);
    root_is = sym (pins_give_old_root s xs k r pins honest j) ∙ given.root_is;
  }

  -- and they give it, if the first leaves have it
  pub gives : BeginsWith s xs r.start j old → GivesRoot s old r.start j pins
  gives begin = record {
    enough = omega (arith, begin.enough, count);
    root_is = pins_give_old_root s xs k r pins honest j ∙ begin.root_is;
  }

-- what the check with pins says
abbrev pub JudgesPinned : {D : Type 0} → Scheme D → (pins : List D) → (root : D) → RangeInput D → ℕ → Type 0
JudgesPinned s pins root r = Judges s root (AcceptsPinned s r pins root) (λ xs k. IsHonestPinned s xs k r pins) (λ xs k. PinnedCollides s r pins xs k)

module _ {D : Type 0} (s : Scheme D) (old : D) (j : ℕ) (pins : List D) (root : D) (r : RangeInput D) where
  -- with pins that give the old root it is what is said of growth
  pub grown_accepted : GivesRoot s old r.start j pins → JudgesPinned s pins root r accepted → JudgesGrowth s old j pins root r accepted
  grown_accepted given (inl w) =
      inl (
        refl,
        (given, w.1),
        λ xs k few enough is. elim (w.2 xs k few enough is)
            [ inl honest ↦ inl (begins s xs k r pins honest j old given, honest) | inr collide ↦ inr collide ],
      )
  grown_accepted given (inr w) = absurd (search (rules, w.0))

  pub grown_rejected : JudgesPinned s pins root r rejected → JudgesGrowth s old j pins root r rejected
  grown_rejected (inl w) = absurd (search (rules, w.0))
  grown_rejected (inr w) = inr (refl, (λ both. w.1 both.1), λ xs k few enough is honest. w.2 xs k few enough is honest.1)

  -- with others it is rejected
  pub not_grown : ¬ (GivesRoot s old r.start j pins) → JudgesGrowth s old j pins root r rejected
  not_grown not = inr (refl, (λ both. not both.0), λ xs k few enough is honest. not (gives s xs k r pins honest.1 j old honest.0))
