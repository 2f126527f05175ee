-- What an accepted root is a hash of: checks of single leaves, checks with pins, and lists of another family.
use Rattle.std.proofs.Common.{◌≡◌, List, Option, None, option_map, ap, ap₂, sym, ◌∙◌, inl, inr, subst}
use Rattle.merkle_base.specs.Places.{peaks_of}
use Rattle.merkle_base.specs.Scheme.{Scheme}
use Rattle.merkle_root_theory.specs.Check.{RangeInput, root_of}
use Rattle.merkle_root_theory.specs.Plan.{Plan, root_plan}
use Rattle.merkle_root_theory.specs.RootNames.{NamesRoot, OtherListCollides}
use Rattle.merkle_root_theory.proofs.NamedRoots.{named, accepted_root, equal_roots_collide}
use Rattle.merkle_root_theory.proofs.ListRoots.{roots_agree}
use Rattle.merkle_root_theory.proofs.RangeChecks.{no_plan}
use Rattle.merkle_claim_theory.specs.Multiproof.{multi_expression}
use Rattle.merkle_claim_theory.specs.Pinned.{AcceptsPinned, AcceptsPinnedCases, pinned_expression, pinned_on}
use Rattle.merkle_claim_theory.specs.ClaimRoots.{MultiNamesRoot, PinnedNamesRoot}
use Rattle.merkle_claim_theory.specs.ClaimRoots.{MultiOtherListCollides, MultiOtherYesCollides, PinnedOtherListCollides, PinnedOtherYesCollides}
use Rattle.merkle_claim_theory.proofs.AcceptedInputs.{pinned_cases}

pub multi_names_root : {D : Type 0} → MultiNamesRoot D
multi_names_root s r root (inl a) = named s r.leaves r.inactive (multi_expression s r) root a.root_is
multi_names_root s r root (inr a) = subst (λ n. NamesRoot s n root) (sym a.0.leaves) (named s 0 0 None root a.1)

pub pinned_names_root : {D : Type 0} → PinnedNamesRoot D
pinned_names_root s r pins root (inl a) = named s r.leaves r.inactive (pinned_expression s r pins) root a.root_is
pinned_names_root s r pins root (inr a) = subst (λ n. NamesRoot s n root) (sym a.0.0.leaves) (named s 0 0 None root a.1)

pub other_list_collides : {D : Type 0} → OtherListCollides D
other_list_collides s t far r root a xs k e = equal_roots_collide s t far _ _ _ _ _ _ (accepted_root s r root a ∙ sym e ∙ sym (roots_agree t xs k))

-- ---- scattered leaves, and pins, under another setting
pub multi_other_list_collides : {D : Type 0} → MultiOtherListCollides D
multi_other_list_collides s t far r root a xs k e = equal_roots_collide s t far _ _ _ _ _ _ (a.root_is ∙ sym e ∙ sym (roots_agree t xs k))

pub multi_other_yes_collides : {D : Type 0} → MultiOtherYesCollides D
multi_other_yes_collides s t far r q root a b = equal_roots_collide s t far _ _ _ _ _ _ (a.root_is ∙ sym b.root_is)

-- the root that is accepted with pins is the one that is computed
root_by_case : {D : Type 0} (s : Scheme D) (r : RangeInput D) (pins : List D) (root : D) → AcceptsPinnedCases s r pins root
    → root_of s r.leaves r.inactive (pinned_expression s r pins) ≡ root
root_by_case s r pins root (inl a) = a.root_is
root_by_case s r pins root (inr a) =
    ap (λ e. root_of s r.leaves r.inactive e) nothing ∙ ap₂ (λ n k. root_of s n k None) a.0.0.leaves a.0.0.inactive ∙ a.1
  where
    nothing : pinned_expression s r pins ≡ None
    nothing = ap (λ (o : Option Plan). option_map (pinned_on s r pins) o) (ap (λ n. root_plan s.bagging r.inactive (peaks_of s.rule n)) a.0.0.leaves ∙ no_plan s s.bagging r.inactive)

pinned_root : {D : Type 0} (s : Scheme D) (r : RangeInput D) (pins : List D) (root : D) → AcceptsPinned s r pins root
    → root_of s r.leaves r.inactive (pinned_expression s r pins) ≡ root
pinned_root s r pins root a = root_by_case s r pins root ((pinned_cases s r pins root).1 a)

pub pinned_other_list_collides : {D : Type 0} → PinnedOtherListCollides D
pinned_other_list_collides s t far r pins root a xs k e = equal_roots_collide s t far _ _ _ _ _ _ (pinned_root s r pins root a ∙ sym e ∙ sym (roots_agree t xs k))

pub pinned_other_yes_collides : {D : Type 0} → PinnedOtherYesCollides D
pinned_other_yes_collides s t far r q pins qins root a b = equal_roots_collide s t far _ _ _ _ _ _ (pinned_root s r pins root a ∙ sym (pinned_root t q qins root b))
