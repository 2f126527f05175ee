-- What a root that is computed or accepted is a hash of.
use Rattle.std.proofs.Common.{◌≡◌, ℕ, List, [], ◌∷◌, ◌++◌, Option, Some, None, refl, ap, ap₂, sym, ◌∙◌, inl, inr, option_map, w64, subst}
use Rattle.std.proofs.lemmas.List.{append-nil}
use Rattle.std.specs.Int.{to_be_bytes}
use Rattle.merkle_base.specs.declared.family.Bagging.{Bagging}
use Rattle.merkle_base.specs.Bagging.{bagging_byte}
use Rattle.merkle_base.specs.Hashing.{Hashing}
use Rattle.merkle_base.specs.Places.{peaks_of}
use Rattle.merkle_base.specs.Root.{root_string, inactive_bytes}
use Rattle.merkle_base.proofs.Lists.{cons_head, cons_tail}
use Rattle.merkle_root_theory.specs.Expression.{Argument, Bytes, Expression, value}
use Rattle.merkle_root_theory.specs.Plan.{Plan, root_plan}
use Rattle.merkle_root_theory.specs.Claim.{claim_of}
use Rattle.merkle_root_theory.specs.Check.{RangeInput, root_of, string_of, chosen, leaf_given, range_expression}
use Rattle.merkle_base.specs.Scheme.{Scheme}
use Rattle.merkle_root_theory.specs.Range.{Accepts, IsEmptyInput}
use Rattle.merkle_root_theory.specs.RootNames.{NamesRoot, RootIsNamed, YesNamesRoot, EqualRootsCollide, OtherYesCollides}
use Rattle.merkle_root_theory.proofs.RangeChecks.{no_plan}
use Rattle.merkle_root_theory.proofs.RootStrings.{same_bagging}

-- ---- the root that is accepted is the one that is computed
nothing : {D : Type 0} (s : Scheme D) (r : RangeInput D) → IsEmptyInput r → range_expression s r ≡ None
nothing s r empty =
    ap (λ (o : Option Plan). option_map (λ p. claim_of s.hashing (chosen r) (leaf_given s.hashing r) p r.digests) o)
    (ap (λ n. root_plan s.bagging r.inactive (peaks_of s.rule n)) empty.leaves ∙ no_plan s s.bagging r.inactive)

pub accepted_root : {D : Type 0} (s : Scheme D) (r : RangeInput D) (root : D) → Accepts s r root → root_of s r.leaves r.inactive (range_expression s r) ≡ root
accepted_root s r root (inl a) = a.root_is
accepted_root s r root (inr a) = ap (λ e. root_of s r.leaves r.inactive e) (nothing s r a.0) ∙ ap₂ (λ n k. root_of s n k None) a.0.leaves a.0.inactive ∙ a.1

-- ---- how a root's string begins
abbrev after_count : {D : Type 0} → Hashing D → ℕ → Option D → List ℕ
after_count h k None = []
after_count h k (Some d) = inactive_bytes k ++ h.bytes d

begins : {D : Type 0} (h : Hashing D) (domain : ℕ) (bagging : Bagging) (n k : ℕ) (o : Option D)
    → root_string h domain bagging n k o ≡ domain ∷ bagging_byte bagging ∷ to_be_bytes w64 n ++ after_count h k o
begins h domain bagging n k None = ap (λ bs. domain ∷ bagging_byte bagging ∷ bs) (sym (append-nil (to_be_bytes w64 n)))
begins h domain bagging n k (Some d) = refl

pub root_is_named : {D : Type 0} → RootIsNamed D
root_is_named s n k e =
    let o = option_map (value s.hashing) e in
    (after_count s.hashing k o, ap s.hashing.hash (begins s.hashing s.domain s.bagging n k o))

pub named : {D : Type 0} (s : Scheme D) (n k : ℕ) (e : Option (Expression D)) (root : D) → root_of s n k e ≡ root → NamesRoot s n root
named s n k e root q = subst (NamesRoot s n) q (root_is_named s n k e)

pub yes_names_root : {D : Type 0} → YesNamesRoot D
yes_names_root s r root a = named s r.leaves r.inactive (range_expression s r) root (accepted_root s r root a)

-- ---- two strings that begin otherwise
one_string : {D : Type 0} (x y : List ℕ) → ◌≡◌ {A = Argument D} (Bytes x) (Bytes y) → x ≡ y
one_string x y e = cc

one_setting : {D : Type 0} (s t : Scheme D) (n m k j : ℕ) (e f : Option (Expression D)) → string_of s n k e ≡ string_of t m j f → (s.domain ≡ t.domain) × (s.bagging ≡ t.bagging)
one_setting s t n m k j e f same =
    let u = sym (begins s.hashing s.domain s.bagging n k (option_map (value s.hashing) e)) ∙ same ∙ begins t.hashing t.domain t.bagging m j (option_map (value t.hashing) f) in
    (cons_head _ _ _ _ u, same_bagging s.bagging t.bagging (cons_head _ _ _ _ (cons_tail _ _ _ _ u)))

pub equal_roots_collide : {D : Type 0} → EqualRootsCollide D
equal_roots_collide {D = D} s t far n m k j e f same = (
  string_of s n k e,
  string_of t m j f,
  record {
    claimed = inl refl;
    listed = inl refl;
    differ = λ d. far.apart (one_setting s t n m k j e f (one_string {D = D} _ _ d));
    one_digest = same ∙ ap (λ g. g (string_of t m j f)) (sym far.one_hash);
  },
)

pub other_yes_collides : {D : Type 0} → OtherYesCollides D
other_yes_collides s t far r q root a b = equal_roots_collide s t far _ _ _ _ _ _ (accepted_root s r root a ∙ sym (accepted_root t q root b))
