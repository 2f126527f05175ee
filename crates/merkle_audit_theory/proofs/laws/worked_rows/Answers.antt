use Rattle.std.proofs.Common.{◌≡◌, ◌≤◌, ◌<◌, ◌⊎◌, ℕ, List, [], ◌∷◌, refl, ap, sym, ◌∙◌, inl, inr, arith}
use Rattle.merkle_base.specs.declared.family.Bagging.TheVariants.{ForwardFold, BackwardFold}
use Rattle.merkle_base.specs.Forest.{forest}
use Rattle.merkle_forest_theory.specs.Rows.{unmerged}
use Rattle.merkle_root_theory.specs.Expression.{Root, PrefixFold, Pair, Bytes, Argument, Input}
use Rattle.merkle_root_theory.specs.Collision.{Member}
use Rattle.merkle_audit_theory.specs.Rows.{toy}
use Rattle.merkle_audit_theory.proofs.laws.worked_rows.Goals as goal

-- of the inputs of three peaks, whatever is folded, the root's argument is this string
one_root : (x y u v : ℕ) (a : List ℕ)
    → Member {X = Input ℕ} (record { place = Root; argument = Bytes (0 ∷ 0 ∷ 0 ∷ 0 ∷ 0 ∷ 0 ∷ 0 ∷ 0 ∷ 0 ∷ 3 ∷ 5 ∷ []) } ∷ record
    { place = PrefixFold 2; argument = Pair x y } ∷ record { place = PrefixFold 1; argument = Pair u v } ∷ [])
    (record { place = Root; argument = Bytes a })
    → ◌≡◌ {A = Argument ℕ} (Bytes a) (Bytes (0 ∷ 0 ∷ 0 ∷ 0 ∷ 0 ∷ 0 ∷ 0 ∷ 0 ∷ 0 ∷ 3 ∷ 5 ∷ []))
one_root x y u v a (inl e) = sym (ap (λ (i : Input ℕ). i.argument) e)
one_root x y u v a (inr (inl e)) = absurd (let d : PrefixFold 2 ≡ Root = ap (λ (i : Input ℕ). i.place) e in cc)
one_root x y u v a (inr (inr (inl e))) = absurd (let d : PrefixFold 1 ≡ Root = ap (λ (i : Input ℕ). i.place) e in cc)
one_root x y u v a (inr (inr (inr m))) = absurd m

-- one leaf is not proved without an element
some_element : (0 < 0) ⊎ (◌≡◌ {A = List ℕ} (1 ∷ []) []) → ⊥
some_element (inl l) = absurd (omega (arith, l))
some_element (inr e) = absurd (let d : ◌≡◌ {A = List ℕ} (1 ∷ []) [] = e in cc)

pub returns : goal.returns
unfolding forest
returns c = record {
  inside = refl;
  overlap = refl;
  after = refl;
  sibling_nodes = refl;
  sibling_nodes_two = refl;
  plan_forward = refl;
  plan_backward = refl;
  layout_forward = refl;
  layout_before = refl;
  layout_after = refl;
  counts_forward = refl;
  counts_before = refl;
  counts_after = refl;
  laid = refl;
  laid_backward = refl;
  reads_forward = refl;
  reads_backward = refl;
  reads_inactive = refl;
  digests = refl;
  honest = record { nonempty = omega arith; within = omega arith; leaves = refl; inactive = refl; digests = refl; elements = refl };
  other_digests = λ r. absurd (let e : 7 ∷ 1 ∷ [] ≡ 1 ∷ 7 ∷ [] = r.digests in cc);
  other_element = λ r. absurd (let e : 3 ∷ [] ≡ 2 ∷ [] = r.elements in cc);
  honest_range = (omega arith, inl (omega arith), refl);
  honest_range_other = λ r. absurd (let e : 7 ∷ 1 ∷ [] ≡ 1 ∷ 7 ∷ [] = ap (λ i. i.digests) r.2 in cc);
  honest_empty = (omega arith, inr refl, refl);
  honest_no_elements = λ r. some_element r.1;
  accepts = record { nonempty = omega arith; within = omega arith; leaves = omega arith; inactive = omega arith; counts = refl; root_is = refl };
  accepts_inactive = record { nonempty = omega arith; within = omega arith; leaves = omega arith; inactive = omega arith; counts = refl; root_is = refl };
  accepts_pinned = (refl, refl, (((refl, tt), tt), tt));
  pin_missing = λ a. absurd (omega (arith, a.1));
  pin_other = λ a. absurd (omega (arith, a.2.0.0.0));
  honest_multi = ((omega arith, (omega arith, tt)), (omega arith, (omega arith, tt)), inl (omega arith), refl);
  honest_multi_other = λ r. absurd (let e : 1 ∷ 2 ∷ 7 ∷ [] ≡ 1 ∷ 3 ∷ 7 ∷ [] = ap (λ i. i.digests) r.3 in cc);
  accepts_multi = record {
    nonempty = inl (omega arith);
    ascend = (omega arith, (omega arith, tt));
    below = (omega arith, (omega arith, tt));
    leaves = omega arith;
    inactive = omega arith;
    counts = refl;
    redundant = (((refl, tt), tt), (refl, tt));
    root_is = refl;
  };
  multi_other_redundant = λ a. absurd (omega (arith, a.redundant.0.0.0));
  multi_other_digest = λ a. absurd (omega (arith, a.root_is));
  multi_digest_missing = λ a. absurd (omega (arith, a.counts));
  multi_descending = λ a. absurd (omega (arith, a.ascend.1.0));
  other_root = λ a. absurd (omega (arith, a.root_is));
  too_many_inactive = λ a. absurd (omega (arith, a.inactive));
  too_many_digests = λ a. absurd (omega (arith, a.counts));
  too_many_elements = λ a. absurd (omega (arith, a.within));
  too_many_leaves = λ a. absurd (omega (arith, a.leaves));
  no_elements = λ a. absurd (omega (arith, a.nonempty));
  inputs_folds = refl;
  inputs_nodes = refl;
  accepts_swapped = record { nonempty = omega arith; within = omega arith; leaves = omega arith; inactive = omega arith; counts = refl; root_is = refl };
  collides = record { claimed = inr (inl refl); listed = inr (inl refl); differ = λ e. absurd (cc); one_digest = refl };
  no_collision = λ c. absurd (omega (arith, c.one_digest));
  no_collision_alike = λ c. c.differ refl;
  no_collision_elsewhere = refl;
  names = (5 ∷ [], refl);
  names_another_count = λ w. absurd (let e : 8 ∷ 1 ∷ 0 ∷ 0 ∷ 0 ∷ 0 ∷ 0 ∷ 0 ∷ 0 ∷ 3 ∷ 5 ∷ [] ≡ 8 ∷ 1 ∷ 0 ∷ 0 ∷ 0 ∷ 0 ∷ 0 ∷ 0 ∷ 0 ∷ 4 ∷ w.0 = w.1 in cc);
  names_another_family = λ w. absurd (let e : 8 ∷ 1 ∷ 0 ∷ 0 ∷ 0 ∷ 0 ∷ 0 ∷ 0 ∷ 0 ∷ 3 ∷ 5 ∷ [] ≡ 9 ∷ 1 ∷ 0 ∷ 0 ∷ 0 ∷ 0 ∷ 0 ∷ 0 ∷ 0 ∷ 3 ∷ w.0 = w.1 in cc);
  names_another_bagging = λ w. absurd (let e : 8 ∷ 1 ∷ 0 ∷ 0 ∷ 0 ∷ 0 ∷ 0 ∷ 0 ∷ 0 ∷ 3 ∷ 5 ∷ [] ≡ 8 ∷ 0 ∷ 0 ∷ 0 ∷ 0 ∷ 0 ∷ 0 ∷ 0 ∷ 0 ∷ 3 ∷ w.0 = w.1 in cc);
  apart_family = record { one_hash = refl; apart = λ e. absurd (omega (arith, e.0)) };
  apart_bagging = record { one_hash = refl; apart = λ e. absurd (let f : ForwardFold ≡ BackwardFold = e.1 in cc) };
  not_apart = λ w. w.apart (refl, refl);
  not_apart_in_hash = λ w. absurd (let e : 1 ≡ 0 = ap (λ f. f (1 ∷ [])) w.one_hash in omega (arith, e));
  roots_collide = (
    0 ∷ 0 ∷ 0 ∷ 0 ∷ 0 ∷ 0 ∷ 0 ∷ 0 ∷ 0 ∷ 3 ∷ 5 ∷ [],
    1 ∷ 0 ∷ 0 ∷ 0 ∷ 0 ∷ 0 ∷ 0 ∷ 0 ∷ 0 ∷ 3 ∷ 4 ∷ [],
    record { claimed = inl refl; listed = inl refl; differ = λ e. absurd (cc); one_digest = refl },
  );
  no_roots_collide = λ w. w.2.differ (one_root 4 1 7 3 w.0 w.2.claimed ∙ sym (one_root 2 7 1 3 w.1 w.2.listed));
  joined_node = refl;
  joined_fold = refl;
  string_pair = refl;
  string_bytes = refl;
  plain = record { node = λ p l r. refl; fold = λ a b. refl };
  not_plain_node = λ w. absurd (let e : 256 ≡ 1 = w.node 256 0 0 in omega (arith, e));
  not_plain_fold = λ w. absurd (let e : 0 ≡ 1 = w.fold 0 1 in omega (arith, e));
  hash_collision = record { differ = λ e. absurd (cc); one_hash = refl };
  no_hash_collision = λ w. absurd (let e : 5 ≡ 4 = w.one_hash in omega (arith, e));
  no_hash_collision_alike = λ w. w.differ refl;
  one_form = (tt, tt);
  two_forms = (λ w. w, λ w. w);
  inputs_forest = refl;
  collides_at_node = record { claimed = inl refl; listed = inl refl; differ = λ e. absurd (cc); one_digest = refl };
  leads = refl;
  start_past = refl;
  end_past_limit = refl;
  end_past_leaves = refl;
  leaves_past_limit = refl;
  inactive_past_peaks = refl;
  digest_missing = refl;
  digest_extra = refl;
  empty_leads = refl;
  empty_start = refl;
  empty_inactive = refl;
  empty_leaves = refl;
  empty_digest = refl;
  positions = refl;
  too_many_positions = λ f. absurd (let e : 123 ≤ 122 = f (record toy { rule = unmerged; max_leaves = 124 }) refl refl 124 (omega arith) (0 ∷ []) (omega arith, tt) in omega (arith, e));
}
