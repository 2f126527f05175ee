use Rattle.std.proofs.Common.{◌≡◌, [], ◌∷◌, refl, inl, inr, arith}
use Rattle.merkle_base.specs.Forest.{forest}
use Rattle.merkle_root_theory.specs.Expression.{Root, Join, PrefixFold, Node, Pair}
use Rattle.merkle_audit_theory.specs.Cuts.{IsSublist, no_more, kept, left_out}
use Rattle.merkle_audit_theory.proofs.SublistFacts.{sub_member}
use Rattle.merkle_audit_theory.proofs.laws.worked_audits.Goals as goal

-- after the first place the root does not stand again
no_root_after : IsSublist (Node 2 ∷ Root ∷ []) (Root ∷ PrefixFold 1 ∷ Node 2 ∷ []) → ⊥
no_root_after (left_out _ (left_out _ (kept _ w))) = elim (sub_member w Root (inl refl)) [ ]
no_root_after (left_out _ (left_out _ (left_out _ w))) = elim (sub_member w Root (inr (inl refl))) [ ]

pub returns : goal.returns
unfolding forest
returns c = record {
  said_collision = refl;
  said_clear = refl;
  said_rejected = refl;
  empty_clear = refl;
  at_root = refl;
  at_fold = refl;
  at_node = refl;
  nowhere = refl;
  pair_at_node = refl;
  pair_at_fold = refl;
  pair_clear = refl;
  lists_at_node = refl;
  lists_clear = refl;
  all_places = refl;
  places_alone = refl;
  no_places = refl;
  first_places = refl;
  last_places = refl;
  difference = refl;
  difference_alone = refl;
  no_difference = refl;
  cursors = refl;
  cursors_skip = refl;
  looked = refl;
  folds_forward = refl;
  folds_backward = refl;
  folds_inactive = refl;
  nodes_over = refl;
  folds_one = refl;
  folds_numbered = refl;
  top_of_none = refl;
  peak_digest = refl;
  equal_arguments = λ w. w.2.collides.differ refl;
  other_digests = λ w. absurd (omega (arith, w.2.collides.one_digest));
  silent = λ w. w.2 (record { place = PrefixFold 2; claimed = Pair 4 1; listed = Pair 2 7 })
      (record { claimed = inr (inl refl); listed = inr (inl refl); differ = λ e. absurd (cc); one_digest = refl });
  refused_yes = λ w. w.0 tt;
  in_order = kept Root (left_out (PrefixFold 1) (kept (Node 2) no_more));
  out_of_order = no_root_after;
  cut = (refl, tt, tt);
  no_cut = λ w. w;
  no_cut_elsewhere = λ w. absurd (let e : Join ≡ Root = w.0 in cc);
}
