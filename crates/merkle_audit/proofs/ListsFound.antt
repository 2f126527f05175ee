-- What the search of two lists finds is the first collision.
use Rattle.std.proofs.Common.{◌≡◌, List, map, flat_map, length, refl, ap, sym, ◌∙◌, subst, Option}
use Rattle.std.specs.List.{AllByRecursion}
use Rattle.merkle_base.specs.Digests.{digest_at}
use Rattle.merkle_base.specs.Hashing.{EqDecides}
use Rattle.merkle_base.specs.Places.{peaks_of}
use Rattle.merkle_base.specs.Scheme.{Scheme}
use Rattle.merkle_batch_theory.specs.Records.{MerkleizedModel}
use Rattle.merkle_root_theory.specs.Collision.{Collision}
use Rattle.merkle_root_theory.specs.Expression.{Place, Input}
use Rattle.merkle_root_theory.specs.Range.{list_inputs}
use Rattle.merkle_claim_theory.specs.FirstCollision.{first_collision}
use Rattle.merkle_claim_theory.specs.Order.{node_places}
use Rattle.merkle_audit_theory.specs.Differences.{is_difference}
use Rattle.merkle_audit_theory.specs.Located.{node_inputs}
use Rattle.merkle_audit_theory.specs.Searches.{input_at, looked_up}
use Rattle.merkle_audit_theory.specs.Seen.{children_of, Sees}
use Rattle.merkle_audit_theory.proofs.ListSearches.{lists_searched}
use Rattle.merkle_audit_parts.specs.Found.{HaveSamePeaks}
use Rattle.merkle_audit_parts.specs.Listed.{digest_in, IsOfList}
use Rattle.merkle_audit_parts.proofs.Lists.{batch_sees}

module _ {D : Type 0} (s : Scheme D) (laws : EqDecides s.hashing) (none : D) (X Z : List D) (b d : MerkleizedModel D)
    (of : IsOfList s.hashing s.rule b X) (of' : IsOfList s.hashing s.rule d Z) (alike : HaveSamePeaks s.hashing s.rule X Z) where
  -- what a search says, by what stands at the nodes of the peaks
  abbrev pub SaysOfNodes : Option (Collision D) → Type 0
  SaysOfNodes o = (f g : Place → Option (Input D)) → AllByRecursion (λ t. Sees (children_of (digest_in none b)) f t) (peaks_of s.rule (length Z))
      → AllByRecursion (λ t. Sees (children_of (digest_in none d)) g t) (peaks_of s.rule (length Z)) → o ≡ looked_up (is_difference s.hashing) (flat_map node_places (peaks_of s.rule (length Z))) f g

  same_digests : map (digest_at s.hashing X) (peaks_of s.rule (length Z)) ≡ map (digest_at s.hashing Z) (peaks_of s.rule (length Z))
  same_digests = ap (λ n. map (digest_at s.hashing X) (peaks_of s.rule n)) (sym alike.0) ∙ alike.1

  pub lists_found : (o : Option (Collision D)) → SaysOfNodes o → o ≡ first_collision s.hashing (node_inputs s.hashing s.rule X) (node_inputs s.hashing s.rule Z)
  lists_found o says =
      says (input_at (list_inputs s X 0)) (input_at (list_inputs s Z 0))
      (subst (λ n. AllByRecursion (λ t. Sees (children_of (digest_in none b)) (input_at (list_inputs s X 0)) t) (peaks_of s.rule n)) alike.0 (batch_sees s X 0 none b of)) (batch_sees s Z 0 none d of')
      ∙ lists_searched s laws (length Z) X Z alike.0 refl same_digests
