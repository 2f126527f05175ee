use Rattle.merkle_root_theory.proofs.NamedRoots.{root_is_named, yes_names_root, equal_roots_collide, other_yes_collides}
use Rattle.merkle_claim_theory.proofs.ClaimRoots.{multi_names_root, pinned_names_root, other_list_collides}
use Rattle.merkle_claim_theory.proofs.ClaimRoots.{multi_other_list_collides, multi_other_yes_collides, pinned_other_list_collides, pinned_other_yes_collides}
use Rattle.merkle_claim_theory.proofs.laws.root_names.Goals as goal

pub returns : goal.returns
returns g c = record {
  names = yes_names_root;
  multi = multi_names_root;
  pinned = pinned_names_root;
  computed = root_is_named;
  apart = equal_roots_collide;
  lists = other_list_collides;
  checks = other_yes_collides;
  multi_lists = multi_other_list_collides;
  multi_checks = multi_other_yes_collides;
  pinned_lists = pinned_other_list_collides;
  pinned_checks = pinned_other_yes_collides;
}
