use Rattle.merkle_audit_theory.proofs.PlainStrings.{standard_is_plain, root_collision, plain_collision, node_collision, range_collision, multi_collision, pinned_collision, pair_collision}
use Rattle.merkle_audit_theory.proofs.laws.plain_hash.Goals as goal

pub returns : goal.returns
returns g c = record {
  standard = standard_is_plain;
  roots = root_collision;
  strings = plain_collision;
  ranges = range_collision;
  multi = multi_collision;
  pinned = pinned_collision;
  pairs = pair_collision;
  nodes = node_collision;
}
