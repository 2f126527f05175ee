use Rattle.std.proofs.Common.{refl}
use Rattle.merkle_base.specs.Forest.{forest}
use Rattle.merkle_codec.specs.NumberSpelling.{number_spelling}
use Rattle.merkle_lines.proofs.laws.worked_rows.Goals as goal

pub returns : goal.returns
unfolding forest number_spelling
returns c = record {
  no_lines = refl;
  two_lines = refl;
  empty_line = refl;
  adds = refl;
  updates = refl;
  updates_added = refl;
  updates_past = refl;
  updates_pruned = refl;
  commits = refl;
  edits = refl;
  prunes = refl;
  prunes_back = refl;
  root_forward = refl;
  root_backward = refl;
  proof = refl;
  collides_at_a_node = refl;
  collides_at_a_fold = refl;
}
