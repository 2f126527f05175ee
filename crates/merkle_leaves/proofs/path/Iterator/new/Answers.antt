use Rattle.merkle_leaves.proofs.PathSteps.{is_path, path_count}
use Rattle.merkle_leaves.proofs.path.Iterator.new.Goals as goal

pub returns-clause-path : goal.returns-clause-path
returns-clause-path g c = is_path g.F.Family.rule g.F.Family.MAX_LEAVES c.args.peak_pos c.args.height c.args.first_leaf_loc c.args.target_loc c.requires

pub returns-clause-count : goal.returns-clause-count
returns-clause-count g c = path_count _ _ _ g.met.F.Family.lawful c.args.peak_pos c.args.height c.args.first_leaf_loc c.args.target_loc c.requires
