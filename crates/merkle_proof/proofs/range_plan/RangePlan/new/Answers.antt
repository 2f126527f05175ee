use Rattle.std.proofs.Common.{◌<◌, ◌≤◌, rules}
use Rattle.merkle_base.specs.Places.{peaks_of}
use Rattle.merkle_proof.proofs.range_plan.RangePlan.new.Goals as goal

pub after-after-requires : goal.after-after-requires
after-after-requires g c = (c.args.range.start, c.args.range.end, peaks_of g.F.Family.rule c.args.leaves, c.in_ok-groups.ensures)

pub invariant_of-result : goal.invariant_of-result
invariant_of-result g c =
    let n = c.args.leaves in let a = c.args.range.start in let b = c.args.range.end in
    let held = c.in_ok-groups.ensures in
    let less : a < b = search rules in
    let few : n ≤ g.F.Family.MAX_LEAVES = search rules in
    record {
      nonempty = less;
      within = search rules;
      within_max_leaves = few;
      peaks_are = c.count-peaks.ensures a b n less held;
      before_are = held.before;
      after_are = c.after-after.ensures a b (peaks_of g.F.Family.rule n) held;
      reads_are = c.in_ok-reads.ensures n few held;
    }
