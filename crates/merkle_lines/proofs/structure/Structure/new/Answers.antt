use Rattle.std.proofs.Common.{ap, arith, rules}
use Rattle.merkle_lines.proofs.structure.Structure.new.Goals as goal

pub returns-clause-held : goal.returns-clause-held
returns-clause-held g c = record {
  agrees = c.new-2.ensures.agrees _;
  counted = ap (λ s. s.leaves) c.new-2.ensures.empty;
  bounded = omega arith;
  boundary = ap (λ s. s.boundary) c.new-2.ensures.empty;
  makes = tt;
  listed = search rules;
  edits_are = tt;
}
