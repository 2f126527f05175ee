use Rattle.merkle_lanes.proofs.four.digests.Goals as goal

pub returns : goal.returns
returns c = record {
  first = c.digest.ensures;
  second = c.digest-2.ensures;
  third = c.digest-3.ensures;
  fourth = c.digest-4.ensures;
}
