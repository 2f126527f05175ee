use Rattle.std.proofs.Common.{◌≡◌, ◌-◌, ◌*◌, ◌^◌, ◌<◌, ◌≤◌, ◌++◌, take, length}
use Rattle.merkle_codec.specs.NumberSpelling.{number_groups, number_spelling}
use Rattle.merkle_codec.proofs.number.groups_of.Given as goal

-- the groups so far, and those of what is left
abbrev pub invariant-loop-rest : goal.invariant-loop-rest
invariant-loop-rest l = record {
  ten : length l.groups ≡ 10;
  few : l.len ≤ 9;
  fits : l.rest < 2 ^ (64 - 7 * l.len);
  spells : take l.len l.groups ++ number_groups (9 - l.len) l.rest ≡ number_spelling l.fn.number;
}

abbrev pub decreases-loop-rest : goal.decreases-loop-rest
decreases-loop-rest l = l.rest
