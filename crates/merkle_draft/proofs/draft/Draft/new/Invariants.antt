use Rattle.std.proofs.Common.{◌≡◌, map, take}
use Rattle.merkle_draft.proofs.draft.Draft.new.Given as goal

abbrev pub invariant-loop-record : goal.invariant-loop-record
invariant-loop-record g l = map (λ r. r.value) l.kept.items ≡ take l.record-index (map (λ r. r.value) l.ancestors)
