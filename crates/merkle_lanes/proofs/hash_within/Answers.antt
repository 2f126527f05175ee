use Rattle.std.proofs.Common.{refl, ◌∙◌}
use Rattle.merkle_lanes.proofs.BlockLemmas.{digest_of_padded}
use Rattle.merkle_lanes.proofs.hash_within.Goals as goal

pub returns-clause-first : goal.returns-clause-first
returns-clause-first g c =
    let k = c.in_ok-k in
    c.hash_blocks.ensures.first ∙ digest_of_padded _ c.pad.new.bytes k.k k.k refl k.ensures.count k.ensures.bytes

pub returns-clause-second : goal.returns-clause-second
returns-clause-second g c =
    let l = c.in_ok-l in
    c.hash_blocks.ensures.second ∙ digest_of_padded _ c.pad-2.new.bytes l.l l.l refl l.ensures.count l.ensures.bytes

pub returns-clause-third : goal.returns-clause-third
returns-clause-third g c =
    let m = c.in_ok-m in
    c.hash_blocks.ensures.third ∙ digest_of_padded _ c.pad-3.new.bytes m.m m.m refl m.ensures.count m.ensures.bytes

pub returns-clause-fourth : goal.returns-clause-fourth
returns-clause-fourth g c =
    let n = c.in_ok-n in
    c.hash_blocks.ensures.fourth ∙ digest_of_padded _ c.pad-4.new.bytes n.n n.n refl n.ensures.count n.ensures.bytes
