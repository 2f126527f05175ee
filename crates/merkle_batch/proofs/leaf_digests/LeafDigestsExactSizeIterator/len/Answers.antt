use Rattle.std.proofs.Common.{◌≡◌, length, ap, sym, ◌∙◌}
use Rattle.merkle_batch.proofs.LeafReads.{leaf_count}
use Rattle.merkle_batch.proofs.leaf_digests.LeafDigestsExactSizeIterator.len.Goals as goal

pub returns-clause-value : goal.returns-clause-value
returns-clause-value g c =
    let s = c.self.inside in
    let many = leaf_count g.R.Family.Family.rule (g.R.Readable.node s.reader.now) g.R.Family.Family.MAX_LEAVES s.next s.end c.self.invariant in
    let e : c.as_u64.result ≡ length c.args.self.now = c.as_u64.ensures ∙ c.sub-left.ensures ∙ sym many ∙ ap length c.self.view_is in e
