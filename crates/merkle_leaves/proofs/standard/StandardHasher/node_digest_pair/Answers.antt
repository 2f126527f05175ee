use Rattle.merkle_leaves.proofs.standard.StandardHasher.node_digest_pair.Goals as goal

pub returns : goal.returns
returns g c = λ d e is. (
  rw (c.to_be_bytes.ensures, c.as_u64.ensures, c.as_bytes.ensures, c.as_bytes-2.ensures, is) at c.hash_two_nodes.ensures.first,
  rw (c.to_be_bytes-2.ensures, c.as_u64-2.ensures, c.as_bytes-3.ensures, c.as_bytes-4.ensures, is) at c.hash_two_nodes.ensures.second,
)
