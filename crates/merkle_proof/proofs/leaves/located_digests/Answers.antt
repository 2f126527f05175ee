use Rattle.std.proofs.Common.{length, ap, ◌∙◌}
use Rattle.std.proofs.lemmas.List.{length-map}
use Rattle.merkle_proof.proofs.LocatedDigests.{located-hashed}
use Rattle.merkle_proof.proofs.leaves.located_digests.Goals as goal

pub push_located-requires : goal.push_located-requires
push_located-requires g c = ap length (c.deref.ensures.value ∙ c.in_ok-digests.ensures) ∙ length-map _ _

pub returns : goal.returns
returns g c =
    located-hashed (g.H.Hasher.hashing c.args.hasher.now) g.F.Family.rule c.args.elements.now c.deref.result.now _ c.push_located.new.located.items
    c.in_ok-located.ensures.items (c.deref.ensures.value ∙ c.in_ok-digests.ensures) c.in_ok-push_located.ensures
