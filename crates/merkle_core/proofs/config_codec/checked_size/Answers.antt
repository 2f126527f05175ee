use Rattle.std.proofs.Common.{◌≡◌, ◌^◌, ◌<◌, sym, ◌∙◌, subst}
use Rattle.std.specs.Option.{SomeIff}
use Rattle.merkle_core.specs.ConfigBytes.{components_length}
use Rattle.merkle_core.proofs.ConfigSizes.{length-components}
use Rattle.merkle_core.proofs.config_codec.checked_size.Goals as goal

pub returns : goal.returns
returns g c =
    let D = g.met.D.Digest in
    let bytes = g.D.Digest.bytes in
    let config = c.args.config.now in
    let whole = length-components bytes g.D.Digest.SIZE (λ x. D.one_length (bytes x) (D.bytes_spell x)) config.pruning_boundary config.pinned_nodes.items config.nodes.items in
    subst (λ n. SomeIff c.checked_components_size.result (n < 2 ^ 64) n)
    ((λ i. components_length g.D.Digest.SIZE (c.as_u64.ensures i) ((c.len.ensures ∙ config.pinned_nodes.ok.0) i)
    ((c.len-2.ensures ∙ config.nodes.ok.0) i)) ∙ sym whole) c.checked_components_size.ensures
