use Rattle.std.proofs.Common.{◌≡◌, length, arith, sym, ◌∙◌}
use Rattle.merkle_core.specs.ConfigBytes.{components_length}
use Rattle.merkle_core.proofs.ConfigSizes.{length-components}
use Rattle.merkle_core.proofs.config_codec.ConfigEncodeSize.encode_size.Goals as goal

pub components_size-requires : goal.components_size-requires
components_size-requires g c =
    let D = g.met.D.Digest in
    let bytes = g.D.Digest.bytes in
    let config = c.args.self.now in
    let whole = length-components bytes g.D.Digest.SIZE (λ x. D.one_length (bytes x) (D.bytes_spell x)) config.pruning_boundary config.pinned_nodes.items config.nodes.items in
    let parts : components_length g.D.Digest.SIZE c.as_u64.result c.len.result c.len-2.result
    ≡ components_length g.D.Digest.SIZE config.pruning_boundary (length config.pinned_nodes.items) (length config.nodes.items) =
    λ i. components_length g.D.Digest.SIZE (c.as_u64.ensures i) ((c.len.ensures ∙ config.pinned_nodes.ok.0) i) ((c.len-2.ensures ∙ config.nodes.ok.0) i) in
    omega (arith, whole, parts, c.requires)

pub returns : goal.returns
returns g c =
    let D = g.met.D.Digest in
    let bytes = g.D.Digest.bytes in
    let config = c.args.self.now in
    let whole = length-components bytes g.D.Digest.SIZE (λ x. D.one_length (bytes x) (D.bytes_spell x)) config.pruning_boundary config.pinned_nodes.items config.nodes.items in
    c.components_size.ensures ∙ (λ i. components_length g.D.Digest.SIZE (c.as_u64.ensures i) ((c.len.ensures ∙ config.pinned_nodes.ok.0) i) ((c.len-2.ensures ∙ config.nodes.ok.0) i)) ∙ sym whole
