use Rattle.std.proofs.Common.{◌≡◌, length, arith, ap, sym, ◌∙◌}
use Rattle.merkle_batch_theory.specs.MemModel.{MemModel}
use Rattle.merkle_core.specs.ConfigBytes.{components_length}
use Rattle.merkle_core.specs.MemBytes.{held_nodes, held_pins}
use Rattle.merkle_core.proofs.ConfigSizes.{length-components}
use Rattle.merkle_core.proofs.mem_codec.MemEncodeSize.encode_size.Goals as goal

pub components_size-requires : goal.components_size-requires
components_size-requires g c =
    let D = g.met.D.Digest in
    let bytes = g.D.Digest.bytes in
    let rule = g.F.Family.rule in
    let s = c.args.self.now in
    let whole = length-components bytes g.D.Digest.SIZE (λ x. D.one_length (bytes x) (D.bytes_spell x)) s.boundary (held_pins rule s) (held_nodes rule s) in
    let boundary = c.as_u64.ensures ∙ ap (λ (m : MemModel _). m.boundary) c.self.view_is in
    let parts : components_length g.D.Digest.SIZE c.as_u64.result c.pin_count.result c.node_count.result
    ≡ components_length g.D.Digest.SIZE s.boundary (length (held_pins rule s)) (length (held_nodes rule s)) =
    λ i. components_length g.D.Digest.SIZE (boundary i) (c.pin_count.ensures i) (c.node_count.ensures i) in
    omega (arith, whole, parts, c.requires)

pub returns : goal.returns
returns g c =
    let D = g.met.D.Digest in
    let bytes = g.D.Digest.bytes in
    let rule = g.F.Family.rule in
    let s = c.args.self.now in
    let whole = length-components bytes g.D.Digest.SIZE (λ x. D.one_length (bytes x) (D.bytes_spell x)) s.boundary (held_pins rule s) (held_nodes rule s) in
    let boundary = c.as_u64.ensures ∙ ap (λ (m : MemModel _). m.boundary) c.self.view_is in
    c.components_size.ensures ∙ (λ i. components_length g.D.Digest.SIZE (boundary i) (c.pin_count.ensures i) (c.node_count.ensures i)) ∙ sym whole
