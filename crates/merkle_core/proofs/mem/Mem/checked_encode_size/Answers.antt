use Rattle.std.proofs.Common.{◌≡◌, ◌^◌, ◌<◌, ap, sym, ◌∙◌, subst}
use Rattle.std.specs.Option.{SomeIff}
use Rattle.merkle_batch_theory.specs.MemModel.{MemModel}
use Rattle.merkle_core.specs.ConfigBytes.{components_length}
use Rattle.merkle_core.specs.MemBytes.{held_nodes, held_pins}
use Rattle.merkle_core.proofs.ConfigSizes.{length-components}
use Rattle.merkle_core.proofs.mem.Mem.checked_encode_size.Goals as goal

pub returns : goal.returns
returns g c =
    let D = g.met.D.Digest in
    let bytes = g.D.Digest.bytes in
    let rule = g.F.Family.rule in
    let s = c.args.self.now in
    let whole = length-components bytes g.D.Digest.SIZE (λ x. D.one_length (bytes x) (D.bytes_spell x)) s.boundary (held_pins rule s) (held_nodes rule s) in
    let boundary = c.as_u64.ensures ∙ ap (λ (m : MemModel _). m.boundary) c.self.view_is in
    subst (λ n. SomeIff c.checked_components_size.result (n < 2 ^ 64) n)
    ((λ i. components_length g.D.Digest.SIZE (boundary i) (c.pin_count.ensures i) (c.node_count.ensures i)) ∙ sym whole) c.checked_components_size.ensures
