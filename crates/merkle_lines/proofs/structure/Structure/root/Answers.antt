use Rattle.std.proofs.Common.{ap, ◌∙◌}
use Rattle.merkle_base.specs.Hashing.{Hashing}
use Rattle.merkle_base.specs.Scheme.{scheme_of}
use Rattle.merkle_leaves.specs.Standard.{standard}
use Rattle.hex.specs.Hex.{encode_lower}
use Rattle.merkle_lines.specs.Answers.{error_line}
use Rattle.merkle_lines.proofs.Replies.{root_refused, root_told}
use Rattle.merkle_lines.proofs.structure.Structure.root.Goals as goal

pub returns-in-Err : goal.returns-in-Err
returns-in-Err g c = λ given held.
    let h : Hashing g.row.H-Digest.Denot = standard g.H.PlainHasher.digest_of g.H.Digest.Digest.bytes g.H.Digest.PartialEq.eq g.H.Digest.Digest.EMPTY in
    let rule = g.F.Family.rule in
    let most = g.F.Family.MAX_LEAVES in
    let old = c.args.self.now in
    root_refused (scheme_of h c.args.self.now.hasher g.F.Family.rule g.F.Family.MAX_LEAVES g.F.Family.DOMAIN) g.H.Digest.Digest.SIZE
    g.H.Digest.Digest.Spells given c.args.inactive c.root.result _ (c.root.ensures.listed _ held.agrees) (c.root.ensures.too_many _ held.agrees)
    c.in-Err.error c.in-Err.is (ap error_line c.name.ensures)

pub returns : goal.returns
returns g c = λ given held.
    let h : Hashing g.row.H-Digest.Denot = standard g.H.PlainHasher.digest_of g.H.Digest.Digest.bytes g.H.Digest.PartialEq.eq g.H.Digest.Digest.EMPTY in
    let rule = g.F.Family.rule in
    let most = g.F.Family.MAX_LEAVES in
    let old = c.args.self.now in
    root_told (scheme_of h c.args.self.now.hasher g.F.Family.rule g.F.Family.MAX_LEAVES g.F.Family.DOMAIN) g.H.Digest.Digest.SIZE
    g.H.Digest.Digest.Spells given c.args.inactive c.root.result _ (c.root.ensures.listed _ held.agrees) (c.root.ensures.too_many _ held.agrees)
    c.in-Ok.value c.in-Ok.is (c.in-Ok-write_hex.ensures.digits ∙ ap encode_lower c.as_bytes.ensures)
