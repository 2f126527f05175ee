use Rattle.std.proofs.lemmas.Option.{IfSome_then}
use Rattle.merkle_proof.proofs.HasherLaws.{sound}
use Rattle.merkle_core.proofs.WholeMem.{if_none_then, holds_kept, whole_by_root}
use Rattle.merkle_core.proofs.mem.Mem.first_damaged.Goals as goal

pub returns-clause-damaged : goal.returns-clause-damaged
returns-clause-damaged g c =
    let held = holds_kept g.F.Family.rule g.F.Family.MAX_LEAVES c.self.inside.boundary c.self.inside.leaves c.self.inside.held c.args.self.now c.self.invariant c.self.view_is in
    IfSome_then c.first_damaged.result c.first_damaged.ensures.damaged (λ p told. told held)

pub returns-clause-whole : goal.returns-clause-whole
returns-clause-whole g c =
    let held = holds_kept g.F.Family.rule g.F.Family.MAX_LEAVES c.self.inside.boundary c.self.inside.leaves c.self.inside.held c.args.self.now c.self.invariant c.self.view_is in
    if_none_then c.first_damaged.result _ _ c.first_damaged.ensures.whole (λ told. told held)

pub returns-clause-agrees : goal.returns-clause-agrees
returns-clause-agrees g c =
    let rule = g.F.Family.rule in
    let max = g.F.Family.MAX_LEAVES in
    let hasher = c.args.hasher.now in
    let scheme = g.H.Hasher.scheme hasher in
    let bagging = g.H.Hasher.bagging_of hasher in
    let is = g.met.H.Hasher.scheme_is hasher in
    let d = g.met.D.Digest in
    let lawful = sound _ _ _ _ (g.met.H.Hasher.over_digest hasher) scheme bagging rule max g.F.Family.MAX_NODES g.F.Family.DOMAIN g.D.Digest.SIZE is
    d.eq_decides g.D.Digest.Spells d.nonempty d.bytes_spell d.one_length d.bytes_decide g.met.F.Family.lawful in
    let i = c.self.inside in
    let held = holds_kept rule max i.boundary i.leaves i.held c.args.self.now c.self.invariant c.self.view_is in
    if_none_then c.first_damaged.result _ _ c.first_damaged.ensures.whole (λ told.
    whole_by_root rule max i.boundary i.leaves i.held c.args.self.now c.self.invariant c.self.view_is (g.H.Hasher.hashing hasher) scheme bagging
    g.F.Family.DOMAIN g.D.Digest.SIZE g.F.Family.MAX_NODES is lawful (told held))
