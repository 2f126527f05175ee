use Rattle.std.proofs.Common.{IsTrue}
use Rattle.std.proofs.lemmas.Result.{IfOk-weaker}
use Rattle.example.proofs.Entries.{accepted, honest_accepted}
use Rattle.example.proofs.client.Client.accept.Goals as goal

pub returns-clause-sound : goal.returns-clause-sound
returns-clause-sound g c =
    let s = g.H.Hasher.scheme c.args.hasher.now in
    let p = c.args.proof.now in
    IfOk-weaker c.verify_element_inclusion.result _ _
    (λ yes known is_yes. accepted s c.args.self.now.root p.leaves p.inactive_peaks p.digests.items c.args.location c.args.entry.now (known is_yes))
    c.verify_element_inclusion.ensures.sound

pub returns-clause-honest : goal.returns-clause-honest
returns-clause-honest g c =
    let s = g.H.Hasher.scheme c.args.hasher.now in
    let p = c.args.proof.now in
    IfOk-weaker c.verify_element_inclusion.result _ _
    (λ yes known. honest_accepted s c.args.self.now.root p.leaves p.inactive_peaks p.digests.items c.args.location c.args.entry.now (IsTrue yes) known)
    c.verify_element_inclusion.ensures.honest
