use Rattle.merkle_core.specs.Walk.{bytes_of}
use Rattle.example.proofs.Entries.{of_logs}
use Rattle.example.proofs.Following.{followed, pins_give}
use Rattle.example.proofs.client.Client.follow.Goals as goal

pub returns-then-is_extended-clause-sound : goal.returns-then-is_extended-clause-sound
returns-then-is_extended-clause-sound g c = λ is_yes.
    let s = g.H.Hasher.scheme c.args.hasher.now in
    let p = c.args.proof.now in
    let client = c.args.self.now in
    let checks = c.in_ok-is_extended.ensures in
    followed s c.args.root.now client.root client.leaves client.inactive_peaks c.args.pinned_nodes.now (bytes_of c.args.added.now) p.leaves p.inactive_peaks p.digests.items
    (c.is_given_by.ensures.0 c.if-not-is_given_by.false) (checks.sound is_yes) (checks.old_root is_yes)

pub returns-then-not-is_given_by-clause-honest : goal.returns-then-not-is_given_by-clause-honest
returns-then-not-is_given_by-clause-honest g c = λ entries k log old honest.
    let s = g.H.Hasher.scheme c.args.hasher.now in
    let p = c.args.proof.now in
    let client = c.args.self.now in
    let given = pins_give s client.root client.leaves client.inactive_peaks c.args.pinned_nodes.now (bytes_of c.args.added.now) entries k p.leaves p.inactive_peaks p.digests.items old honest in
    absurd (cc (c.is_given_by.ensures.1 given))

pub returns-else-is_extended-clause-honest : goal.returns-else-is_extended-clause-honest
returns-else-is_extended-clause-honest g c = λ entries k log old honest.
    of_logs (g.H.Hasher.scheme c.args.hasher.now) c.args.root.now _ c.in_ok-is_extended.ensures.honest entries k log honest
