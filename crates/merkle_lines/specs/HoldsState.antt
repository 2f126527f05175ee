-- When the session holds what the lines told.
use Rattle.std.specs.Prelude.{◌≡◌, ◌+◌, ◌^◌, Option, Some, None}
use Rattle.merkle_commands.specs.declared.command.FamilyName.TheVariants.{Mmr, Mmb}
use Rattle.merkle_commands.specs.declared.command.HashName.TheVariants.{Sha256, Xor8}
use Rattle.merkle_forest_theory.specs.Mmb.{mmb_merges}
use Rattle.merkle_forest_theory.specs.Mmr.{mmr_merges}
use Rattle.merkle_lines.specs.declared.session.Session.{Session}
use Rattle.merkle_lines.specs.declared.session.Session.TheVariants.{Absent, MmrSha256, MmrXor8, MmbSha256, MmbXor8}
use Rattle.merkle_lines.specs.StructureState.{StructureState}
use Rattle.merkle_core.specs.PlainHashings.{sha256_hashing, xor8_hashing}
use Rattle.merkle_lines.specs.Held.{IsStructureHeld}
use Rattle.merkle_lines.specs.Transcript.{SessionState}

-- the structure of the session holds what was told by the lines
abbrev pub HoldsState : Session → Option SessionState → Type 0
HoldsState Absent told = told ≡ None
HoldsState (MmrSha256 s) told =
    (g : StructureState) × (told ≡ Some (record { family = Mmr; bagging = s.hasher; hash = Sha256; structure = g }))
    × IsStructureHeld sha256_hashing mmr_merges (2 ^ 62) s.committed s.pending s.list.items s.edits.items g
HoldsState (MmrXor8 s) told =
    (g : StructureState) × (told ≡ Some (record { family = Mmr; bagging = s.hasher; hash = Xor8; structure = g }))
    × IsStructureHeld xor8_hashing mmr_merges (2 ^ 62) s.committed s.pending s.list.items s.edits.items g
HoldsState (MmbSha256 s) told =
    (g : StructureState) × (told ≡ Some (record { family = Mmb; bagging = s.hasher; hash = Sha256; structure = g }))
    × IsStructureHeld sha256_hashing mmb_merges (2 ^ 62 + 30) s.committed s.pending s.list.items s.edits.items g
HoldsState (MmbXor8 s) told =
    (g : StructureState) × (told ≡ Some (record { family = Mmb; bagging = s.hasher; hash = Xor8; structure = g }))
    × IsStructureHeld xor8_hashing mmb_merges (2 ^ 62 + 30) s.committed s.pending s.list.items s.edits.items g
