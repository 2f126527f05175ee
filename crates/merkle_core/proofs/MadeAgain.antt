-- A structure is made again of the components that its bytes spell.
use Rattle.std.proofs.Common.{◌≡◌, ℕ, ◌≤◌, List, length, arith, ap, sym, ◌∙◌}
use Rattle.merkle_base.specs.Forest.{size}
use Rattle.merkle_base.proofs.Nodes.{size_inj, size_le}
use Rattle.merkle_batch_theory.specs.Components.{made_of}
use Rattle.merkle_batch_theory.specs.Contents.{HoldsKept}
use Rattle.merkle_batch_theory.specs.MemModel.{MemModel, contents}
use Rattle.merkle_restore_theory.proofs.CopiedComponents.{made_again, nodes_many}
use Rattle.merkle_core.specs.ConfigLaws.{components_once}
use Rattle.merkle_core.specs.MemBytes.{held_nodes, held_pins, MakesAgain}

pub makes_again : {D : Type 0} (rule : List ℕ → List ℕ) (bytes : D → List ℕ) (each : ℕ) → ((x : D) → length (bytes x) ≡ each) → ((x y : D) → bytes x ≡ bytes y → x ≡ y)
    → (s : MemModel D) → HoldsKept rule (contents s) → s.boundary ≤ s.leaves → size rule s.leaves ≡ s.size → MakesAgain rule bytes s
makes_again rule bytes each sized decide s kept below leaves = λ b n pins nodes rest more e counted.
    let same = components_once bytes each sized decide b s.boundary pins (held_pins rule s) nodes (held_nodes rule s) rest more e in
    let within : size rule s.boundary ≤ s.size = omega (arith, size_le rule s.boundary s.leaves below, leaves) in
    let many : size rule n ≡ size rule s.leaves = omega (arith, counted, ap (size rule) same.0, ap length same.2, nodes_many rule (contents s) kept within, leaves) in
    (λ j. made_of rule (same.0 j) (size_inj rule n s.leaves many j) (same.1 j) (same.2 j)) ∙ sym (made_again rule s kept within)
