use Rattle.std.proofs.Common.{◌≡◌, ◌+◌, ◌^◌, ◌≤◌, ℕ, length, arith, ap, sym, ◌∙◌, rules}
use Rattle.merkle_forest_theory.specs.Mmb.{birth_leaf}
use Rattle.merkle_topology.proofs.BeltRoots.{IsHalved, stretch_birth, stretch_halved, stretch_first}
use Rattle.merkle_topology.proofs.mmb.ChunkPeaksIterator.next.Goals as goal

halved : (n s h birth : ℕ) → n ≤ 4611686018427387934 → s + 2 ^ h ≤ n → n ≤ birth → birth ≡ birth_leaf s h → IsHalved n s h
halved n s h birth l w b e = stretch_halved n s h l w (omega arith)

pub birth_leaf-requires : goal.birth_leaf-requires
birth_leaf-requires c = stretch_birth c.self.inside.leaves c.self.inside.first c.self.inside.height c.self.inside.valid c.self.inside.within

pub root_position-root-requires-2 : goal.root_position-root-requires-2
root_position-root-requires-2 c =
    let k = halved c.self.inside.leaves c.self.inside.first c.self.inside.height c.birth_leaf.result c.self.inside.valid c.self.inside.within
    (omega (arith, c.if-birth_leaf-self.false, c.self.inside.valid)) c.birth_leaf.ensures in
    omega (arith, k.birth, c.self.inside.valid)

pub overflow_shl-self : goal.overflow_shl-self
overflow_shl-self c =
    let k = halved c.self.inside.leaves c.self.inside.first c.self.inside.height c.birth_leaf.result c.self.inside.valid c.self.inside.within
    (omega (arith, c.if-birth_leaf-self.false, c.self.inside.valid)) c.birth_leaf.ensures in
    omega (arith, k.low)

pub returns-clause-goes : goal.returns-clause-goes
returns-clause-goes c =
    let k = halved c.self.inside.leaves c.self.inside.first c.self.inside.height c.birth_leaf.result c.self.inside.valid c.self.inside.within
    (omega (arith, c.if-birth_leaf-self.false, c.self.inside.valid)) c.birth_leaf.ensures in
    let first = sym c.self.view_is ∙ stretch_first c.self.inside.left c.self.inside.leaves c.self.inside.first c.self.inside.height c.if-not-self.false k in
    record { on = λ _. (tt, tt, omega (arith, ap length first)); keeps = tt; rests = λ _. tt }

pub returns-clause-steps : goal.returns-clause-steps
returns-clause-steps c = search rules depth 2
