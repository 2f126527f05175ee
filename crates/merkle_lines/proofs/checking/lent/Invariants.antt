use Rattle.std.proofs.Common.{◌≡◌, ◌≤◌, length, map, take}
use Rattle.merkle_hasher.specs.LeafDigests.{bytes_of}
use Rattle.merkle_lines.proofs.checking.lent.Given as goal

abbrev pub invariant-loop-element : goal.invariant-loop-element
invariant-loop-element l =
    (l.elements ≡ l.fn.elements) × (l.element-index ≤ length l.fn.elements) × (l.element-index-end ≡ length l.fn.elements)
    × (bytes_of l.all.items ≡ map (λ bytes. bytes.items) (take l.element-index l.fn.elements))
