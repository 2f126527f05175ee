-- The peaks of a leaf count lie wholly before it.
use Rattle.std.proofs.Common.{◌≡◌, ℕ, ◌+◌, List, [], ◌∷◌, length, nat_le, le-leb, refl, ap, ◌∙◌, arith}
use Rattle.merkle_base.specs.Tree.{Tree, width, end_leaf}
use Rattle.merkle_base.specs.Places.{peaks_of, wholly_before, inactive_peaks}
use Rattle.merkle_base.proofs.PeakLists.{Spans, spans_end, peaks_spans, filter_yes}

wholly_before-all : (o n : ℕ) (ts : List Tree) → Spans o n ts → wholly_before n ts ≡ ts
wholly_before-all o n [] c = refl
wholly_before-all o n (t ∷ ts) c =
    filter_yes (λ u. nat_le (end_leaf u) n) t ts (le-leb (end_leaf t) n (omega (arith, c.0, spans_end (o + width t) n ts c.1)))
    ∙ ap (λ (us : List Tree). t ∷ us) (wholly_before-all (o + width t) n ts c.1)

pub inactive_peaks-all : (rule : List ℕ → List ℕ) (n : ℕ) → inactive_peaks rule n n ≡ length (peaks_of rule n)
inactive_peaks-all rule n = ap length (wholly_before-all 0 n (peaks_of rule n) (peaks_spans rule n))
