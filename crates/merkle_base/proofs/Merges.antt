-- A merge by its two results: the node that it creates, and the peaks with that node in the place of two.
use Rattle.std.proofs.Common.{◌≡◌, ℕ, zero, suc, List, [], ◌∷◌, ◌++◌, length, map, take, drop, append-nil, refl, sym, ap, ◌∙◌}
use Rattle.merkle_base.specs.Tree.{Tree, join, height}
use Rattle.merkle_base.specs.Forest.{Forest, append_leaf, merge_at}

-- one merge after another
abbrev pub merge_all : List ℕ → Forest → Forest
merge_all [] f = f
merge_all (i ∷ is) f = merge_all is (merge_at i f)

-- what a rule makes of a forest of n leaves with leaf n
abbrev pub append_and_merge : (List ℕ → List ℕ) → ℕ → Forest → Forest
append_and_merge rule n f = merge_all (rule (map height (append_leaf n f).peaks)) (append_leaf n f)

-- the forest of no leaves
abbrev pub empty_forest : Forest
empty_forest = record { nodes = []; peaks = [] }

-- the node at position p over the i-th newest peak and the one before it, where there are both
abbrev pub parent_of_peaks : ℕ → ℕ → List Tree → List Tree
parent_of_peaks p i [] = []
parent_of_peaks p zero (b ∷ []) = []
parent_of_peaks p zero (b ∷ a ∷ ts) = join p a b ∷ []
parent_of_peaks p (suc i) (t ∷ ts) = parent_of_peaks p i ts

-- the peaks with that node in the place of the two
abbrev pub merge_peaks : ℕ → ℕ → List Tree → List Tree
merge_peaks p i [] = []
merge_peaks p zero (b ∷ []) = b ∷ []
merge_peaks p zero (b ∷ a ∷ ts) = join p a b ∷ ts
merge_peaks p (suc i) (t ∷ ts) = t ∷ merge_peaks p i ts

-- a merge
abbrev pub merged : ℕ → Forest → Forest
merged i f = record { nodes = f.nodes ++ parent_of_peaks (length f.nodes) i f.peaks; peaks = merge_peaks (length f.nodes) i f.peaks }

-- one merge after another
abbrev pub all_merged : List ℕ → Forest → Forest
all_merged [] f = f
all_merged (i ∷ is) f = all_merged is (merged i f)

-- with one peak more, which is newer
older : Tree → Forest → Forest
older t f = record { nodes = f.nodes; peaks = t ∷ f.peaks }

merge_at-older : (i : ℕ) (t : Tree) (f : Forest) → merge_at (suc i) (older t f) ≡ older t (merge_at i f)
unfolding older
merge_at-older i t f = cases (drop i f.peaks) refl
  where
    cases : (d : List Tree) → drop i f.peaks ≡ d → merge_at (suc i) (older t f) ≡ older t (merge_at i f)
    cases [] e = rw (e, merge_at) refl
    cases (b ∷ []) e = rw (e, merge_at) refl
    cases (b ∷ a ∷ ts) e = rw (e, merge_at) refl

split : (i : ℕ) (ns ts : List Tree) → merge_at i (record { nodes = ns; peaks = ts }) ≡ merged i (record { nodes = ns; peaks = ts })
unfolding older
split zero ns [] = ap (λ xs. record { nodes = xs; peaks = [] }) (sym (append-nil ns))
split zero ns (b ∷ []) = ap (λ xs. record { nodes = xs; peaks = b ∷ [] }) (sym (append-nil ns))
split zero ns (b ∷ a ∷ ts) = refl
split (suc i) ns [] = ap (λ xs. record { nodes = xs; peaks = [] }) (sym (append-nil ns))
split (suc i) ns (t ∷ ts) = merge_at-older i t (record { nodes = ns; peaks = ts }) ∙ ap (older t) (split i ns ts)

pub merge_at-parts : (i : ℕ) (f : Forest) → merge_at i f ≡ merged i f
merge_at-parts i f = split i f.nodes f.peaks

pub merge_all-parts : (is : List ℕ) (f : Forest) → merge_all is f ≡ all_merged is f
merge_all-parts [] f = refl
merge_all-parts (i ∷ is) f = ap (merge_all is) (merge_at-parts i f) ∙ merge_all-parts is (merged i f)
