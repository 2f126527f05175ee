-- A walk over the peaks, the oldest first.
use Rattle.std.proofs.Common.{◌≡◌, ℕ, ◌+◌, ◌≤◌, List, [], ◌∷◌, ◌++◌, map, refl, sym, ◌∙◌, subst, append-nil, append_assoc}
use Rattle.std.specs.List.{AllByRecursion}
use Rattle.merkle_base.specs.Forest.{forest}
use Rattle.merkle_base.specs.Places.{peaks_of}
use Rattle.merkle_base.specs.Tree.{Tree, position, first_leaf, end_leaf, width, IsBuilt}
use Rattle.merkle_base.proofs.Growth.{built_at}
use Rattle.merkle_base.proofs.Lists.{cons_head, cons_tail}
use Rattle.merkle_base.proofs.Nodes.{node_stays}
use Rattle.merkle_base.proofs.PeakLists.{Spans, spans_append, peaks_spans, peaks_built}
use Rattle.merkle_hasher.specs.declared.subtree.Subtree.{Subtree}
use Rattle.merkle_hasher.specs.Subtrees.{Denotes, subtree_of}

-- of the peaks of n leaves the last ones are left; P holds of the location where these begin, of the peaks before them, and of these
pub record Walked {F : Type 0} (rule : List ℕ → List ℕ) (n : ℕ) (left : List (Subtree F)) (P : ℕ → List Tree → List Tree → Type 0) : Type 0 where
  pub begin : ℕ
  pub done : List Tree
  pub rest : List Tree
  pub all : peaks_of rule n ≡ done ++ rest
  pub left_is : left ≡ map subtree_of rest
  pub before : Spans 0 begin done
  pub after : Spans begin n rest
  pub built : AllByRecursion (IsBuilt (forest rule n).nodes) rest
  pub holds : P begin done rest

-- the first of these is the node `tree`, of which more are left
pub record Next {F : Type 0} (rule : List ℕ → List ℕ) (m n : ℕ) (peak : Subtree F) (more : List (Subtree F)) (P : ℕ → List Tree → List Tree → Type 0) : Type 0 where
  pub tree : Tree
  pub done : List Tree
  pub rest : List Tree
  pub denotes : Denotes rule m peak tree
  pub is : peak ≡ subtree_of tree
  pub all : peaks_of rule n ≡ done ++ tree ∷ rest
  pub more_is : more ≡ map subtree_of rest
  pub before : Spans 0 (first_leaf tree) done
  pub after : Spans (end_leaf tree) n rest
  pub here : IsBuilt (forest rule n).nodes tree
  pub built : AllByRecursion (IsBuilt (forest rule n).nodes) rest
  pub holds : P (first_leaf tree) done (tree ∷ rest)

module _ {F : Type 0} (rule : List ℕ → List ℕ) (n : ℕ) where
  pub walk_begins : (left : List (Subtree F)) (P : ℕ → List Tree → List Tree → Type 0) → left ≡ map subtree_of (peaks_of rule n) → P 0 [] (peaks_of rule n) → Walked rule n left P
  walk_begins left P e h = record {
    begin = 0;
    done = [];
    rest = peaks_of rule n;
    all = refl;
    left_is = e;
    before = refl;
    after = peaks_spans rule n;
    built = peaks_built rule n;
    holds = h;
  }

  -- the next peak
  pub next_peak : (m : ℕ) → n ≤ m → (left : List (Subtree F)) (P : ℕ → List Tree → List Tree → Type 0) → Walked rule n left P
      → (peak : Subtree F) (more : List (Subtree F)) → left ≡ peak ∷ more → Next rule m n peak more P
  next_peak m l left P w peak more e = step w.rest w.all (sym e ∙ w.left_is) w.after w.built w.holds
    where
      step : (rest : List Tree) → peaks_of rule n ≡ w.done ++ rest → peak ∷ more ≡ map subtree_of rest → Spans w.begin n rest
          → AllByRecursion (IsBuilt (forest rule n).nodes) rest → P w.begin w.done rest → Next rule m n peak more P
      step [] all is after built holds = absurd (cc)
      step (t ∷ ts) all is after built holds =
          let one : peak ≡ subtree_of t = cons_head peak (subtree_of t) more (map subtree_of ts) is in
          let there : Denotes rule m (subtree_of {F = F} t) t = record { at = node_stays rule n m (position t) t l (built_at (forest rule n).nodes t built.0); height_is = refl; first_is = refl } in
          record {
            tree = t;
            done = w.done;
            rest = ts;
            denotes = subst (λ (s : Subtree F). Denotes rule m s t) (sym one) there;
            is = one;
            all = all;
            more_is = cons_tail peak (subtree_of t) more (map subtree_of ts) is;
            before = subst (λ (o : ℕ). Spans 0 o w.done) (sym after.0) w.before;
            after = subst (λ (o : ℕ). Spans (o + width t) n ts) (sym after.0) after.1;
            here = built.0;
            built = built.1;
            holds = subst (λ (o : ℕ). P o w.done (t ∷ ts)) (sym after.0) holds;
          }

  -- on to the peaks after it
  pub walk_on : (m : ℕ) (peak : Subtree F) (more : List (Subtree F)) (P Q : ℕ → List Tree → List Tree → Type 0) → (w : Next rule m n peak more P)
      → Q (end_leaf w.tree) (w.done ++ w.tree ∷ []) w.rest → Walked rule n more Q
  walk_on m peak more P Q w h = record {
    begin = end_leaf w.tree;
    done = w.done ++ w.tree ∷ [];
    rest = w.rest;
    all = w.all ∙ sym (append_assoc w.done (w.tree ∷ []) w.rest);
    left_is = w.more_is;
    before = spans_append 0 (first_leaf w.tree) (end_leaf w.tree) w.done (w.tree ∷ []) w.before (refl, refl);
    after = w.after;
    built = w.built;
    holds = h;
  }

  pub walk_ends : (left : List (Subtree F)) (P : ℕ → List Tree → List Tree → Type 0) → Walked rule n left P → left ≡ [] → P n (peaks_of rule n) []
  walk_ends left P w e = step w.rest w.all (sym e ∙ w.left_is) w.after w.holds
    where
      step : (rest : List Tree) → peaks_of rule n ≡ w.done ++ rest → [] ≡ map (subtree_of {F = F}) rest → Spans w.begin n rest → P w.begin w.done rest → P n (peaks_of rule n) []
      step [] all is after holds =
          subst (λ ts. P n ts []) (sym (all ∙ append-nil w.done)) (subst (λ (o : ℕ). P o w.done []) after holds)
      step (t ∷ ts) all is after holds = absurd (cc)
