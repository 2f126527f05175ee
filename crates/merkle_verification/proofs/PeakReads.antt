-- What is read at the positions of the peaks, and why nothing is.
use Rattle.std.proofs.Common.{◌≡◌, ℕ, zero, suc, ◌+◌, ◌<◌, ◌≤◌, List, [], ◌∷◌, ◌++◌, length, length-take, map, take, drop, set, Option, Some, None, Ok, Err}
use Rattle.std.proofs.Common.{slice_get, arith, refl, ap, ap₂, sym, ◌∙◌, subst, inl, inr}
use Rattle.std.specs.Prelude.{is_some}
use Rattle.std.specs.List.{AllByRecursion}
use Rattle.std.proofs.lemmas.List.{length-map, map-append, take_more_set}
use Rattle.merkle_base.specs.Tree.{Tree, position, IsBuilt}
use Rattle.merkle_base.specs.Digests.{digest_at, peak_digests}
use Rattle.merkle_base.specs.Forest.{forest}
use Rattle.merkle_base.specs.Hashing.{Hashing}
use Rattle.merkle_base.specs.Places.{peaks_of, peak_positions}
use Rattle.merkle_base.specs.Shows.{Shows}
use Rattle.merkle_base.specs.declared.error.Error.{Error}
use Rattle.merkle_base.specs.declared.error.Error.TheVariants.{ElementPruned}
use Rattle.merkle_base.proofs.Growth.{built_at}
use Rattle.merkle_base.proofs.Lists.{cons_head, cons_tail, one_there}
use Rattle.merkle_base.proofs.PeakLists.{peaks_built}
use Rattle.merkle_batch_theory.proofs.ShownLists.{taken}
use Rattle.merkle_batch_theory.proofs.Steps.{node_digest_at}
use Rattle.merkle_proof.specs.RangePlans.{AreAnswered, IsFirstMissing}
use Rattle.merkle_verification.specs.HistoricalRoots.{IsRootRefusal, RefusesRoot}
use Rattle.merkle_verification.specs.ReaderRefusals.{AreNodesHeld, IsReadRefusal}
use Rattle.merkle_verification.proofs.HeldReads.{read_held}
use Rattle.merkle_verification.proofs.ListedReads.{all_answered}

module _ {D : Type 0} (node : ℕ → Option D) where
  -- one more of the positions is read
  pub one_read : (ps : List ℕ) (n : ℕ) (ds : List D) (p : ℕ) (after : List ℕ) (d : D) → drop n ps ≡ p ∷ after → n < length ds → Some d ≡ node p
      → map Some (take n ds) ≡ map node (take n ps)
      → (drop (n + 1) ps ≡ after) × (map Some (take (n + 1) (set ds n d)) ≡ map node (take (n + 1) ps))
  one_read ps n ds p after d left room is read =
      let k = next_of ps n p after left in
      let next : n + 1 ≡ suc n = omega arith in (
        ap (λ j. drop j ps) next ∙ k.0,
        ap (map Some) (take_more_set ds n d room)
            ∙ map-append Some (take n ds) (d ∷ [])
            ∙ ap₂ (λ xs x. xs ++ x ∷ []) read is
            ∙ sym (map-append node (take n ps) (p ∷ []))
            ∙ ap (map node) (sym k.1 ∙ ap (λ j. take j ps) (sym next)),
      )
    where
      next_of : (qs : List ℕ) (m : ℕ) (q : ℕ) (rest : List ℕ) → drop m qs ≡ q ∷ rest → (drop (suc m) qs ≡ rest) × (take (suc m) qs ≡ take m qs ++ q ∷ [])
      next_of [] zero q rest e = absurd (cc)
      next_of [] (suc m) q rest e = absurd (cc)
      next_of (x ∷ qs) zero q rest e = (cons_tail _ _ _ _ e, ap (λ (y : ℕ). y ∷ []) (cons_head _ _ _ _ e))
      next_of (x ∷ qs) (suc m) q rest e = let k = next_of qs m q rest e in (k.0, ap (λ (ys : List ℕ). x ∷ ys) k.1)

  -- all that was read is held
  pub all_held : (ps : List ℕ) (ds : List D) → map Some ds ≡ map node ps → AreNodesHeld node ps
  all_held [] ds e = tt
  all_held (p ∷ ps) [] e = absurd (cc)
  all_held (p ∷ ps) (d ∷ ds) e = (ap is_some (sym (cons_head _ _ _ _ e)), all_held ps ds (cons_tail _ _ _ _ e))

  -- the first position at which nothing is held
  pub missing_here : (ps : List ℕ) (n : ℕ) (ds : List D) (p : ℕ) (after : List ℕ) → drop n ps ≡ p ∷ after → None ≡ node p
      → map Some (take n ds) ≡ map node (take n ps) → IsFirstMissing (λ q o. o ≡ node q) ps p
  missing_here ps n ds p after left none read = record {
    before = take n ps;
    after = after;
    digests = take n ds;
    split = parted ps n ∙ ap (λ l. take n ps ++ l) left;
    read = all_answered node (take n ps) (take n ds) read;
    missing = none;
  }
    where
      parted : (qs : List ℕ) (m : ℕ) → qs ≡ take m qs ++ drop m qs
      parted qs zero = refl
      parted [] (suc m) = refl
      parted (q ∷ qs) (suc m) = ap (λ (l : List ℕ). q ∷ l) (parted qs m)

  one_missing : (before later : List ℕ) (p q : ℕ) (xs ys : List ℕ) (ds es : List D) → before ++ p ∷ xs ≡ later ++ q ∷ ys
      → AreAnswered (λ r o. o ≡ node r) before ds → AreAnswered (λ r o. o ≡ node r) later es → None ≡ node p → None ≡ node q → p ≡ q
  one_missing [] [] p q xs ys ds es e a b m n = cons_head _ _ _ _ e
  one_missing [] (l ∷ later) p q xs ys ds [] e a b m n = absurd b
  one_missing [] (l ∷ later) p q xs ys ds (y ∷ es) e a b m n =
      let clash : None ≡ Some y = m ∙ ap node (cons_head _ _ _ _ e) ∙ sym b.0 in absurd (cc)
  one_missing (l ∷ before) [] p q xs ys [] es e a b m n = absurd a
  one_missing (l ∷ before) [] p q xs ys (x ∷ ds) es e a b m n =
      let clash : None ≡ Some x = n ∙ ap node (sym (cons_head _ _ _ _ e)) ∙ sym a.0 in absurd (cc)
  one_missing (l ∷ before) (k ∷ later) p q xs ys [] es e a b m n = absurd a
  one_missing (l ∷ before) (k ∷ later) p q xs ys (x ∷ ds) [] e a b m n = absurd b
  one_missing (l ∷ before) (k ∷ later) p q xs ys (x ∷ ds) (y ∷ es) e a b m n =
      one_missing before later p q xs ys ds es (cons_tail _ _ _ _ e) a.1 b.1 m n

  -- there is one first such position
  pub first_missing_once : (ps : List ℕ) (p q : ℕ) → IsFirstMissing (λ r o. o ≡ node r) ps p → IsFirstMissing (λ r o. o ≡ node r) ps q → p ≡ q
  first_missing_once ps p q v w =
      one_missing v.before w.before p q v.after w.after v.digests w.digests (sym v.split ∙ w.split) v.read w.read v.missing w.missing

  -- reads at positions are refused with one error
  pub read_refused_once : {F : Type 0} (rule : List ℕ → List ℕ) (n k : ℕ) (ps : List ℕ) (e f : Error F) → IsReadRefusal rule n k node ps e → IsReadRefusal rule n k node ps f → e ≡ f
  read_refused_once rule n k ps e f (inl a) (inl b) = a.1 ∙ sym b.1
  read_refused_once rule n k ps e f (inl a) (inr b) = absurd (omega (arith, a.0, b.0))
  read_refused_once rule n k ps e f (inr a) (inl b) = absurd (omega (arith, a.0, b.0))
  read_refused_once rule n k ps e f (inr a) (inr b) =
      a.1.1 ∙ ap (λ (p : ℕ). ElementPruned p) (first_missing_once ps a.1.0 b.1.0 a.1.2 b.1.2) ∙ sym b.1.1

  -- and so is the root of an older state
  pub root_refused_once : {F : Type 0} (rule : List ℕ → List ℕ) (max_leaves n k : ℕ) (e f : Error F) → IsRootRefusal rule max_leaves n k node e → IsRootRefusal rule max_leaves n k node f → e ≡ f
  root_refused_once rule max_leaves n k e f (inl a) (inl b) = a.1 ∙ sym b.1
  root_refused_once rule max_leaves n k e f (inl a) (inr b) = absurd (omega (arith, a.0, b.0))
  root_refused_once rule max_leaves n k e f (inr a) (inl b) = absurd (omega (arith, a.0, b.0))
  root_refused_once rule max_leaves n k e f (inr a) (inr b) = read_refused_once rule n k (peak_positions rule n) e f a.1 b.1

  -- as many digests are read as there are peaks
  pub as_many : (rule : List ℕ → List ℕ) (n : ℕ) (ds : List D) → map Some ds ≡ map node (peak_positions rule n) → length ds ≡ length (peaks_of rule n)
  as_many rule n ds read =
      sym (length-map ds Some) ∙ ap length read ∙ length-map (peak_positions rule n) node ∙ length-map (peaks_of rule n) position

  -- where each peak is held, the root of an older state isn't refused
  pub root_held : {F : Type 0} (rule : List ℕ → List ℕ) (max_leaves n k : ℕ) → n ≤ max_leaves → k ≤ length (peaks_of rule n)
      → AreNodesHeld node (peak_positions rule n) → (e : Error F) → IsRootRefusal rule max_leaves n k node e → ⊥
  root_held rule max_leaves n k le few held e (inl x) = absurd (omega (arith, le, x.0))
  root_held rule max_leaves n k le few held e (inr x) = read_held rule n k node (peak_positions rule n) few held e x.1

  -- an answered root is refused with no error, and a refused one with one
  pub answered_root : {F T : Type 0} (rule : List ℕ → List ℕ) (max_leaves n k : ℕ) (root : T) → n ≤ max_leaves → k ≤ length (peaks_of rule n) → AreNodesHeld node (peak_positions rule n)
      → RefusesRoot {F = F} rule max_leaves n k node (Ok root)
  answered_root rule max_leaves n k root le few held e = (λ is. absurd (cc), λ refused. absurd (root_held rule max_leaves n k le few held e refused))

  pub refused_root : {F T : Type 0} (rule : List ℕ → List ℕ) (max_leaves n k : ℕ) (e : Error F) → IsRootRefusal rule max_leaves n k node e → RefusesRoot {T = T} rule max_leaves n k node (Err e)
  refused_root rule max_leaves n k e refused f =
      (λ is. let same : e ≡ f = cc in subst (IsRootRefusal rule max_leaves n k node) same refused, λ other. ap Err (root_refused_once rule max_leaves n k e f refused other))

module _ {D : Type 0} (h : Hashing D) (rule : List ℕ → List ℕ) (m : ℕ) (node : ℕ → Option D) (X : List D) (shows : Shows h rule m node X) (n : ℕ) (within : n ≤ length X) where
  shown_at : (t : Tree) (d : D) → slice_get (forest rule n).nodes (position t) ≡ Some t → node (position t) ≡ Some d → d ≡ digest_at h (take n X) t
  shown_at t d at found =
      let long : length (take n X) ≡ n = omega (arith, within, length-take n X) in
      let there = subst (λ l. slice_get (forest rule l).nodes (position t) ≡ Some t) (sym long) at in
      one_there (shows.right (position t) d found) (sym (taken h rule X n (position t) t within at) ∙ node_digest_at h rule (take n X) (position t) t there)

  shown_all : (ts : List Tree) (ds : List D) → AllByRecursion (IsBuilt (forest rule n).nodes) ts → map Some ds ≡ map node (map position ts) → ds ≡ map (digest_at h (take n X)) ts
  shown_all [] [] built e = refl
  shown_all [] (d ∷ ds) built e = absurd (cc)
  shown_all (t ∷ ts) [] built e = absurd (cc)
  shown_all (t ∷ ts) (d ∷ ds) built e =
      ap₂ (λ (x : D) (xs : List D). x ∷ xs) (shown_at t d (built_at (forest rule n).nodes t built.0) (sym (cons_head _ _ _ _ e))) (shown_all ts ds built.1 (cons_tail _ _ _ _ e))

  -- what is read at the peaks of n leaves are the peak digests of the first n entries
  pub peaks_shown : (ds : List D) → map Some ds ≡ map node (peak_positions rule n) → ds ≡ peak_digests h rule (take n X)
  peaks_shown ds read =
      let long : length (take n X) ≡ n = omega (arith, within, length-take n X) in
      shown_all (peaks_of rule n) ds (peaks_built rule n) read ∙ ap (λ l. map (digest_at h (take n X)) (peaks_of rule l)) (sym long)
