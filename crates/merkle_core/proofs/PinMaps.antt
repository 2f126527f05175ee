-- Pins by position: a map read as the list that it was made from.
use Rattle.std.proofs.Common.{◌≡◌, ℕ, zero, suc, ◌+◌, ◌<◌, ◌≤◌, List, [], ◌∷◌, ◌++◌, length, map, drop, Bool, true, false, Option, Some, None, cond, arith, refl, sym, ap, ◌∙◌, subst, nat_eq, get_or}
use Rattle.std.specs.Prelude.{slice_get, is_some}
use Rattle.std.specs.BTreeMap.{is_at}
use Rattle.std.specs.Cmp.{nat_cmp_total, unsigned_tied}
use Rattle.std.specs.FinMap.{FinMap, same_map, nat_cmp-IsAntisymmetric}
use Rattle.std.specs.List.{list_any, zip}
use Rattle.std.specs.Map.{lookup}
use Rattle.std.specs.Option.{option_or}
use Rattle.std.specs.Ordering.{nat_cmp}
use Rattle.std.proofs.lemmas.Bool.{eq-eqb, eqb-true, false≢true, or_left, or_right}
use Rattle.merkle_base.specs.Tree.{Tree, position, first_leaf, width}
use Rattle.merkle_base.specs.Forest.{forest, size}
use Rattle.merkle_base.specs.Places.{peaks_of, peak_positions}
use Rattle.merkle_base.proofs.Cases.{by_test}
use Rattle.merkle_base.proofs.Lookup.{peak_node}
use Rattle.merkle_base.proofs.Nodes.{width_pos}
use Rattle.merkle_base.proofs.PeakLists.{Spans, peaks_spans}
use Rattle.merkle_batch_theory.specs.Contents.{Contents}
use Rattle.merkle_batch_theory.specs.HeldPeaks.{pins_of}
use Rattle.merkle_batch_theory.specs.MemModel.{stored_of}
use Rattle.merkle_batch_theory.proofs.Kept.{get_mapped}
use Rattle.merkle_base.proofs.Reversed.{get_reversed}
use Rattle.merkle_batch_theory.proofs.ListFacts.{any_find}
use Rattle.merkle_batch_theory.proofs.MapFacts.{eqb_comm}
use Rattle.merkle_batch_theory.proofs.OptionFacts.{or_nothing}
use Rattle.merkle_batch_theory.proofs.Stored.{numbered, held, lookup_at}

-- ---- one entry is put in
pub lookup_put_in : {D : Type 0} (es fs : List (ℕ × D)) (k : ℕ) (d : D) → ((q : ℕ) → lookup (is_at (nat_cmp q)) fs ≡ cond (is_at (nat_cmp k) q) (Some d) (lookup (is_at (nat_cmp q)) es))
    → (p : ℕ) → lookup (nat_eq p) fs ≡ cond (nat_eq p k) (Some d) (lookup (nat_eq p) es)
lookup_put_in es fs k d e p = sym (lookup_at p fs) ∙ e p ∙ (λ i. cond ((unsigned_tied k p ∙ eqb_comm k p) i) (Some d) (lookup_at p es i))

-- ---- the same is found in both
pub same_stored : {D : Type 0} (es fs : List (ℕ × D)) (start : ℕ) (nodes : List D) → ((p : ℕ) → lookup (nat_eq p) es ≡ lookup (nat_eq p) fs) → stored_of es start nodes ≡ stored_of fs start nodes
same_stored es fs start nodes e = same_map nat_cmp_total nat_cmp-IsAntisymmetric (stored_of es start nodes) (stored_of fs start nodes)
    (λ q. held es start nodes q ∙ ap (λ o. option_or o (lookup (nat_eq q) (numbered start nodes))) (e q) ∙ sym (held fs start nodes q))

pub stored_made : {D : Type 0} (rule : List ℕ → List ℕ) (b start : ℕ) (pins nodes : List D) (es : List (ℕ × D)) (stored : FinMap nat_cmp D)
    → ((p : ℕ) → lookup (nat_eq p) es ≡ lookup (nat_eq p) (zip (peak_positions rule b) pins))
    → start ≡ size rule b → stored ≡ stored_of es start nodes → stored ≡ stored_of (zip (peak_positions rule b) pins) (size rule b) nodes
stored_made rule b start pins nodes es stored made starts is = is ∙ same_stored es (zip (peak_positions rule b) pins) start nodes made
    ∙ ap (λ (n : ℕ). stored_of (zip (peak_positions rule b) pins) n nodes) starts

-- ---- what is held at positions is put in, one by one
module _ {D : Type 0} (c : Contents D) (p : ℕ) where
  pin_over : (d : D) → c.node p ≡ Some d → (ps : List ℕ) → option_or (lookup (nat_eq p) (pins_of c ps)) (Some d) ≡ Some d
  pin_over d e [] = refl
  pin_over d e (q ∷ ps) = one (c.node q) refl (pin_over d e ps)
    where
      one : (o : Option D) → c.node q ≡ o → option_or (lookup (nat_eq p) (pins_of c ps)) (Some d) ≡ Some d
          → option_or (lookup (nat_eq p) (elim o as (λ _. List (ℕ × D)) [ Some x ↦ (q, x) ∷ [] | None ↦ [] ] ++ pins_of c ps)) (Some d) ≡ Some d
      one None is more = more
      one (Some x) is more = by_test (λ b. option_or (cond b (Some x) (lookup (nat_eq p) (pins_of c ps))) (Some d) ≡ Some d) (nat_eq p q)
          (λ t. sym is ∙ ap c.node (sym (eqb-true p q t)) ∙ e)
          (λ t. more)

  pub pin_none : (q : ℕ) (ps : List ℕ) → c.node q ≡ None → pins_of c (q ∷ ps) ≡ pins_of c ps
  pin_none q ps e = ap (λ (o : Option D). elim o as (λ _. List (ℕ × D)) [ Some x ↦ (q, x) ∷ [] | None ↦ [] ] ++ pins_of c ps) e

  pub pin_some : (q : ℕ) (d : D) (ps : List ℕ) (es fs : List (ℕ × D)) → c.node q ≡ Some d → lookup (nat_eq p) fs ≡ cond (nat_eq p q) (Some d) (lookup (nat_eq p) es)
      → option_or (lookup (nat_eq p) (pins_of c ps)) (lookup (nat_eq p) fs) ≡ option_or (lookup (nat_eq p) (pins_of c (q ∷ ps))) (lookup (nat_eq p) es)
  pin_some q d ps es fs e put =
      ap (option_or (lookup (nat_eq p) (pins_of c ps))) put
      ∙ by_test (λ b. option_or (lookup (nat_eq p) (pins_of c ps)) (cond b (Some d) (lookup (nat_eq p) es))
      ≡ option_or (cond b (Some d) (lookup (nat_eq p) (pins_of c ps))) (lookup (nat_eq p) es)) (nat_eq p q)
      (λ t. pin_over d (ap c.node (eqb-true p q t) ∙ e) ps)
      (λ t. refl)
      ∙ sym (ap (λ (o : Option D). option_or (lookup (nat_eq p) (elim o as (λ _. List (ℕ × D)) [ Some x ↦ (q, x) ∷ [] | None ↦ [] ] ++ pins_of c ps)) (lookup (nat_eq p) es)) e)

-- ---- positions that differ
pub Apart : List ℕ → Type 0
Apart [] = Unit {0}
Apart (q ∷ qs) = (list_any (nat_eq q) qs ≡ false) × Apart qs

not_true : (b : Bool) → (b ≡ true → ⊥) → b ≡ false
not_true true h = absurd (h refl)
not_true false h = refl

any_first : (q : ℕ) (qs : List ℕ) → list_any (nat_eq q) (q ∷ qs) ≡ true
any_first q qs = or_left (nat_eq q q) (list_any (nat_eq q) qs) (eq-eqb q q refl)

later_first : (o n : ℕ) (ts : List Tree) → Spans o n ts → (i : ℕ) (u : Tree) → slice_get ts i ≡ Some u → o ≤ first_leaf u
later_first o n [] s i u e = absurd (cc)
later_first o n (t ∷ ts) s zero u e = (let c : t ≡ u = cc in omega (arith, s.0, ap first_leaf c))
later_first o n (t ∷ ts) s (suc i) u e = omega (arith, later_first (o + width t) n ts s.1 i u e)

apart_places : (ns : List Tree) (o n : ℕ) (ts : List Tree) → Spans o n ts → ((i : ℕ) (t : Tree) → slice_get ts i ≡ Some t → slice_get ns (position t) ≡ Some t) → Apart (map position ts)
unfolding Apart
apart_places ns o n [] s at = tt
apart_places ns o n (t ∷ ts) s at = (
  not_true (list_any (nat_eq (position t)) (map position ts)) (λ e.
      let k = any_find (nat_eq (position t)) (map position ts) e in
      let m = get_mapped position ts k.0 k.1 k.2 in
      let place : position t ≡ position m.0 = eqb-true (position t) k.1 k.3 ∙ m.2 in
      let both : Some t ≡ Some m.0 = sym (at zero t refl) ∙ ap (slice_get ns) place ∙ at (suc k.0) m.0 m.1 in
      let same : t ≡ m.0 = cc in
      absurd (omega (arith, s.0, ap first_leaf same, width_pos t, later_first (o + width t) n ts s.1 k.0 m.0 m.1))),
  apart_places ns (o + width t) n ts s.1 (λ i u e. at (suc i) u e),
)

-- the positions of the peaks differ
pub peaks_apart : (rule : List ℕ → List ℕ) (b : ℕ) → Apart (peak_positions rule b)
peaks_apart rule b = apart_places (forest rule b).nodes 0 b (peaks_of rule b) (peaks_spans rule b)
    (λ i t e. let j = get_reversed (forest rule b).peaks i t e in peak_node rule b j.0 t j.1)

-- ---- digests are put in at such positions, one by one
-- the entries have the first of the digests, and the rest of the positions are new
pub record Pairing {D : Type 0} (all : List ℕ) (ds : List D) (rest : List ℕ) (es : List (ℕ × D)) : Type 0 where
  pub apart : Apart rest
  pub new : (p : ℕ) → list_any (nat_eq p) rest ≡ true → lookup (nat_eq p) es ≡ None
  pub as_many : length es + length rest ≡ length ds
  pub reads : (p : ℕ) → option_or (lookup (nat_eq p) es) (lookup (nat_eq p) (zip rest (drop (length es) ds))) ≡ lookup (nat_eq p) (zip all ds)

module _ {D : Type 0} where
  pub pairing : (all : List ℕ) (ds : List D) (es : List (ℕ × D)) → Apart all → length ds ≡ length all → es ≡ [] → Pairing all ds all es
  pairing all ds [] apart many none = record { apart = apart; new = λ p e. refl; as_many = omega (arith, many); reads = λ p. refl }
  pairing all ds (e ∷ es) apart many none = absurd (cc)

  dropped : (i : ℕ) (ds : List D) (d : D) → i < length ds → d ≡ get_or ds i d → drop i ds ≡ d ∷ drop (suc i) ds
  dropped i [] d l e = absurd (omega arith)
  dropped zero (x ∷ ds) d l e = ap (λ y. y ∷ ds) (sym e)
  dropped (suc i) (x ∷ ds) d l e = dropped i ds d (omega arith) e

  -- the next digest is put in
  module _ (all : List ℕ) (ds : List D) (q : ℕ) (qs : List ℕ) (es : List (ℕ × D)) (w : Pairing all ds (q ∷ qs) es) where
    is_new : lookup (nat_eq q) es ≡ None
    is_new = w.new q (any_first q qs)

    later : Apart (q ∷ qs) → (list_any (nat_eq q) qs ≡ false) × Apart qs
    unfolding Apart
    later h = h

    other : (p : ℕ) → list_any (nat_eq p) qs ≡ true → nat_eq p q ≡ false
    other p e = not_true (nat_eq p q) (λ t. false≢true (sym (later w.apart).0 ∙ ap (λ k. list_any (nat_eq k) qs) (sym (eqb-true p q t)) ∙ e))

    module _ (fs : List (ℕ × D)) (d : D) (here : drop (length es) ds ≡ d ∷ drop (suc (length es)) ds)
        (put : (p : ℕ) → lookup (nat_eq p) fs ≡ cond (nat_eq p q) (Some d) (lookup (nat_eq p) es)) (longer : length fs ≡ suc (length es)) where
      reads_on : (p : ℕ) → option_or (lookup (nat_eq p) fs) (lookup (nat_eq p) (zip qs (drop (length fs) ds))) ≡ lookup (nat_eq p) (zip all ds)
      reads_on p =
          let left = lookup (nat_eq p) (zip qs (drop (suc (length es)) ds)) in
          (λ i. option_or (put p i) (lookup (nat_eq p) (zip qs (drop (longer i) ds))))
          ∙ by_test (λ b. option_or (cond b (Some d) (lookup (nat_eq p) es)) left ≡ option_or (lookup (nat_eq p) es) (cond b (Some d) left)) (nat_eq p q)
          (λ t. sym (ap (λ o. option_or o (Some d)) (ap (λ k. lookup (nat_eq k) es) (eqb-true p q t) ∙ is_new)))
          (λ t. refl)
          ∙ sym (ap (λ xs. option_or (lookup (nat_eq p) es) (lookup (nat_eq p) (zip (q ∷ qs) xs))) here) ∙ w.reads p

      pub pair_on : Pairing all ds qs fs
      pair_on = record {
        apart = (later w.apart).1;
        new = λ p e. put p ∙ ap (λ b. cond b (Some d) (lookup (nat_eq p) es)) (other p e) ∙ w.new p (or_right (nat_eq p q) (list_any (nat_eq p) qs) e);
        as_many = omega (arith, w.as_many, longer);
        reads = reads_on;
      }

  one_longer : (o : Option D) (n m : ℕ) → o ≡ None → m ≡ n + cond (is_some o) 0 1 → m ≡ suc n
  one_longer None n m e l = omega (arith, l)
  one_longer (Some d) n m e l = absurd (cc)

  pub pair_next : (all : List ℕ) (ds : List D) (rest : List ℕ) (q : ℕ) (qs : List ℕ) (es fs : List (ℕ × D)) (d : D) (old : Option D)
      → Pairing all ds rest es → rest ≡ q ∷ qs → d ≡ get_or ds (length es) d
      → ((p : ℕ) → lookup (is_at (nat_cmp p)) fs ≡ cond (is_at (nat_cmp q) p) (Some d) (lookup (is_at (nat_cmp p)) es))
      → old ≡ lookup (is_at (nat_cmp q)) es → length fs ≡ length es + cond (is_some old) 0 1 → Pairing all ds qs fs
  pair_next all ds rest q qs es fs d old w r is put was len =
      let w' : Pairing all ds (q ∷ qs) es = subst (λ ps. Pairing all ds ps es) r w in
      pair_on all ds q qs es w' fs d (dropped (length es) ds d (omega (arith, w'.as_many)) is) (lookup_put_in es fs q d put)
      (one_longer old (length es) (length fs) (was ∙ lookup_at q es ∙ is_new all ds q qs es w') len)

  pub paired : (all : List ℕ) (ds : List D) (rest : List ℕ) (es : List (ℕ × D)) → Pairing all ds rest es → rest ≡ [] → (p : ℕ) → lookup (nat_eq p) es ≡ lookup (nat_eq p) (zip all ds)
  paired all ds rest es w none p =
      sym (or_nothing (lookup (nat_eq p) es)) ∙ sym (ap (λ ps. option_or (lookup (nat_eq p) es) (lookup (nat_eq p) (zip ps (drop (length es) ds)))) none) ∙ w.reads p
