-- The maximal nodes inside a chunk of leaves: the chunk's own node, or those of its two halves.
use Rattle.std.proofs.Common.{◌≡◌, ℕ, zero, suc, ◌+◌, ◌-◌, ◌*◌, ◌^◌, ◌<◌, ◌≤◌, ◌⊎◌, Bool, true, false, ◌&&◌, cond, nat_le, List, [], ◌∷◌, ◌++◌, map, reverse}
use Rattle.std.proofs.Common.{flat_map, append_assoc, append-nil, Some, slice_get, arith, refl, sym, ap, inl, inr, ◌∙◌, subst, pow-suc, pow_pos, pow_mono}
use Rattle.std.proofs.Common.{le-leb}
use Rattle.std.specs.List.{AllByRecursion}
use Rattle.std.proofs.Math.Bool.{and-false}
use Rattle.std.proofs.Math.Nat.{mul-le-mul_right}
use Rattle.std.proofs.lemmas.Bool.{lt-leb, cases_lt}
use Rattle.std.proofs.lemmas.Bool.Decides.{leb_tells}
use Rattle.std.proofs.lemmas.List.{map-append, reverse-append}
use Rattle.std.proofs.lemmas.Nat.{pow-add}
use Rattle.merkle_base.specs.Tree.{Tree, leaf, join, position, height, first_leaf, width, end_leaf, IsUnder, IsBuilt}
use Rattle.merkle_base.specs.Forest.{forest, size, IsUnderOne}
use Rattle.merkle_base.specs.Heights.{MergesEqual}
use Rattle.merkle_base.specs.Places.{placed, peaks_of}
use Rattle.merkle_base.specs.Grafting.{is_inside, maximal_inside, nodes_inside, stretch_nodes, IsNode, IsBirthSize, AreCoordinates}
use Rattle.merkle_base.proofs.Growth.{forest_grown, built_at, under_itself}
use Rattle.merkle_base.proofs.Nodes.{width_pos, first_under, end_under, built_under}
use Rattle.merkle_base.proofs.Balance.{balanced_count, node_balanced}
use Rattle.merkle_base.proofs.Limits.{log_below}
use Rattle.merkle_base.proofs.Lists.{get_below}
use Rattle.merkle_base.proofs.PeakLists.{Spans, spans_end, peaks_spans, peaks_built}

-- ---- whether a tree lies inside
inside_yes : (a b : ℕ) (t : Tree) → a ≤ first_leaf t → end_leaf t ≤ b → is_inside a b t ≡ true
inside_yes a b t l r = ap (λ (x : Bool). x && nat_le (end_leaf t) b) (le-leb a (first_leaf t) l) ∙ le-leb (end_leaf t) b r

inside_no : (a b : ℕ) (t : Tree) → (first_leaf t < a) ⊎ (b < end_leaf t) → is_inside a b t ≡ false
inside_no a b t h = elim h [
  | inl l ↦ ap (λ (x : Bool). x && nat_le (end_leaf t) b) (lt-leb a (first_leaf t) l)
  | inr r ↦ ap (λ (x : Bool). nat_le a (first_leaf t) && x) (lt-leb (end_leaf t) b r) ∙ and-false (nat_le a (first_leaf t))
]

maximal_whole : (a b : ℕ) (t : Tree) → a ≤ first_leaf t → end_leaf t ≤ b → maximal_inside a b t ≡ t ∷ []
maximal_whole a b (leaf p n) l r = ap (λ (x : Bool). cond x (leaf p n ∷ []) []) (inside_yes a b (leaf p n) l r)
maximal_whole a b (join p x y) l r = ap (λ (z : Bool). cond z (join p x y ∷ []) (maximal_inside a b x ++ maximal_inside a b y)) (inside_yes a b (join p x y) l r)

maximal_leaf : (a b p n : ℕ) → (n < a) ⊎ (b < n + 1) → maximal_inside a b (leaf p n) ≡ []
maximal_leaf a b p n h = ap (λ (x : Bool). cond x (leaf p n ∷ []) []) (inside_no a b (leaf p n) h)

maximal_join : (a b p : ℕ) (x y : Tree) → (first_leaf (join p x y) < a) ⊎ (b < end_leaf (join p x y)) → maximal_inside a b (join p x y) ≡ maximal_inside a b x ++ maximal_inside a b y
maximal_join a b p x y h = ap (λ (z : Bool). cond z (join p x y ∷ []) (maximal_inside a b x ++ maximal_inside a b y)) (inside_no a b (join p x y) h)

-- none where a tree ends before the chunk, or begins after it
maximal_before : (ns : List Tree) (a b : ℕ) (t : Tree) → IsBuilt ns t → end_leaf t ≤ a → maximal_inside a b t ≡ []
maximal_before ns a b (leaf p n) h l = maximal_leaf a b p n (inl (omega arith))
maximal_before ns a b (join p x y) h l =
    maximal_join a b p x y (inl (omega (arith, width_pos x)))
    ∙ ap (λ (ts : List Tree). ts ++ maximal_inside a b y) (maximal_before ns a b x h.4 (omega arith)) ∙ maximal_before ns a b y h.5 (omega (arith, h.3))

maximal_after : (ns : List Tree) (a b : ℕ) (t : Tree) → IsBuilt ns t → b ≤ first_leaf t → maximal_inside a b t ≡ []
maximal_after ns a b (leaf p n) h l = maximal_leaf a b p n (inr (omega arith))
maximal_after ns a b (join p x y) h l =
    maximal_join a b p x y (inr (omega (arith, width_pos x)))
    ∙ ap (λ (ts : List Tree). ts ++ maximal_inside a b y) (maximal_after ns a b x h.4 l) ∙ maximal_after ns a b y h.5 (omega (arith, h.3))

-- ---- a node's own leaves
maximal_under : (ns : List Tree) (u t : Tree) → IsUnder u t → IsBuilt ns t → maximal_inside (first_leaf u) (end_leaf u) t ≡ u ∷ []
maximal_under ns u (leaf p n) e h =
    subst (λ (v : Tree). maximal_inside (first_leaf v) (end_leaf v) (leaf p n) ≡ v ∷ []) (sym e) (maximal_whole n (n + 1) (leaf p n) (omega arith) (omega arith))
maximal_under ns u (join p x y) e h = elim e [
  | inl same ↦
      subst (λ (v : Tree). maximal_inside (first_leaf v) (end_leaf v) (join p x y) ≡ v ∷ []) (sym same)
      (maximal_whole (first_leaf x) (end_leaf (join p x y)) (join p x y) (omega arith) (omega arith))
  | inr below ↦ elim below [
    | inl w ↦ (let end : end_leaf u ≤ end_leaf x = end_under ns u x w h.4 in
        maximal_join (first_leaf u) (end_leaf u) p x y (inr (omega (arith, end, width_pos y)))
        ∙ ap (λ (ts : List Tree). ts ++ maximal_inside (first_leaf u) (end_leaf u) y) (maximal_under ns u x w h.4)
        ∙ ap (λ (ts : List Tree). u ∷ ts) (maximal_after ns (first_leaf u) (end_leaf u) y h.5 (omega (arith, end, h.3))))
    | inr w ↦ (let start : first_leaf y ≤ first_leaf u = first_under ns u y w h.5 in
        maximal_join (first_leaf u) (end_leaf u) p x y (inl (omega (arith, start, h.3, width_pos x)))
        ∙ ap (λ (ts : List Tree). ts ++ maximal_inside (first_leaf u) (end_leaf u) y) (maximal_before ns (first_leaf u) (end_leaf u) x h.4 (omega (arith, start, h.3)))
        ∙ maximal_under ns u y w h.5)
  ]
]

-- ---- trees from left to right
flat_before : (ns : List Tree) (a b o n : ℕ) (ts : List Tree) → Spans o n ts → AllByRecursion (IsBuilt ns) ts → n ≤ a → flat_map (maximal_inside a b) ts ≡ []
flat_before ns a b o n [] c h l = refl
flat_before ns a b o n (t ∷ ts) c h l =
    ap (λ (us : List Tree). us ++ flat_map (maximal_inside a b) ts) (maximal_before ns a b t h.0 (omega (arith, c.0, spans_end (o + width t) n ts c.1)))
    ∙ flat_before ns a b (o + width t) n ts c.1 h.1 l

flat_after : (ns : List Tree) (a b o n : ℕ) (ts : List Tree) → Spans o n ts → AllByRecursion (IsBuilt ns) ts → b ≤ o → flat_map (maximal_inside a b) ts ≡ []
flat_after ns a b o n [] c h l = refl
flat_after ns a b o n (t ∷ ts) c h l =
    ap (λ (us : List Tree). us ++ flat_map (maximal_inside a b) ts) (maximal_after ns a b t h.0 (omega (arith, c.0)))
    ∙ flat_after ns a b (o + width t) n ts c.1 h.1 (omega arith)

spans_first : (ns : List Tree) (u : Tree) (o n : ℕ) (ts : List Tree) → Spans o n ts → AllByRecursion (IsBuilt ns) ts → IsUnderOne u ts → o ≤ first_leaf u
spans_first ns u o n [] c h e = absurd e
spans_first ns u o n (t ∷ ts) c h e = elim e [ inl w ↦ omega (arith, c.0, first_under ns u t w h.0) | inr w ↦ omega (arith, spans_first ns u (o + width t) n ts c.1 h.1 w) ]

flat_under : (ns : List Tree) (u : Tree) (o n : ℕ) (ts : List Tree) → Spans o n ts → AllByRecursion (IsBuilt ns) ts → IsUnderOne u ts
    → flat_map (maximal_inside (first_leaf u) (end_leaf u)) ts ≡ u ∷ []
flat_under ns u o n [] c h e = absurd e
flat_under ns u o n (t ∷ ts) c h e = elim e [
  | inl w ↦
      ap (λ (us : List Tree). us ++ flat_map (maximal_inside (first_leaf u) (end_leaf u)) ts) (maximal_under ns u t w h.0)
      ∙ ap (λ (us : List Tree). u ∷ us) (flat_after ns (first_leaf u) (end_leaf u) (o + width t) n ts c.1 h.1 (omega (arith, c.0, end_under ns u t w h.0)))
  | inr w ↦
      ap (λ (us : List Tree). us ++ flat_map (maximal_inside (first_leaf u) (end_leaf u)) ts)
      (maximal_before ns (first_leaf u) (end_leaf u) t h.0 (omega (arith, c.0, spans_first ns u (o + width t) n ts c.1 h.1 w)))
      ∙ flat_under ns u (o + width t) n ts c.1 h.1 w
]

under_left : (u : Tree) (xs ys : List Tree) → IsUnderOne u xs → IsUnderOne u (xs ++ ys)
under_left u [] ys h = absurd h
under_left u (x ∷ xs) ys h = elim h [ inl w ↦ inl w | inr w ↦ inr (under_left u xs ys w) ]

under_right : (u : Tree) (xs ys : List Tree) → IsUnderOne u ys → IsUnderOne u (xs ++ ys)
under_right u [] ys h = h
under_right u (x ∷ xs) ys h = inr (under_right u xs ys h)

under_reverse : (u : Tree) (ts : List Tree) → IsUnderOne u ts → IsUnderOne u (reverse ts)
under_reverse u [] h = h
under_reverse u (t ∷ ts) h = subst (IsUnderOne u) (sym (reverse-append (t ∷ []) ts)) (elim h [
  | inl w ↦ under_right u (reverse ts) (t ∷ []) (inl w)
  | inr w ↦ under_left u (reverse ts) (t ∷ []) (under_reverse u ts w)
])

-- over the leaves of a node stands that node alone
pub nodes_inside_own : (rule : List ℕ → List ℕ) (n p : ℕ) (t : Tree) → slice_get (forest rule n).nodes p ≡ Some t → nodes_inside rule n (first_leaf t) (end_leaf t) ≡ t ∷ []
nodes_inside_own rule n p t e =
    flat_under (forest rule n).nodes t 0 n (peaks_of rule n) (peaks_spans rule n) (peaks_built rule n) (under_reverse t (forest rule n).peaks ((forest_grown rule n).under p t e))

-- ---- where no node crosses a seam
-- no node under t that lies in a..c has leaves on both sides of b
abbrev pub KeepsSeam : (a b c : ℕ) → Tree → Type 0
KeepsSeam a b c t = (u : Tree) → IsUnder u t → a ≤ first_leaf u → end_leaf u ≤ c → (end_leaf u ≤ b) ⊎ (b ≤ first_leaf u)

-- four lists, of which the second or the third is empty
append_swap : (ts us vs ws : List Tree) → (us ≡ []) ⊎ (vs ≡ []) → (ts ++ us) ++ (vs ++ ws) ≡ (ts ++ vs) ++ (us ++ ws)
append_swap ts us vs ws h = elim h [
  | inl e ↦ rw (e, append-nil) (sym (append_assoc ts vs ws))
  | inr e ↦ rw (e, append-nil) (append_assoc ts us ws)
]

tells_inside : (a b x y : ℕ) → ((a ≤ x) × (y ≤ b)) ⊎ ((x < a) ⊎ (b < y))
tells_inside a b x y = grind arith

-- a tree outside a..c is outside a..b and b..c
outside_left : (a b c x y : ℕ) → b ≤ c → (x < a) ⊎ (c < y) → (x < a) ⊎ (b < y)
outside_left a b c x y l h = elim h [ inl w ↦ inl w | inr w ↦ inr (omega arith) ]

outside_right : (a b c x y : ℕ) → a ≤ b → (x < a) ⊎ (c < y) → (x < b) ⊎ (c < y)
outside_right a b c x y l h = elim h [ inl w ↦ inl (omega arith) | inr w ↦ inr w ]

split_whole : (ns : List Tree) (a b c : ℕ) (t : Tree) → IsBuilt ns t → KeepsSeam a b c t → a ≤ first_leaf t → end_leaf t ≤ c → maximal_inside a c t ≡ maximal_inside a b t ++ maximal_inside b c t
split_whole ns a b c t h k l r = maximal_whole a c t l r ∙ elim (k t (under_itself t) l r) [
  | inl w ↦ rw (maximal_whole a b t l w, maximal_before ns b c t h w) refl
  | inr w ↦ rw (maximal_after ns a b t h w, maximal_whole b c t w r) refl
]

maximal_split : (ns : List Tree) (a b c : ℕ) (t : Tree) → a ≤ b → b ≤ c → IsBuilt ns t → KeepsSeam a b c t → maximal_inside a c t ≡ maximal_inside a b t ++ maximal_inside b c t
maximal_split ns a b c (leaf p n) l r h k = elim (tells_inside a c n (n + 1)) [
  | inl w ↦ split_whole ns a b c (leaf p n) h k w.0 w.1
  | inr w ↦ rw (maximal_leaf a c p n w, maximal_leaf a b p n (outside_left a b c n (n + 1) r w), maximal_leaf b c p n (outside_right a b c n (n + 1) l w)) refl
]
maximal_split ns a b c (join p x y) l r h k = elim (tells_inside a c (first_leaf x) (end_leaf (join p x y))) [
  | inl w ↦ split_whole ns a b c (join p x y) h k w.0 w.1
  | inr w ↦
      maximal_join a c p x y w
      ∙ ap (λ (ts : List Tree). ts ++ maximal_inside a c y) (maximal_split ns a b c x l r h.4 (λ u v. k u (inr (inl v))))
      ∙ ap (λ (ts : List Tree). (maximal_inside a b x ++ maximal_inside b c x) ++ ts) (maximal_split ns a b c y l r h.5 (λ u v. k u (inr (inr v))))
      ∙ append_swap (maximal_inside a b x) (maximal_inside b c x) (maximal_inside a b y) (maximal_inside b c y) (elim (cases_lt b (first_leaf y)) [
        | inl s ↦ inr (maximal_after ns a b y h.5 (omega arith))
        | inr s ↦ inl (maximal_before ns b c x h.4 (omega (arith, h.3)))
      ])
      ∙ ap (λ (ts : List Tree). ts ++ (maximal_inside b c x ++ maximal_inside b c y)) (sym (maximal_join a b p x y (outside_left a b c (first_leaf x) (end_leaf (join p x y)) r w)))
      ∙ ap (λ (ts : List Tree). maximal_inside a b (join p x y) ++ ts) (sym (maximal_join b c p x y (outside_right a b c (first_leaf x) (end_leaf (join p x y)) l w)))
]

flat_split : (ns : List Tree) (a b c o n : ℕ) (ts : List Tree) → a ≤ b → b ≤ c → Spans o n ts → AllByRecursion (IsBuilt ns) ts → AllByRecursion (KeepsSeam a b c) ts →
    flat_map (maximal_inside a c) ts ≡ flat_map (maximal_inside a b) ts ++ flat_map (maximal_inside b c) ts
flat_split ns a b c o n [] l r s h k = refl
flat_split ns a b c o n (t ∷ ts) l r s h k =
    ap (λ (us : List Tree). us ++ flat_map (maximal_inside a c) ts) (maximal_split ns a b c t l r h.0 k.0)
    ∙ ap (λ (us : List Tree). (maximal_inside a b t ++ maximal_inside b c t) ++ us) (flat_split ns a b c (o + width t) n ts l r s.1 h.1 k.1)
    ∙ append_swap (maximal_inside a b t) (maximal_inside b c t) (flat_map (maximal_inside a b) ts) (flat_map (maximal_inside b c) ts) (elim (cases_lt b (o + width t)) [
      | inl w ↦ inr (flat_after ns a b (o + width t) n ts s.1 h.1 (omega arith))
      | inr w ↦ inl (maximal_before ns b c t h.0 (omega (arith, s.0)))
    ])

pub nodes_inside_split : (rule : List ℕ → List ℕ) (n a b c : ℕ) → a ≤ b → b ≤ c → AllByRecursion (KeepsSeam a b c) (peaks_of rule n) →
    nodes_inside rule n a c ≡ nodes_inside rule n a b ++ nodes_inside rule n b c
nodes_inside_split rule n a b c l r k = flat_split (forest rule n).nodes a b c 0 n (peaks_of rule n) l r (peaks_spans rule n) (peaks_built rule n) k

-- ---- nodes that coordinates tell
-- a stretch of w from a multiple of w on ends at another multiple or before it, or begins there or after it
multiple_seam : (k j w : ℕ) → (k * w + w ≤ j * w) ⊎ (j * w ≤ k * w)
multiple_seam k j w = elim (cases_lt k j) [
  | inl l ↦ (let up : suc k * w ≤ j * w = mul-le-mul_right w l in inl (omega arith))
  | inr l ↦ inr (mul-le-mul_right w l)
]

-- a multiple of 2 ^ h is one of 2 ^ e, where e is at most h
seam_multiple : (b m h e : ℕ) → b ≡ m * 2 ^ h → e ≤ h → (j : ℕ) × (b ≡ j * 2 ^ e)
seam_multiple b m h e s l =
    let d : h - e + e ≡ h = omega arith in
    (m * 2 ^ (h - e), s ∙ ap (λ (x : ℕ). m * 2 ^ x) (sym d) ∙ ap (λ (x : ℕ). m * x) (pow-add 2 (h - e) e) ∙ omega arith)

module _ (rule : List ℕ → List ℕ) (max_leaves : ℕ) (equal : MergesEqual rule max_leaves) (root birth : ℕ → ℕ → ℕ) (formulas : AreCoordinates rule max_leaves root birth) where
  -- a node stands where its first leaf and height say, and they are the only ones that say so
  pub root_node : (s p h : ℕ) (t : Tree) → IsNode rule max_leaves p h t → first_leaf t ≡ s → root s h ≡ p
  root_node s p h t k e = ap (λ (x : ℕ). root x h) (sym e) ∙ ap (root (first_leaf t)) (sym k.3) ∙ sym (formulas.place k.0 p t k.1 k.2)

  pub first_leaf_once : (s p h : ℕ) (t : Tree) → root s h ≡ p → IsNode rule max_leaves p h t → s ≡ first_leaf t
  first_leaf_once s p h t e k = formulas.injective s (first_leaf t) h (e ∙ sym (root_node (first_leaf t) p h t k refl))

  pub birth_least : (s p h : ℕ) (t : Tree) → root s h ≡ p → IsNode rule max_leaves p h t → IsBirthSize rule p (birth s h)
  birth_least s p h t e k =
      subst (IsBirthSize rule p) (ap (birth (first_leaf t)) k.3 ∙ ap (λ (x : ℕ). birth x h) (sym (first_leaf_once s p h t e k))) (formulas.born k.0 p t k.1 k.2)

  -- a root that has come stands below the node count
  pub root_below : (n s a h : ℕ) → n ≤ max_leaves → s ≡ a * 2 ^ h → birth s h ≤ n → root s h < size rule n
  root_below n s a h l e b =
      let k = formulas.exists n s a h l e b in
      omega (arith, root_node s k.0 h k.1 (n, l, k.2, k.4) k.3, get_below (forest rule n).nodes k.0 k.1 k.2)

  -- the nodes over a stretch of leaves, from the leaf count on that the formula gives
  pub nodes_inside_born : (n s a h : ℕ) → n ≤ max_leaves → s ≡ a * 2 ^ h → birth s h ≤ n → map placed (nodes_inside rule n s (s + 2 ^ h)) ≡ (root s h, h) ∷ []
  nodes_inside_born n s a h l e b =
      let k = formulas.exists n s a h l e b in
      let w : width k.1 ≡ 2 ^ h = balanced_count k.1 (node_balanced rule max_leaves equal n k.0 k.1 l k.2) ∙ ap (λ (x : ℕ). 2 ^ x) k.4 in
      let end : end_leaf k.1 ≡ s + 2 ^ h = omega (arith, k.3, w) in
      let here : position k.1 ≡ root s h =
      (forest_grown rule n).placed k.0 k.1 k.2 ∙ formulas.place n k.0 k.1 l k.2 ∙ ap (λ (x : ℕ). root x (height k.1)) k.3 ∙ ap (root s) k.4 in
      ap (λ (x : ℕ). map placed (nodes_inside rule n x (s + 2 ^ h))) (sym k.3) ∙ ap (λ (x : ℕ). map placed (nodes_inside rule n (first_leaf k.1) x)) (sym end)
      ∙ ap (map placed) (nodes_inside_own rule n k.0 k.1 k.2) ∙ ap (λ (x : ℕ). (x, height k.1) ∷ []) here ∙ ap (λ (x : ℕ). (root s h, x) ∷ []) k.4

  -- no node crosses the middle of a stretch, before the stretch's own node comes
  halves_kept : (n s a h p : ℕ) (u : Tree) → n ≤ max_leaves → s ≡ a * 2 ^ suc h → n < birth s (suc h) → slice_get (forest rule n).nodes p ≡ Some u →
      s ≤ first_leaf u → end_leaf u ≤ s + 2 ^ suc h → (end_leaf u ≤ s + 2 ^ h) ⊎ (s + 2 ^ h ≤ first_leaf u)
  halves_kept n s a h p u l e b at low high =
      let w : width u ≡ 2 ^ height u = balanced_count u (node_balanced rule max_leaves equal n p u l at) in
      let k = formulas.aligned n p u l at in
      let two : 2 ^ suc h ≡ 2 ^ h * 2 = pow-suc 2 h in
      let start : s ≡ a * (2 ^ h * 2) = e ∙ ap (λ (x : ℕ). a * x) two in
      elim (cases_lt h (height u)) [
        | inl large ↦
            (let wide : 2 ^ suc h ≤ 2 ^ height u = pow_mono {i = suc h} {j = height u} large in
            let first : first_leaf u ≡ s = omega (arith, w) in
            let top : height u < suc (suc h) = log_below (height u) (suc (suc h)) (2 ^ suc h) (omega (arith, w)) (omega (arith, pow-suc 2 (suc h), pow_pos (suc h))) in
            let same : height u ≡ suc h = omega arith in
            let r = formulas.born n p u l at in
            let late : n < birth (first_leaf u) (height u) = omega (arith, b, ap (λ (x : ℕ). birth x (height u)) first, ap (birth s) same) in
            absurd (omega (arith, r.1 n late, get_below (forest rule n).nodes p u at)))
        | inr small ↦
            (let j = seam_multiple (s + 2 ^ h) (2 * a + 1) h (height u) (omega arith) small in
            elim (multiple_seam k.0 j.0 (2 ^ height u)) [ inl z ↦ inl (omega (arith, w, k.1, j.1)) | inr z ↦ inr (omega (arith, k.1, j.1)) ])
      ]

  halves_kept_all : (n s a h : ℕ) → n ≤ max_leaves → s ≡ a * 2 ^ suc h → n < birth s (suc h) → (ts : List Tree)
      → AllByRecursion (IsBuilt (forest rule n).nodes) ts → AllByRecursion (KeepsSeam s (s + 2 ^ h) (s + 2 ^ suc h)) ts
  halves_kept_all n s a h l e b [] g = tt
  halves_kept_all n s a h l e b (t ∷ ts) g = (
    λ u v x y. halves_kept n s a h (position u) u l e b (built_at (forest rule n).nodes u (built_under (forest rule n).nodes u t v g.0)) x y,
    halves_kept_all n s a h l e b ts g.1,
  )

  -- the maximal nodes inside a stretch within the leaves
  pub nodes_inside_stretch : (n s a h : ℕ) → n ≤ max_leaves → s ≡ a * 2 ^ h → s + 2 ^ h ≤ n → map placed (nodes_inside rule n s (s + 2 ^ h)) ≡ stretch_nodes root birth n s h
  nodes_inside_stretch n s a zero l e b = nodes_inside_born n s a 0 l e (omega (arith, formulas.born_before_end s 0))
  nodes_inside_stretch n s a (suc h) l e b =
      let two : 2 ^ suc h ≡ 2 ^ h * 2 = pow-suc 2 h in
      let start : s ≡ a * (2 ^ h * 2) = e ∙ ap (λ (x : ℕ). a * x) two in
      let end : s + 2 ^ h + 2 ^ h ≡ s + 2 ^ suc h = omega arith in
      elim (leb_tells (birth s (suc h)) n) [
        | inl w ↦ rw w.0 (nodes_inside_born n s a (suc h) l e w.1)
        | inr w ↦ rw w.0 (
            ap (map placed) (nodes_inside_split rule n s (s + 2 ^ h) (s + 2 ^ suc h) (omega arith) (omega arith) (halves_kept_all n s a h l e w.1 (peaks_of rule n) (peaks_built rule n)))
            ∙ map-append placed (nodes_inside rule n s (s + 2 ^ h)) (nodes_inside rule n (s + 2 ^ h) (s + 2 ^ suc h))
            ∙ ap (λ (xs : List (ℕ × ℕ)). xs ++ map placed (nodes_inside rule n (s + 2 ^ h) (s + 2 ^ suc h)))
            (nodes_inside_born n s (2 * a) h l (omega arith) (omega (arith, formulas.born_before_end s h)))
            ∙ ap (λ (x : ℕ). (root s h, h) ∷ map placed (nodes_inside rule n (s + 2 ^ h) x)) (sym end)
            ∙ ap (λ (xs : List (ℕ × ℕ)). (root s h, h) ∷ xs) (nodes_inside_stretch n (s + 2 ^ h) (2 * a + 1) h l (omega arith) (omega arith)))
      ]
