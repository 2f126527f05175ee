-- The parts of a store's proof, read from its pairs.
use Rattle.std.proofs.Common.{◌≡◌, ℕ, ◌+◌, ◌-◌, ◌<◌, List, [], ◌∷◌, ◌++◌, length, take, drop, reverse, min, cond, true, false, Option, Some, None, arith, refl, ap, ap₂, sym, ◌∙◌, append_assoc}
use Rattle.std.specs.Option.{option_to_list, option_or, option_map_or}
use Rattle.std.proofs.lemmas.List.{length-drop, drop_min, take_all, map-append}
use Rattle.merkle_base.specs.Hashing.{Hashing}
use Rattle.merkle_base.specs.Root.{right_fold, folded}
use Rattle.merkle_base.specs.declared.family.Bagging.TheVariants.{ForwardFold}
use Rattle.merkle_store_theory.specs.StoreValue.{StoreValue}
use Rattle.merkle_store_theory.specs.StoreProof.{found_at, first_lacking, ends_with}
use Rattle.merkle_store_theory.specs.StoreReads.{read_at, prefix_at, suffix_at, proof_at, lacking_at, suffix_refusal_at}
use Rattle.merkle_claim_theory.specs.Store.{read_pair}
use Rattle.merkle_proof.specs.declared.range_plan.RangeCounts.{RangeCounts}
use Rattle.merkle_verification.specs.PairReads.{read_all}
use Rattle.merkle_verification.specs.StoreParts.{counts_with, parts_refusal}

pub tail_is : {X : Type 0} (k : ℕ) (xs : List X) → take (length xs - k) (drop k xs) ≡ drop k xs
tail_is k xs = take_all (length xs - k) (drop k xs) (omega (arith, length-drop k xs))

module _ {D : Type 0} (h : Hashing D) (v : StoreValue D) where
  -- the fold of the peaks after the store's own is that of the asked prefix
  pub prefix_read : (held k : ℕ) (ps : List ℕ) (o : Option D) → 0 < length ps → k ≡ min held (length ps)
      → o ≡ folded h.fold ForwardFold 0 (option_to_list v.prefix ++ read_all h v.pairs (take (length ps - k) (drop k ps))) → option_to_list o ≡ prefix_at h v held ps
  prefix_read held k [] o some e w = absurd (omega (arith, some))
  prefix_read held k (p ∷ ps) o some e w =
      ap option_to_list (w ∙ ap (λ z. folded h.fold ForwardFold 0 (option_to_list v.prefix ++ read_all h v.pairs z))
      (tail_is k (p ∷ ps) ∙ ap (λ j. drop j (p ∷ ps)) e ∙ drop_min held (p ∷ ps)))

  -- the bag of the peaks before the store's own is that of the asked suffix
  pub suffix_read : (ps front : List ℕ) (o : Option D) → 0 < length ps → front ≡ take (length ps - length v.suffix_peaks) ps
      → o ≡ right_fold h.fold (read_all h v.pairs front ++ option_to_list v.suffix) → option_to_list o ≡ suffix_at h v ps
  suffix_read [] front o some e w = absurd (omega (arith, some))
  suffix_read (p ∷ ps) front o some e w = ap option_to_list (w ∙ ap (λ z. right_fold h.fold (read_all h v.pairs z ++ option_to_list v.suffix)) e)

module _ {D : Type 0} (v : StoreValue D) where
  lacking_front : (qs ps : List ℕ) → v.suffix_peaks ≡ qs → ends_with ps qs ≡ true → lacking_at v qs ps ≡ first_lacking (found_at v.pairs) (reverse (take (length ps - length v.suffix_peaks) ps))
  lacking_front [] ps e w = ap (λ z. first_lacking (found_at v.pairs) (reverse z)) (sym (take_all (length ps - length v.suffix_peaks) ps (omega (arith, ap length e))))
  lacking_front (q ∷ qs) ps e w = ap (λ b. cond b (first_lacking (found_at v.pairs) (reverse (take (length ps - length v.suffix_peaks) ps))) (Some q)) w

  -- a suffix that ends with the store's own lacks what those before it lack
  pub suffix_lacks : (ps front : List ℕ) → 0 < length ps → front ≡ take (length ps - length v.suffix_peaks) ps → ends_with ps v.suffix_peaks ≡ true
      → suffix_refusal_at v ps ≡ first_lacking (found_at v.pairs) (reverse front)
  suffix_lacks [] front some e w = absurd (omega (arith, some))
  suffix_lacks (p ∷ ps) front some e w = lacking_front v.suffix_peaks (p ∷ ps) refl w ∙ ap (λ z. first_lacking (found_at v.pairs) (reverse z)) (sym e)

  -- another is refused by the first of the store's own
  pub suffix_refused : (ps : List ℕ) (q : ℕ) (qs : List ℕ) → 0 < length ps → v.suffix_peaks ≡ q ∷ qs → ends_with ps v.suffix_peaks ≡ false → suffix_refusal_at v ps ≡ Some q
  suffix_refused [] q qs some e w = absurd (omega (arith, some))
  suffix_refused (p ∷ ps) q qs some e w =
      ap (λ z. lacking_at v z (p ∷ ps)) e ∙ ap (λ b. cond b (first_lacking (found_at v.pairs) (reverse (take (length (p ∷ ps) - length v.suffix_peaks) (p ∷ ps)))) (Some q))
      (ap (λ z. ends_with (p ∷ ps) z) (sym e) ∙ w)

-- where the first is none, it is the second
pub or_skip : (x y z : Option ℕ) → x ≡ None → y ≡ z → option_or x y ≡ z
or_skip x y z e f = ap (λ w. option_or w y) e ∙ f

-- and else the first
pub or_take : (x y : Option ℕ) (p : ℕ) → x ≡ Some p → option_or x y ≡ Some p
or_take x y p e = ap (λ w. option_or w y) e

module _ {D : Type 0} (v : StoreValue D) where
  -- what two lists lack together
  lacking_append : (ps qs : List ℕ) (rest : Option ℕ)
      → option_or (first_lacking (found_at v.pairs) (ps ++ qs)) rest
      ≡ option_or (first_lacking (found_at v.pairs) ps) (option_or (first_lacking (found_at v.pairs) qs) rest)
  lacking_append [] qs rest = refl
  lacking_append (p ∷ ps) qs rest = by_found (lacking_append ps qs rest) (found_at v.pairs p)
    where
      by_found : option_or (first_lacking (found_at v.pairs) (ps ++ qs)) rest ≡ option_or (first_lacking (found_at v.pairs) ps) (option_or (first_lacking (found_at v.pairs) qs) rest)
          → (o : Option D) → option_or (option_map_or (λ (d : D). first_lacking (found_at v.pairs) (ps ++ qs)) o (Some p)) rest
          ≡ option_or (option_map_or (λ (d : D). first_lacking (found_at v.pairs) ps) o (Some p)) (option_or (first_lacking (found_at v.pairs) qs) rest)
      by_found e None = refl
      by_found e (Some d) = e

  -- what the parts lack, one after another
  pub parts_lack : (c : RangeCounts) (held : ℕ) (ps prefix before after suffix siblings : List ℕ)
      → prefix ≡ take c.folded ps → before ≡ drop c.folded (take c.before ps) → after ≡ take c.single (drop c.before ps)
      → suffix ≡ drop c.single (take c.after (drop c.before ps)) → siblings ≡ drop (c.before + c.after) ps
      → parts_refusal v (counts_with c held) ps
      ≡ option_or (first_lacking (found_at v.pairs) (drop held prefix))
      (option_or (first_lacking (found_at v.pairs) before)
      (option_or (first_lacking (found_at v.pairs) after) (option_or (suffix_refusal_at v suffix) (first_lacking (found_at v.pairs) siblings))))
  parts_lack c held ps prefix before after suffix siblings e1 e2 e3 e4 e5 =
      ap₂ option_or (ap (λ z. first_lacking (found_at v.pairs) (drop held z)) (sym e1))
      (ap₂ option_or (ap (first_lacking (found_at v.pairs)) (ap₂ ◌++◌ (sym e2) (sym e3))) (ap₂ option_or (ap (suffix_refusal_at v) (sym e4)) (ap (first_lacking (found_at v.pairs)) (sym e5)))
      ∙ lacking_append before after (option_or (suffix_refusal_at v suffix) (first_lacking (found_at v.pairs) siblings)))

  read_append : (h : Hashing D) (ps qs : List ℕ) → read_at h v (ps ++ qs) ≡ read_at h v ps ++ read_at h v qs
  read_append h ps qs = map-append (λ p. read_pair h v.pairs p) ps qs

  -- the digests of the parts, appended one after another
  pub parts_read : (h : Hashing D) (c : RangeCounts) (held : ℕ) (ps prefix before after suffix siblings : List ℕ) (one two three four five six : List D) (x y : List D)
      → prefix ≡ take c.folded ps → before ≡ drop c.folded (take c.before ps) → after ≡ take c.single (drop c.before ps)
      → suffix ≡ drop c.single (take c.after (drop c.before ps)) → siblings ≡ drop (c.before + c.after) ps
      → x ≡ prefix_at h v held prefix → y ≡ suffix_at h v suffix
      → one ≡ [] → two ≡ one ++ x → three ≡ two ++ read_at h v before → four ≡ three ++ read_at h v after → five ≡ four ++ y → six ≡ five ++ read_at h v siblings
      → six ≡ proof_at h v (counts_with c held) ps
  parts_read h c held ps prefix before after suffix siblings one two three four five six x y e1 e2 e3 e4 e5 u w a b d f i j =
      let first : two ≡ x = b ∙ ap (λ z. z ++ x) a in
      let third : four ≡ x ++ (read_at h v before ++ read_at h v after) = f
      ∙ ap (λ z. z ++ read_at h v after) (d ∙ ap (λ z. z ++ read_at h v before) first) ∙ append_assoc x (read_at h v before) (read_at h v after) in
      let last : six ≡ x ++ ((read_at h v before ++ read_at h v after) ++ (y ++ read_at h v siblings)) =
      j ∙ ap (λ z. z ++ read_at h v siblings) (i ∙ ap (λ z. z ++ y) third)
      ∙ append_assoc (x ++ (read_at h v before ++ read_at h v after)) y (read_at h v siblings)
      ∙ append_assoc x (read_at h v before ++ read_at h v after) (y ++ read_at h v siblings) in
      last ∙ ap₂ ◌++◌ (u ∙ ap (prefix_at h v held) e1) (ap₂ ◌++◌ (sym (read_append h before after) ∙ ap (read_at h v) (ap₂ ◌++◌ e2 e3)) (ap₂ ◌++◌ (w ∙ ap (suffix_at h v) e4) (ap (read_at h v) e5)))
