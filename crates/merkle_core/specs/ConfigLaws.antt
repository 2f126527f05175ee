-- A configuration has one spelling, no spelling begins another, and where bytes are refused they begin with none.
use Rattle.std.proofs.Common.{◌≡◌, ◌≢◌, ℕ, ◌+◌, ◌^◌, ◌<◌, ◌⊎◌, List, ◌++◌, length, sym, ◌∙◌, refl, subst, inl, inr, append_assoc}
use Rattle.std.specs.List.{flat_map}
use Rattle.merkle_base.specs.declared.error.DecodeError.{DecodeError}
use Rattle.merkle_base.specs.declared.error.DecodeError.TheVariants.{Invalid, TooMany, OutOfMemory}
use Rattle.merkle_codec.specs.NumberSpelling.{number_spelling, IsRefusalFrom}
use Rattle.merkle_codec.specs.NumberLaws.{number_spelling_once, IsRefusalFrom_after, IsRefusalFrom_once}
use Rattle.merkle_codec.specs.ProofLaws.{digests_not_refused, digests_once, IsDigestsRefusal_once}
use Rattle.merkle_codec.specs.ProofSpelling.{IsDigestsRefusal}
use Rattle.merkle_core.specs.declared.components.Config.{Config}
use Rattle.merkle_core.specs.ConfigBytes.{components_spelling, config_spelling, SameConfig, IsReadableConfig, IsRefusalFromDigests, IsConfigRefusal}

-- the components of a configuration's spelling, one after another
pub components : {D : Type 0} (bytes : D → List ℕ) (boundary : ℕ) (pins nodes : List D) (rest : List ℕ)
    → components_spelling bytes boundary pins nodes ++ rest ≡ number_spelling boundary
    ++ (number_spelling (length pins) ++ (flat_map bytes pins ++ (number_spelling (length nodes) ++ (flat_map bytes nodes ++ rest))))
components bytes boundary pins nodes rest = simp append_assoc

module _ {D : Type 0} (bytes : D → List ℕ) (size : ℕ) (sized : (x : D) → length (bytes x) ≡ size) where
  -- counted digests have one spelling, and no spelling begins another
  counted_once : ((x y : D) → bytes x ≡ bytes y → x ≡ y) → (ds es : List D) (r s : List ℕ)
      → number_spelling (length ds) ++ (flat_map bytes ds ++ r) ≡ number_spelling (length es) ++ (flat_map bytes es ++ s) → (ds ≡ es) × (r ≡ s)
  counted_once decide ds es r s e =
      let counts = number_spelling_once (length ds) (length es) (flat_map bytes ds ++ r) (flat_map bytes es ++ s) e in
      digests_once bytes size sized decide ds es r s counts.0 counts.1

  -- components have one spelling, and no spelling begins another
  pub components_once : ((x y : D) → bytes x ≡ bytes y → x ≡ y) → (b c : ℕ) (pins others nodes more : List D) (r s : List ℕ)
      → components_spelling bytes b pins nodes ++ r ≡ components_spelling bytes c others more ++ s
      → (b ≡ c) × (pins ≡ others) × (nodes ≡ more) × (r ≡ s)
  components_once decide b c pins others nodes more r s e =
      let whole = sym (components bytes b pins nodes r) ∙ e ∙ components bytes c others more s in
      let first = number_spelling_once b c _ _ whole in
      let second = counted_once decide pins others _ _ first.1 in
      let third = counted_once decide nodes more r s second.1 in
      (first.0, second.0, third.0, third.1)

  -- a configuration has one spelling, and no spelling begins another
  pub config_spelling_once : ((x y : D) → bytes x ≡ bytes y → x ≡ y)
      → {F Peaks Heights : Type 0} (c d : Config F D Peaks Heights) (r s : List ℕ)
      → config_spelling bytes c ++ r ≡ config_spelling bytes d ++ s → SameConfig c d × (r ≡ s)
  config_spelling_once decide c d r s e =
      let same = components_once decide c.pruning_boundary d.pruning_boundary c.pinned_nodes.items d.pinned_nodes.items c.nodes.items d.nodes.items r s e in
      (record { boundary = same.0; pins = same.1; nodes = same.2 }, same.3)

module _ {D : Type 0} (bytes : D → List ℕ) (size : ℕ) (sized : (x : D) → length (bytes x) ≡ size) (Spells : List ℕ → Type 0)
    (spell : (x : D) → Spells (bytes x)) where
  -- bytes that begin with digests and are refused with another error than `OutOfMemory` are refused after them
  after_digests : ((x y : D) → bytes x ≡ bytes y → x ≡ y) → (after : List ℕ → DecodeError → Type 0) (ds : List D) (rest : List ℕ) (e : DecodeError)
      → IsRefusalFromDigests bytes size Spells after (length ds) (flat_map bytes ds ++ rest) e → (e ≡ OutOfMemory) ⊎ after rest e
  after_digests decide after ds rest e (inl h) = inl (digests_not_refused bytes size sized Spells spell ds rest e h)
  after_digests decide after ds rest e (inr (es, s, count, at, more)) =
      let same = digests_once bytes size sized decide ds es rest s (sym count) at in
      inr (subst (λ l. after l e) (sym same.1) more)

  -- bytes that begin with a configuration within the limits are refused with `OutOfMemory` alone
  pub IsConfigRefusal_of_spelling : ((x y : D) → bytes x ≡ bytes y → x ≡ y) → (max_leaves most_pins most_nodes : ℕ) → max_leaves < 2 ^ 64
      → (b : List ℕ) (e : DecodeError) → IsConfigRefusal bytes size Spells max_leaves most_pins most_nodes b e
      → {F Peaks Heights : Type 0} (c : Config F D Peaks Heights) (rest : List ℕ)
      → IsReadableConfig max_leaves most_pins most_nodes c → b ≡ config_spelling bytes c ++ rest → e ≡ OutOfMemory
  IsConfigRefusal_of_spelling decide max_leaves most_pins most_nodes fits b e h c rest within k =
      let pins = c.pinned_nodes.items in
      let nodes = c.nodes.items in
      let last = flat_map bytes nodes ++ rest in
      let later = number_spelling (length nodes) ++ last in
      let at_nodes = IsRefusalFrom most_nodes TooMany (IsDigestsRefusal size Spells) in
      let at_pins = IsRefusalFrom most_pins TooMany (IsRefusalFromDigests bytes size Spells at_nodes) in
      let whole = k ∙ components bytes c.pruning_boundary pins nodes rest in
      let first = IsRefusalFrom_after max_leaves Invalid (λ _. at_pins) b e h fits c.pruning_boundary
      (number_spelling (length pins) ++ (flat_map bytes pins ++ later)) within.boundary whole in
      let second = IsRefusalFrom_after most_pins TooMany (IsRefusalFromDigests bytes size Spells at_nodes)
      (number_spelling (length pins) ++ (flat_map bytes pins ++ later)) e first
      within.most_pins_fits (length pins) (flat_map bytes pins ++ later) within.pins refl in
      elim (after_digests decide at_nodes pins later e second) [
        | inl memory ↦ memory
        | inr third ↦ digests_not_refused bytes size sized Spells spell nodes rest e
            (IsRefusalFrom_after most_nodes TooMany (IsDigestsRefusal size Spells) later e third within.most_nodes_fits (length nodes) last within.nodes refl)
      ]

  from_digests_once : ((x y : D) → bytes x ≡ bytes y → x ≡ y) → (after : List ℕ → DecodeError → Type 0) (e f : DecodeError) → e ≢ OutOfMemory → f ≢ OutOfMemory
      → ((rest : List ℕ) → after rest e → after rest f → e ≡ f) → (n : ℕ) (b : List ℕ)
      → IsRefusalFromDigests bytes size Spells after n b e → IsRefusalFromDigests bytes size Spells after n b f → e ≡ f
  from_digests_once decide after e f x y once n b (inl h) (inl k) = IsDigestsRefusal_once size Spells n b e f x y h k
  from_digests_once decide after e f x y once n b (inl h) (inr (ds, s, count, at, more)) =
      absurd (x (digests_not_refused bytes size sized Spells spell ds s e
      (subst (λ l. IsDigestsRefusal size Spells (length ds) l e) at (subst (λ m. IsDigestsRefusal size Spells m b e) (sym count) h))))
  from_digests_once decide after e f x y once n b (inr (ds, s, count, at, more)) (inl k) =
      absurd (y (digests_not_refused bytes size sized Spells spell ds s f
      (subst (λ l. IsDigestsRefusal size Spells (length ds) l f) at (subst (λ m. IsDigestsRefusal size Spells m b f) (sym count) k))))
  from_digests_once decide after e f x y once n b (inr (ds, s, count, at, more)) (inr (es, t, many, there, later)) =
      let same = digests_once bytes size sized decide ds es s t (count ∙ sym many) (sym at ∙ there) in
      once s more (subst (λ l. after l f) (sym same.1) later)

  -- bytes are refused as a configuration with one error, `OutOfMemory` aside
  pub IsConfigRefusal_once : ((x y : D) → bytes x ≡ bytes y → x ≡ y) → (max_leaves most_pins most_nodes : ℕ) (b : List ℕ) (e f : DecodeError)
      → IsConfigRefusal bytes size Spells max_leaves most_pins most_nodes b e → IsConfigRefusal bytes size Spells max_leaves most_pins most_nodes b f
      → e ≢ OutOfMemory → f ≢ OutOfMemory → e ≡ f
  IsConfigRefusal_once decide max_leaves most_pins most_nodes b e f h k x y =
      let at_nodes = IsRefusalFrom most_nodes TooMany (IsDigestsRefusal size Spells) in
      let at_pins = IsRefusalFromDigests bytes size Spells at_nodes in
      IsRefusalFrom_once max_leaves Invalid (λ _. IsRefusalFrom most_pins TooMany at_pins) b e f
      (λ _ b1. IsRefusalFrom_once most_pins TooMany at_pins b1 e f
      (λ n b2. from_digests_once decide at_nodes e f x y
      (λ b3. IsRefusalFrom_once most_nodes TooMany (IsDigestsRefusal size Spells) b3 e f (λ m b4. IsDigestsRefusal_once size Spells m b4 e f x y)) n b2)) h k
