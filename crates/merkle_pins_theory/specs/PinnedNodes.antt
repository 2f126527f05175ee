-- What a check of a range with pins hashes at nodes.
use Rattle.std.specs.Prelude.{◌≡◌, ℕ, nat_le, nat_lt, cond, List, Option, Some, None, MatchOption}
use Rattle.std.specs.List.{AllByRecursion}
use Rattle.merkle_base.specs.Hashing.{Hashing}
use Rattle.merkle_base.specs.Places.{peaks_of}
use Rattle.merkle_base.specs.Scheme.{Scheme}
use Rattle.merkle_base.specs.Tree.{Tree, leaf, join, position, first_leaf, end_leaf}
use Rattle.merkle_root_theory.specs.Expression.{Place, Node, Input}
use Rattle.merkle_root_theory.specs.Collision.{Member}
use Rattle.merkle_root_theory.specs.Check.{RangeInput}
use Rattle.merkle_root_theory.specs.Extract.{extracted}
use Rattle.merkle_root_theory.specs.Range.{end_of}
use Rattle.merkle_claim_theory.specs.Order.{node_places}
use Rattle.merkle_claim_theory.specs.Pinned.{AcceptsPinnedSome}
use Rattle.merkle_claim_theory.specs.Rebuilt.{rebuilt_node, pin_at}
use Rattle.merkle_claim_theory.specs.Verdict.{pinned_inputs}
use Rattle.merkle_audit_theory.specs.Searches.{input_at}
use Rattle.merkle_audit_theory.specs.Seen.{node_at, NothingAt}

-- the digest of a node: rebuilt from the pins, if all its leaves lie before the range, and else what f has at its position
abbrev pub pinned_value : {D : Type 0} → Hashing D → (ℕ → Option D) → (start : ℕ) → (ℕ → D) → Tree → D
pinned_value h b start f t = cond (nat_le (end_leaf t) start) (rebuilt_node h b t) (f (position t))

-- two digests, unless there is a pin
abbrev pub unless_pinned : {D : Type 0} → Option D → D × D → Option (D × D)
unless_pinned None x = Some x
unless_pinned (Some d) x = None

-- the digests of a node's children, if it overlaps start..stop or lies before it without a pin
abbrev pub pinned_children : {D : Type 0} → Hashing D → (ℕ → Option D) → (start stop : ℕ) → (ℕ → D) → Tree → Option (D × D)
pinned_children h b start stop f (leaf p i) = None
pinned_children h b start stop f (join p l r) =
    cond (nat_le (end_leaf (join p l r)) start) (unless_pinned (b p) (rebuilt_node h b l, rebuilt_node h b r))
    (cond (nat_lt (first_leaf l) stop) (Some (pinned_value h b start f l, pinned_value h b start f r)) None)

-- from a tree's root down to where e says nothing, f has what e says at each node, and from there on nothing
abbrev pub SeesDown : {D : Type 0} → (Tree → Option (D × D)) → (Place → Option (Input D)) → Tree → Type 0
SeesDown e f (leaf p i) = Unit {0}
SeesDown e f (join p l r) = MatchOption (e (join p l r)) (NothingAt f (node_places (join p l r)))
    (λ x. (f (Node p) ≡ Some (node_at (join p l r) x)) × SeesDown e f l × SeesDown e f r)

-- what is hashed at the nodes, for an accepted range input with pins, is what `pinned_children` says by f, which has the extracted digests
abbrev pub PinnedIsSeen : Type 0 → Type 0
PinnedIsSeen D = (s : Scheme D) (r : RangeInput D) (pins : List D) (root : D) → AcceptsPinnedSome s r pins root
    → (f : ℕ → D) → ((p : ℕ) (d : D) → Member (extracted s r) (p, d) → f p ≡ d)
    → AllByRecursion (SeesDown (pinned_children s.hashing (pin_at s r.start pins) r.start (end_of r) f) (input_at (pinned_inputs s r pins)))
    (peaks_of s.rule r.leaves)
